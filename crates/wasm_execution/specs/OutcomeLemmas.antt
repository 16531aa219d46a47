-- Runs one after another, and the types of a list of values (this project).
use Rattle.std.proofs.Common.{◌≡◌, List, [], ◌∷◌, ◌++◌, length, refl, ap, ◌∙◌, arith, append_assoc}
use Rattle.wasm_code.specs.Instruction.{Instruction}
use Rattle.wasm_execution.specs.Values.{Value, types, State, Outcome, Ends, Traps, Stuck, then_run, above}
use Rattle.wasm_execution.specs.IntegerRow.{IntegerRow, integer_row}
use Rattle.wasm_execution.specs.Machine.{step, run}

-- ---- outcomes

pub then_ends : (o : Outcome) → then_run o Ends ≡ o
then_ends (Ends vs s) = refl
then_ends (Traps c gs r) = refl
then_ends Stuck = refl

pub above_above : (a b : List Value) (o : Outcome) → above (a ++ b) o ≡ above a (above b o)
above_above a b (Ends vs s) = ap (λ x. Ends x s) (append_assoc a b vs)
above_above a b (Traps c gs r) = refl
above_above a b Stuck = refl

-- ---- runs

pub run_append : (a b : List Instruction) (stack : List Value) (s : State) → run (a ++ b) stack s ≡ then_run (run a stack s) (run b)
run_append [] b stack s = refl
run_append (i ∷ a) b stack s = go (step (integer_row i) stack s) (run_append a b)
  where
    go : (o : Outcome) → ((stack : List Value) (s : State) → run (a ++ b) stack s ≡ then_run (run a stack s) (run b)) →
        then_run o (run (a ++ b)) ≡ then_run (then_run o (run a)) (run b)
    go (Ends vs s) ih = ih vs s
    go (Traps c gs r) ih = refl
    go Stuck ih = refl

pub run_three : (a b c : List Instruction) (stack : List Value) (s : State) →
    run (a ++ b ++ c) stack s ≡ then_run (then_run (run a stack s) (run b)) (run c)
run_three a b c stack s = run_append (a ++ b) c stack s ∙ ap (λ o. then_run o (run c)) (run_append a b stack s)

-- one instruction, by its row
pub run_one : (i : Instruction) (row : IntegerRow) (stack : List Value) (s : State) → integer_row i ≡ row →
    run (i ∷ []) stack s ≡ step row stack s
run_one i row stack s e = then_ends (step (integer_row i) stack s) ∙ ap (λ r. step r stack s) e

-- the first instruction, by its row
pub run_cons : (i : Instruction) (code : List Instruction) (row : IntegerRow) (stack next : List Value) (s m : State) →
    integer_row i ≡ row → step row stack s ≡ Ends next m → run (i ∷ code) stack s ≡ run code next m
run_cons i code row stack next s m e f = ap (λ o. then_run o (run code)) (ap (λ r. step r stack s) e ∙ f)

-- ---- types

pub types_append : (vs us : List Value) → types (vs ++ us) ≡ types vs ++ types us
types_append [] us = refl
types_append (v ∷ vs) us = ap (λ x. v.type ∷ x) (types_append vs us)

pub length_types : (vs : List Value) → length (types vs) ≡ length vs
length_types [] = refl
length_types (v ∷ vs) = let e = length_types vs in omega arith
