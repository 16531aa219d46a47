-- Values on top of a stack: a constant's, and that of pure code with further globals.
use Rattle.std.proofs.Common.{◌≡◌, ℕ, suc, ◌-◌, ◌<◌, List, [], ◌∷◌, ◌++◌, length, take, refl, sym, ap, ◌∙◌, arith, append-nil}
use Rattle.std.specs.Prelude.{◌%◌, ◌^◌}
use Rattle.std.specs.List.{All}
use Rattle.std.proofs.Math.Nat.{mod-eq_of_lt}
use Rattle.std.proofs.lemmas.List.{take_at, drop_at, length-append}
use Rattle.wasm_code.specs.Instruction.{Instruction}
use Rattle.wasm_types.specs.declared.types.PrimitiveTypeInfo.{PrimitiveTypeInfo}
use Rattle.wasm_execution.specs.declared.integer.IntegerType.TheVariants as integer
use Rattle.wasm_execution.specs.Values.{Value, IsValue, types, whole, Context, State, HasTypes, Outcome, Ends, Stuck}
use Rattle.wasm_execution.specs.IntegerRow.{constant, integer_row}
use Rattle.wasm_execution.specs.Machine.{step, run}
use Rattle.wasm_execution.specs.Agreement.{with_globals}
use Rattle.wasm_execution.specs.OutcomeLemmas.{run_one}
use Rattle.wasm_execution.specs.RowLemmas.{step_at}
use Rattle.wasm_execution.specs.StateLemmas.{with_more}
use Rattle.wasm_execution.specs.SameLemmas.{run_follows}
use Rattle.wasm_equivalence.specs.control.Standard.{last_of}
use Rattle.wrapped_code.specs.Ways.{IsPure}

pub last_is : (xs : List Value) (v : Value) → last_of 1 (xs ++ v ∷ []) ≡ v ∷ []
last_is xs v = drop_at xs (v ∷ []) (length (xs ++ v ∷ []) - 1) (omega (arith, length-append xs (v ∷ [])))

pub front_is : (xs : List Value) (v : Value) → take (length (xs ++ v ∷ []) - 1) (xs ++ v ∷ []) ≡ xs
front_is xs v = take_at xs (v ∷ []) (length (xs ++ v ∷ []) - 1) (omega (arith, length-append xs (v ∷ [])))

-- ---- a constant

pub run_constant : (one : Instruction) (n : ℕ) (stack : List Value) (s : State) → integer_row one ≡ constant integer.I32 n →
    run (one ∷ []) stack s ≡ Ends (stack ++ whole integer.I32 n ∷ []) s
run_constant one n stack s e =
    run_one one (constant integer.I32 n) stack s e ∙
    (ap (λ (x : List Value). step (constant integer.I32 n) x s) (sym (append-nil stack)) ∙ step_at (constant integer.I32 n) stack [] s refl)

-- a constant that isn't zero
pub small_is : (n : ℕ) → suc n < 2 ^ 32 → suc n % 2 ^ 32 ≡ suc n
small_is n l = mod-eq_of_lt l

-- ---- pure code

-- pure code with further globals
pub pure_more : (context : Context) (t : PrimitiveTypeInfo) (code : List Instruction) (p : IsPure context t code) (stack more : List Value) (s : State) →
    All IsValue stack → HasTypes context s →
    (after : List Value) × (types after ≡ types more) × (run code stack (with_globals more s) ≡ Ends (stack ++ p.value s ∷ []) (with_globals after s))
pure_more context t code p stack more s a h =
    let (after, e, is) = run_follows context code more stack s h a (λ z. not_stuck (sym (p.gives stack s a h) ∙ z)) in
    (after, e, is ∙ ap (with_more after) (p.gives stack s a h))
  where
    not_stuck : ◌≡◌ {A = Outcome} (Ends (stack ++ p.value s ∷ []) s) Stuck → ⊥
    not_stuck z = absurd cc
