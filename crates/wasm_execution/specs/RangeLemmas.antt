-- What rows leave: the values of a constant, a sum, and a global that is set and read (this project).
use Rattle.std.proofs.Common.{◌≡◌, ℕ, zero, suc, ◌+◌, ◌-◌, ◌%◌, ◌^◌, ◌<◌, true, List, [], ◌∷◌, ◌++◌, Some, refl, sym, ap, ◌∙◌, arith, append_assoc}
use Rattle.std.specs.Prelude.{set as slice_set, slice_get, option_and_then, option_map}
use Rattle.std.proofs.lemmas.List.{append-nil}
use Rattle.std.proofs.lemmas.Option.{slice_get-map}
use Rattle.std.proofs.Math.Nat.{add-mod-mod, add-mod_right, mod-mod}
use mir.Val.{bits}
use Rattle.wasm_code.specs.Instruction.{Instruction}
use Rattle.wasm_types.specs.declared.types.PrimitiveTypeInfo.{PrimitiveTypeInfo}
use Rattle.wasm_execution.specs.declared.integer.IntegerType.TheVariants as integer
use Rattle.wasm_execution.specs.Values.{IntegerType, type_of, width_of, same_type, same_types, Value, whole, types, State, global, write, Ends, above}
use Rattle.wasm_execution.specs.Integer.{binary, add}
use Rattle.wasm_execution.specs.IntegerRow.{constant, operation, get, set, if_typed, row_types, integer_row}
use Rattle.wasm_execution.specs.Machine.{read_of, state_context, step, run}
use Rattle.wasm_execution.specs.OutcomeLemmas.{run_one, run_cons}
use Rattle.wasm_execution.specs.RowLemmas.{if_typed_is, same_type_self, step_at, act_is}

-- ---- constants and sums

pub run_op : (t : IntegerType) (n : ℕ) (stack : List Value) (s : State) → step (constant t n) stack s ≡ Ends (stack ++ whole t n ∷ []) s
run_op t n stack s =
    ap (λ x. step (constant t n) x s) (sym (append-nil stack)) ∙
    (step_at (constant t n) stack [] s refl ∙ ap (above stack) (act_is (constant t n) [] (type_of t ∷ []) s refl))

pub run_add : (t : IntegerType) (a b : Value) (stack : List Value) (s : State) → a.type ≡ type_of t → b.type ≡ type_of t →
    step (operation (binary t add)) (stack ++ a ∷ b ∷ []) s ≡ Ends (stack ++ whole t (a.number + b.number) ∷ []) s
run_add t a b stack s ha hb =
    let same : same_types (a.type ∷ b.type ∷ []) (type_of t ∷ type_of t ∷ []) ≡ true = rw (ha, hb, same_type_self (type_of t)) refl in
    step_at (operation (binary t add)) stack (a ∷ b ∷ []) s refl ∙
    ap (above stack) (act_is (operation (binary t add)) (a ∷ b ∷ []) (type_of t ∷ []) s
    (if_typed_is (same_types (a.type ∷ b.type ∷ []) (type_of t ∷ type_of t ∷ [])) (type_of t ∷ []) same))

-- a number is a word and what is left of the number without it
pub sum_split : (M n w : ℕ) → 0 < M → (w % M + (n + (M - w % M)) % M) % M ≡ n % M
sum_split M n w l =
    let b : w % M < M = omega arith in
    let e : w % M + (n + (M - w % M)) ≡ n + M = omega arith in
    add-mod-mod (w % M) (n + (M - w % M)) M ∙ (ap (λ x. x % M) e ∙ add-mod_right n M)

pub size_positive : (t : IntegerType) → 0 < 2 ^ bits (width_of t)
size_positive integer.I32 = omega arith
size_positive integer.I64 = omega arith

run_low : (t : IntegerType) (n : ℕ) (stack : List Value) (s : State) →
    step (constant t (n % 2 ^ bits (width_of t))) stack s ≡ Ends (stack ++ whole t n ∷ []) s
run_low t n stack s =
    run_op t (n % 2 ^ bits (width_of t)) stack s ∙
    ap (λ x. Ends (stack ++ record { type = type_of t; number = x } ∷ []) s) (mod-mod n (2 ^ bits (width_of t)))

-- a word, what is left of a number without it, and their sum
pub run_sum : (t : IntegerType) (n word : ℕ) (i j k : Instruction) (stack : List Value) (s : State) →
    integer_row i ≡ constant t (word % 2 ^ bits (width_of t)) →
    integer_row j ≡ constant t ((n + (2 ^ bits (width_of t) - word % 2 ^ bits (width_of t))) % 2 ^ bits (width_of t)) →
    integer_row k ≡ operation (binary t add) → run (i ∷ j ∷ k ∷ []) stack s ≡ Ends (stack ++ whole t n ∷ []) s
run_sum t n word i j k stack s hi hj hk =
    let size = 2 ^ bits (width_of t) in
    let m = n + (size - word % size) in
    let a = whole t word in
    let b = whole t m in
    run_cons i (j ∷ k ∷ []) (constant t (word % size)) stack (stack ++ a ∷ []) s s hi (run_low t word stack s) ∙
    (run_cons j (k ∷ []) (constant t (m % size)) (stack ++ a ∷ []) ((stack ++ a ∷ []) ++ b ∷ []) s s hj (run_low t m (stack ++ a ∷ []) s) ∙
    (ap (λ x. run (k ∷ []) x s) (append_assoc stack (a ∷ []) (b ∷ [])) ∙
    (run_one k (operation (binary t add)) (stack ++ a ∷ b ∷ []) s hk ∙
    (run_add t a b stack s refl refl ∙
    ap (λ x. Ends (stack ++ record { type = type_of t; number = x } ∷ []) s) (sum_split size n word (size_positive t))))))

-- ---- a global that is set and read

get_set : (vs : List Value) (g : ℕ) (t : PrimitiveTypeInfo) (v : Value) → slice_get (types vs) g ≡ Some t →
    slice_get (slice_set vs g v) g ≡ Some v
get_set [] g t v e = absurd cc
get_set (u ∷ vs) zero t v e = refl
get_set (u ∷ vs) (suc g) t v e = get_set vs g t v e

set_type : (vs : List Value) (g : ℕ) (t : PrimitiveTypeInfo) (v : Value) → slice_get (types vs) g ≡ Some t →
    slice_get (types (slice_set vs g v)) g ≡ Some v.type
set_type vs g t v e = slice_get-map (λ v. v.type) (slice_set vs g v) g ∙ ap (option_map (λ v. v.type)) (get_set vs g t v e)

-- a value that is put into a global and read from it again
pub run_through : (t : PrimitiveTypeInfo) (g : ℕ) (v : Value) (i j : Instruction) (stack : List Value) (s : State) →
    integer_row i ≡ set (global g) → integer_row j ≡ get (global g) → v.type ≡ t →
    slice_get (types s.globals) g ≡ Some t →
    run (i ∷ j ∷ []) (stack ++ v ∷ []) s ≡ Ends (stack ++ v ∷ []) (write (global g) v s)
run_through t g v i j stack s hi hj hv hg =
    let w = write (global g) v s in
    let same : same_type v.type t ≡ true = ap (λ u. same_type u t) hv ∙ same_type_self t in
    let sets : row_types (state_context s) (set (global g)) (v.type ∷ []) ≡ Some [] =
    ap (option_and_then (λ u. if_typed (same_type v.type u) [])) hg ∙ if_typed_is (same_type v.type t) [] same in
    let gets : row_types (state_context w) (get (global g)) [] ≡ Some (v.type ∷ []) =
    ap (option_and_then (λ u. Some (u ∷ []))) (set_type s.globals g t v hg) in
    let first : step (set (global g)) (stack ++ v ∷ []) s ≡ Ends (stack ++ []) w =
    step_at (set (global g)) stack (v ∷ []) s refl ∙ ap (above stack) (act_is (set (global g)) (v ∷ []) [] s sets) in
    let second : step (get (global g)) (stack ++ []) w ≡ Ends (stack ++ v ∷ []) w =
    step_at (get (global g)) stack [] w refl ∙
    (ap (above stack) (act_is (get (global g)) [] (v.type ∷ []) w gets) ∙
    ap (λ o. above stack (read_of o w)) (get_set s.globals g t v hg)) in
    run_cons i (j ∷ []) (set (global g)) (stack ++ v ∷ []) (stack ++ []) s w hi first ∙
    (run_one j (get (global g)) (stack ++ []) w hj ∙ second)
