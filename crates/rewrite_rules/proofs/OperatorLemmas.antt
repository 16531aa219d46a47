-- The operators that patterns name: their rows, and what these do with values.
use Rattle.std.proofs.Common.{◌≡◌, ℕ, suc, ◌%◌, ◌^◌, arith, Bool, true, false, List, [], ◌∷◌, length, map, Option, Some, None, refl, sym}
use Rattle.std.proofs.Common.{ap, ◌∙◌, subst, true≢false}
use Rattle.std.specs.Prelude.{not, ◌==◌, is_some, if◌then◌else◌, Result, Ok, Err}
use Rattle.std.specs.List.{All}
use Rattle.std.proofs.lemmas.Bool.{false≢true}
use Rattle.std.proofs.lemmas.List.Elements.{All-head, All-tail}
use Rattle.std.proofs.lemmas.Nat.{pow_pos}
use Rattle.std.proofs.Math.Nat.{mod-lt}
use mir.Val.{bits}
use Rattle.wasm_code.specs.Table.{table, row_at}
use Rattle.wasm_types.specs.declared.types.PrimitiveTypeInfo.{PrimitiveTypeInfo}
use Rattle.wasm_execution.specs.declared.integer.IntegerType.{IntegerType}
use Rattle.wasm_execution.specs.declared.integer.IntegerType.TheVariants as integer
use Rattle.wasm_execution.specs.declared.operation.Unary.{Unary}
use Rattle.wasm_execution.specs.declared.operation.Unary.TheVariants.{Clz, Ctz, Popcnt}
use Rattle.wasm_execution.specs.declared.operation.Binary.{Binary}
use Rattle.wasm_execution.specs.declared.operation.Binary.TheVariants.{Add, Sub, Mul, DivS, DivU, RemS, RemU, And, Or, Xor, Shl, ShrS, ShrU, Rotl, Rotr}
use Rattle.wasm_execution.specs.declared.operation.Comparison.{Comparison}
use Rattle.wasm_execution.specs.declared.operation.Comparison.TheVariants.{Eq, Ne, LtS, LtU, GtS, GtU, LeS, LeU, GeS, GeU}
use Rattle.wasm_execution.specs.declared.operation.Operation.TheVariants as operation
use Rattle.wasm_execution.specs.Values.{type_of, width_of, same_types, Value, IsValue, IsOfType, types, Context, Cause, State, HasTypes}
use Rattle.wasm_execution.specs.Values.{own_globals, Outcome, Ends, Traps}
use Rattle.wasm_execution.specs.IntegerRow as row
use Rattle.wasm_execution.specs.IntegerRow.{IntegerRow, row_types, integer_row, is_numeric}
use Rattle.wasm_execution.specs.Machine.{division_trap_cause, number_or_trap, effect, state_context, act}
use Rattle.wasm_execution.specs.Computed.{kept}
use Rattle.wasm_execution.specs.Operation.{operator_of}
use Rattle.wasm_execution.specs.RowLemmas.{if_typed_is, same_type_self, act_is}
use Rattle.wasm_execution.specs.ExactLemmas.{of_bits_fits}
use Rattle.rewrite_rules.specs.declared.pattern.Operator.{Operator}
use Rattle.rewrite_rules.specs.declared.pattern.Operator.TheVariants.{Whole, Select, Exact}
use Rattle.rewrite_rules.specs.Code.{operation_traps}
use Rattle.rewrite_rules.specs.Exact.{ExactOperator, exact_code, exact_at}
use Rattle.rewrite_rules.specs.Pattern.{is_total, is_operator_known, is_exact_operator, Kind, fixed, kind_at, operands_told, result_told}
use Rattle.rewrite_rules.specs.Pattern.{operands_of, result_of}
use Rattle.rewrite_rules.specs.Numbers.{or_cause, or_zero, exact_value, value_on}
use Rattle.rewrite_rules.specs.Instance.{operator_code}
use Rattle.rewrite_rules.proofs.EffectLemmas.{has_value}
use Rattle.rewrite_rules.proofs.ExactLemmas.{exact_is, exact_typed, exact_acts}

-- ---- rows

-- the row of an operator
abbrev pub row_for : Operator → IntegerRow
row_for (Whole f) = row.operation (operator_of f)
row_for Select = row.select
row_for (Exact n i) = row.other (exact_code n i)

-- the exact row that is known
pub known : (n : ℕ) (i : Option ℕ) → is_operator_known (Exact n i) ≡ true → (o : ExactOperator) × (exact_at n i ≡ Some o)
known n i e = there (exact_at n i) e
  where
    there : (m : Option ExactOperator) → is_some m ≡ true → (o : ExactOperator) × (m ≡ Some o)
    there None e = absurd (false≢true e)
    there (Some o) e = (o, refl)

-- its instruction is that row
abbrev IsRow : Operator → Type 0
IsRow o = integer_row (operator_code o) ≡ row_for o

both : (P : IntegerType → Type 0) → P integer.I32 → P integer.I64 → (t : IntegerType) → P t
both P p q integer.I32 = p
both P p q integer.I64 = q

eqz_row : (t : IntegerType) → IsRow (Whole (operation.Eqz t))
unfolding integer_row table row_at
eqz_row integer.I32 = refl
eqz_row integer.I64 = refl

compare_row : (c : Comparison) (t : IntegerType) → IsRow (Whole (operation.Compare t c))
unfolding integer_row table row_at
compare_row Eq = both _ refl refl
compare_row Ne = both _ refl refl
compare_row LtS = both _ refl refl
compare_row LtU = both _ refl refl
compare_row GtS = both _ refl refl
compare_row GtU = both _ refl refl
compare_row LeS = both _ refl refl
compare_row LeU = both _ refl refl
compare_row GeS = both _ refl refl
compare_row GeU = both _ refl refl

unary_row : (u : Unary) (t : IntegerType) → IsRow (Whole (operation.Unary t u))
unfolding integer_row table row_at
unary_row Clz = both _ refl refl
unary_row Ctz = both _ refl refl
unary_row Popcnt = both _ refl refl

binary_row : (b : Binary) (t : IntegerType) → IsRow (Whole (operation.Binary t b))
unfolding integer_row table row_at
binary_row Add = both _ refl refl
binary_row Sub = both _ refl refl
binary_row Mul = both _ refl refl
binary_row DivS = both _ refl refl
binary_row DivU = both _ refl refl
binary_row RemS = both _ refl refl
binary_row RemU = both _ refl refl
binary_row And = both _ refl refl
binary_row Or = both _ refl refl
binary_row Xor = both _ refl refl
binary_row Shl = both _ refl refl
binary_row ShrS = both _ refl refl
binary_row ShrU = both _ refl refl
binary_row Rotl = both _ refl refl
binary_row Rotr = both _ refl refl

extend_row : (t : IntegerType) → IsRow (Whole (operation.Extend8S t)) × IsRow (Whole (operation.Extend16S t))
unfolding integer_row table row_at
extend_row integer.I32 = (refl, refl)
extend_row integer.I64 = (refl, refl)

exact_row : (n : ℕ) (i : Option ℕ) → is_operator_known (Exact n i) ≡ true → IsRow (Exact n i)
exact_row n i e = let (o, told) = known n i e in (exact_is (exact_code n i) o told).other_is

pub row_is : (o : Operator) → is_operator_known o ≡ true → integer_row (operator_code o) ≡ row_for o
unfolding integer_row table row_at
row_is (Whole (operation.Eqz t)) e = eqz_row t
row_is (Whole (operation.Compare t c)) e = compare_row c t
row_is (Whole (operation.Unary t u)) e = unary_row u t
row_is (Whole (operation.Binary t b)) e = binary_row b t
row_is (Whole operation.WrapI64) e = refl
row_is (Whole operation.ExtendI32S) e = refl
row_is (Whole operation.ExtendI32U) e = refl
row_is (Whole (operation.Extend8S t)) e = (extend_row t).0
row_is (Whole (operation.Extend16S t)) e = (extend_row t).1
row_is (Whole operation.Extend32S) e = refl
row_is Select e = refl
row_is (Exact n i) e = exact_row n i e

-- ---- types

-- the types, where a select is of type `u`
abbrev pub types_at : PrimitiveTypeInfo → List Kind → List PrimitiveTypeInfo
types_at u ks = map (kind_at u) ks

pub same_at : (u : PrimitiveTypeInfo) (ts : List PrimitiveTypeInfo) → types_at u (map fixed ts) ≡ ts
same_at u [] = refl
same_at u (t ∷ ts) = ap (λ xs. t ∷ xs) (same_at u ts)

module _ (u : PrimitiveTypeInfo) (numeric : is_numeric u ≡ true) where
  -- the row on operands of its types
  pub types_on : (context : Context) (o : Operator) → is_operator_known o ≡ true →
      row_types context (row_for o) (types_at u (operands_of o)) ≡ Some (kind_at u (result_of o) ∷ [])
  types_on context (Whole f) e =
      ap (row_types context (row.operation (operator_of f))) (same_at u (operator_of f).operands)
      ∙ if_typed_is (same_types (operator_of f).operands (operator_of f).operands) (type_of (operator_of f).result ∷ []) (all (operator_of f).operands)
    where
      all : (ts : List PrimitiveTypeInfo) → same_types ts ts ≡ true
      all [] = refl
      all (t ∷ ts) = rw (same_type_self t) (all ts)
  types_on context Select e = rw (numeric, same_type_self u) refl
  types_on context (Exact n i) e =
      let (o, told) = known n i e in
      ap (row_types context (row_for (Exact n i)))
      (same_at u (operands_told (exact_at n i)) ∙ ap operands_told told)
      ∙ (exact_typed (exact_code n i) o (exact_is (exact_code n i) o told) context
      ∙ ap (λ m. Some (result_told m ∷ [])) (sym told))

-- ---- what it does

-- a number of a type, or a trap
abbrev pub finished : PrimitiveTypeInfo → Result ℕ Cause → State → Outcome
finished t (Ok n) s = Ends (record { type = t; number = n } ∷ []) s
finished t (Err cause) s = Traps cause (own_globals s) s.rest

-- what runs the module is exact, where the operator is an exact row
abbrev pub IsReady : Context → Operator → Type 0
IsReady context o = is_exact_operator o ≡ true → context.info.exact ≡ true

module _ (context : Context) (u : PrimitiveTypeInfo) (numeric : is_numeric u ≡ true) where
  -- one that the machine says itself, on values of its operands' types
  acts : (o : Operator) → is_operator_known o ≡ true → is_exact_operator o ≡ false → (vs : List Value) (s : State) → types vs ≡ types_at u (operands_of o) →
      act (row_for o) vs s ≡ finished (kind_at u (result_of o)) (value_on o (map (λ v. v.number) vs)) s
  acts o k x vs s typed = act_is (row_for o) vs (kind_at u (result_of o) ∷ []) s
      (ap (row_types (state_context s) (row_for o)) typed ∙ types_on u numeric (state_context s) o k) ∙ effect_on o x vs typed
    where
      value : (t : IntegerType) (cause : Cause) (n : Option ℕ) → number_or_trap t n cause s ≡ finished (type_of t) (or_cause (kept (width_of t) n) cause) s
      value t cause (Some n) = refl
      value t cause None = refl

      chosen : (b : Bool) (v w : Value) → v.type ≡ u → w.type ≡ u →
          Ends ((if b then w else v) ∷ []) s ≡ finished u (Ok (if b then w.number else v.number)) s
      chosen true v w e f = ap (λ (t : PrimitiveTypeInfo). Ends (record { type = t; number = w.number } ∷ []) s) f
      chosen false v w e f = ap (λ (t : PrimitiveTypeInfo). Ends (record { type = t; number = v.number } ∷ []) s) e

      effect_on : (o : Operator) → is_exact_operator o ≡ false → (vs : List Value) → types vs ≡ types_at u (operands_of o) →
          effect (row_for o) vs s ≡ finished (kind_at u (result_of o)) (value_on o (map (λ v. v.number) vs)) s
      effect_on (Exact n i) x vs e = absurd (true≢false x)
      effect_on (Whole f) x vs e =
          value (operator_of f).result (division_trap_cause (map (λ v. v.number) vs)) ((operator_of f).value (map (λ v. v.number) vs))
      effect_on Select x [] e = absurd cc
      effect_on Select x (v ∷ []) e = absurd cc
      effect_on Select x (v ∷ w ∷ []) e = absurd cc
      effect_on Select x (v ∷ w ∷ c ∷ []) e = chosen (c.number == 0) v w (cc) (cc)
      effect_on Select x (v ∷ w ∷ c ∷ d ∷ vs) e = absurd cc

  -- any of them
  pub act_on : (o : Operator) → is_operator_known o ≡ true → IsReady context o → (vs : List Value) (s : State) → HasTypes context s →
      types vs ≡ types_at u (operands_of o) → All IsValue vs →
      act (row_for o) vs s ≡ finished (kind_at u (result_of o)) (value_on o (map (λ v. v.number) vs)) s
  act_on (Whole f) k r vs s h t hv = acts (Whole f) k refl vs s t
  act_on Select k r vs s h t hv = acts Select k refl vs s t
  act_on (Exact n i) k r vs s h t hv =
      let (o, told) = known n i k in
      let is = exact_is (exact_code n i) o told in
      exact_acts (exact_code n i) o is context vs s (r refl) h
      (t ∙ (same_at u (operands_told (exact_at n i)) ∙ ap operands_told told)) hv
      ∙ ap (λ m. finished (result_told m) (exact_value m (map (λ v. v.number) vs)) s) (sym told)

-- ---- numbers of their types

pub low_fits : (t : IntegerType) (n : ℕ) → IsOfType (type_of t) (n % 2 ^ bits (width_of t))
low_fits integer.I32 n = mod-lt n (pow_pos 32)
low_fits integer.I64 n = mod-lt n (pow_pos 64)

zero_fits : (t : IntegerType) → IsOfType (type_of t) 0
zero_fits integer.I32 = pow_pos 32
zero_fits integer.I64 = pow_pos 64

-- an operator's value on values of its operands' types, or 0 where it traps
pub value_fits : (u : PrimitiveTypeInfo) (o : Operator) → is_operator_known o ≡ true → (vs : List Value) → types vs ≡ types_at u (operands_of o) →
    All IsValue vs → IsOfType (kind_at u (result_of o)) (or_zero (value_on o (map (λ v. v.number) vs)))
value_fits u (Whole f) k vs e h = go ((operator_of f).value (map (λ v. v.number) vs))
  where
    go : (m : Option ℕ) → IsOfType (type_of (operator_of f).result)
        (or_zero (or_cause (kept (width_of (operator_of f).result) m) (division_trap_cause (map (λ v. v.number) vs))))
    go (Some n) = low_fits (operator_of f).result n
    go None = zero_fits (operator_of f).result
value_fits u Select k [] e h = absurd cc
value_fits u Select k (v ∷ []) e h = absurd cc
value_fits u Select k (v ∷ w ∷ []) e h = absurd cc
value_fits u Select k (v ∷ w ∷ c ∷ []) e h =
    let first : v.type ≡ u = cc in
    let second : w.type ≡ u = cc in
    chosen (c.number == 0)
    (subst (λ t. IsOfType t v.number) first (All-head IsValue v (w ∷ c ∷ []) h))
    (subst (λ t. IsOfType t w.number) second (All-head IsValue w (c ∷ []) (All-tail IsValue v (w ∷ c ∷ []) h)))
  where
    chosen : (b : Bool) → IsOfType u v.number → IsOfType u w.number → IsOfType u (if b then w.number else v.number)
    chosen true p q = q
    chosen false p q = p
value_fits u Select k (v ∷ w ∷ c ∷ d ∷ vs) e h = absurd cc
value_fits u (Exact n i) k vs e h =
    let (o, told) = known n i k in
    let is = exact_is (exact_code n i) o told in
    let ns = map (λ (v : Value). v.number) vs in
    subst (λ m. IsOfType (result_told m) (or_zero (exact_value m ns))) (sym told)
    (subst (λ m. IsOfType o.result m) (sym (is.value_is ns)) (of_bits_fits o.result (is.value ns)))

-- it has a number
abbrev pub HasNumber : Result ℕ Cause → Type 0
HasNumber r = (n : ℕ) × (r ≡ Ok n)

-- an operator that doesn't trap
pub total_on : (o : Operator) → is_operator_known o ≡ true → (ns : List ℕ) → is_total o ≡ true → length ns ≡ length (operands_of o) → HasNumber (value_on o ns)
total_on (Exact n i) k ns e l =
    let (o, told) = known n i k in
    (o.value ns, ap (λ m. exact_value m ns) told)
total_on (Whole f) k ns e l =
    let (n, a) = has_value f ns (is_not (operation_traps f) e) (l ∙ same (operator_of f).operands) in
    (n % 2 ^ bits (width_of (operator_of f).result), ap (λ m. or_cause (kept (width_of (operator_of f).result) m) (division_trap_cause ns)) a)
  where
    is_not : (b : Bool) → not b ≡ true → b ≡ false
    is_not true e = absurd (false≢true e)
    is_not false e = refl

    same : (ts : List PrimitiveTypeInfo) → length (map fixed ts) ≡ length ts
    same [] = refl
    same (t ∷ ts) = ap suc (same ts)
total_on Select k [] e l = absurd (omega arith)
total_on Select k (a ∷ []) e l = absurd (omega arith)
total_on Select k (a ∷ b ∷ []) e l = absurd (omega arith)
total_on Select k (a ∷ b ∷ c ∷ []) e l = (if c == 0 then b else a, refl)
total_on Select k (a ∷ b ∷ c ∷ d ∷ ns) e l = absurd (omega arith)
