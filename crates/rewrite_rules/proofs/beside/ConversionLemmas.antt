-- What is done with a value behind a load, or before a store: an operator, or one with a constant.
use Rattle.std.proofs.Common.{◌≡◌, ℕ, ◌-◌, Bool, true, false, List, [], ◌∷◌, ◌++◌, length, take, drop, map, Option, Some, None, refl, sym}
use Rattle.std.proofs.Common.{ap, ap₂, ◌∙◌, subst, append_assoc, suc}
use Rattle.std.specs.Prelude.{◌&&◌, Ok, Result, is_some, option_and_then}
use Rattle.std.specs.List.{All}
use Rattle.std.proofs.lemmas.List.Elements.{All-nil, All-cons}
use Rattle.wasm_types.specs.Module.{Module}
use Rattle.wasm_types.specs.declared.types.PrimitiveTypeInfo.{PrimitiveTypeInfo}
use Rattle.wasm_types.specs.declared.types.PrimitiveTypeInfo.TheVariants as primitive
use Rattle.wasm_execution.specs.declared.integer.IntegerType.{IntegerType}
use Rattle.wasm_execution.specs.declared.operation.Operation.{Operation}
use Rattle.wasm_execution.specs.OtherRow.{typed}
use Rattle.wasm_execution.specs.Operation.{operator_of}
use Rattle.wasm_execution.specs.Values.{Cause, type_of, same_type, same_types, results_on, Value, IsValue, IsOfType, types, Context, State}
use Rattle.wasm_execution.specs.Values.{HasTypes, Ends, Stuck, then_run, above}
use Rattle.wasm_execution.specs.IntegerRow.{IntegerRow, if_typed, operand_count, typed_operand_count, row_types, integer_row}
use Rattle.wasm_execution.specs.Machine.{state_context, only_if, effect, act, step, run}
use Rattle.wasm_execution.specs.OutcomeLemmas.{run_append, run_one}
use Rattle.wasm_execution.specs.RowLemmas.{step_at}
use Rattle.wasm_equivalence.specs.validation.Algorithm.{Frame, check_code}
use Rattle.wasm_equivalence.specs.validation.StaysValid.{with_types}
use Rattle.rewrite_rules.specs.declared.access.Conversion.{Conversion}
use Rattle.rewrite_rules.specs.declared.access.Conversion.TheVariants.{By, With}
use Rattle.rewrite_rules.specs.declared.pattern.Operator.{Operator}
use Rattle.rewrite_rules.specs.declared.pattern.Operator.TheVariants.{Whole, Exact}
use Rattle.rewrite_rules.specs.Access.{conversion_code}
use Rattle.rewrite_rules.specs.Exact.{ExactOperator, exact_code, exact_at}
use Rattle.rewrite_rules.specs.Instance.{constant_code, operator_code}
use Rattle.rewrite_rules.specs.Numbers.{value_on, low}
use Rattle.rewrite_rules.specs.Pattern.{operands_told, result_told}
use Rattle.rewrite_rules.proofs.ExactLemmas.{fixed_operands, exact_is, exact_type}
use Rattle.rewrite_rules.proofs.MeaningLemmas.{constant_runs}
use Rattle.rewrite_rules.proofs.OperatorLemmas.{row_is, same_at, finished, act_on}
use Rattle.rewrite_rules.proofs.beside.FrameLemmas.{Takes, accept_same, other_takes, operation_takes, taken_under}

-- ---- operators

-- What is known of an operator on operands of these types, where what runs the module is exact.
pub record IsOperator (o : Operator) (ts : List PrimitiveTypeInfo) (u : PrimitiveTypeInfo) : Type 0 where
  pub typed_on : (context : Context) (us : List PrimitiveTypeInfo) → row_types context (integer_row (operator_code o)) us ≡ if_typed (same_types us ts) (u ∷ [])
  pub takes_its : (context : Context) → Takes context (operator_code o ∷ []) (fixed_operands ts) (u ∷ [])
  pub count : (info : Module) → operand_count info (integer_row (operator_code o)) ≡ length ts
  pub acts : (context : Context) → context.info.exact ≡ true → (vs : List Value) (s : State) → HasTypes context s → types vs ≡ ts → All IsValue vs →
      (n : ℕ) → value_on o (map (λ v. v.number) vs) ≡ Ok n → act (integer_row (operator_code o)) vs s ≡ Ends (record { type = u; number = n } ∷ []) s

pub whole : (f : Operation) → IsOperator (Whole f) (operator_of f).operands (type_of (operator_of f).result)
whole f =
    let own = row_is (Whole f) refl in
    record {
      typed_on = λ context us. ap (λ r. row_types context r us) own;
      takes_its = λ context. operation_takes context (operator_code (Whole f)) (operator_of f) own;
      count = λ info. ap (operand_count info) own;
      acts = λ context exact vs s h t hv n e.
          ap (λ r. act r vs s) own
          ∙ (act_on context primitive.I32 refl (Whole f) refl (λ k. exact) vs s h (t ∙ sym (same_at primitive.I32 (operator_of f).operands)) hv
          ∙ ap (λ r. finished (type_of (operator_of f).result) r s) e);
    }

pub exactly_one : (n : ℕ) (i : Option ℕ) (o : ExactOperator) → exact_at n i ≡ Some o → IsOperator (Exact n i) o.operands o.result
exactly_one n i o told =
    let known : is_some (exact_at n i) ≡ true = ap is_some told in
    let is = exact_is (exact_code n i) o told in
    let own = row_is (Exact n i) known in
    record {
      typed_on = λ context us.
          ap (λ r. row_types context r us) own
          ∙ (ap (option_and_then (results_on us)) (exact_type (exact_code n i) o is context.info)
          ∙ ap (λ b. if_typed b (o.result ∷ [])) (accept_same o.operands us));
      takes_its = λ context.
          other_takes context (exact_code n i) (record { operands = fixed_operands o.operands; results = o.result ∷ [] }) own
          (exact_type (exact_code n i) o is context.info);
      count = λ info.
          ap (operand_count info) own ∙ (ap typed_operand_count (exact_type (exact_code n i) o is info) ∙ fixed_count o.operands);
      acts = λ context exact vs s h t hv m e.
          ap (λ r. act r vs s) own
          ∙ (act_on context primitive.I32 refl (Exact n i) known (λ k. exact) vs s h
          (t ∙ sym (same_at primitive.I32 (operands_told (exact_at n i)) ∙ ap operands_told told)) hv
          ∙ ap₂ (λ (u : PrimitiveTypeInfo) (r : Result ℕ Cause). finished u r s) (ap result_told told) e);
    }
  where
    fixed_count : (ts : List PrimitiveTypeInfo) → length (fixed_operands ts) ≡ length ts
    fixed_count [] = refl
    fixed_count (t ∷ ts) = ap suc (fixed_count ts)

-- where operands aren't of its types, it is stuck
stuck_on : (row : IntegerRow) (vs : List Value) (s : State) → row_types (state_context s) row (types vs) ≡ None → act row vs s ≡ Stuck
stuck_on row vs s e = ap (λ r. only_if (is_some r) (effect row vs s)) e

-- ---- conversions

-- What is known of one: it takes a value of the first type, and leaves one of the second one, the number of which the function gives; and on no value, or one
-- of another type, it is stuck.
pub record Converts (context : Context) (c : Conversion) (t u : PrimitiveTypeInfo) (f : ℕ → ℕ) : Type 0 where
  pub takes_one : (all : Context) → Takes all (conversion_code c) (typed (Some t) ∷ []) (u ∷ [])
  pub fits : (n : ℕ) → IsOfType t n → IsOfType u (f n)
  pub runs : (below : List Value) (v : Value) (s : State) → HasTypes context s → IsValue v → v.type ≡ t →
      run (conversion_code c) (below ++ v ∷ []) s ≡ Ends (below ++ record { type = u; number = f v.number } ∷ []) s
  pub on_none : (s : State) → run (conversion_code c) [] s ≡ Stuck
  pub on_other : (below : List Value) (v : Value) (s : State) → same_type v.type t ≡ false → run (conversion_code c) (below ++ v ∷ []) s ≡ Stuck

module _ (context : Context) (exact : context.info.exact ≡ true) (o : Operator) (t u : PrimitiveTypeInfo) (f : ℕ → ℕ)
    (fit : (n : ℕ) → IsOfType t n → IsOfType u (f n)) where
  abbrev row : IntegerRow
  row = integer_row (operator_code o)

  pub by_operator : IsOperator o (t ∷ []) u → ((n : ℕ) → IsOfType t n → value_on o (n ∷ []) ≡ Ok (f n)) → Converts context (By o) t u f
  by_operator is value = record {
    takes_one = is.takes_its;
    fits = fit;
    runs = λ below v s h i e.
        run_one (operator_code o) row (below ++ v ∷ []) s refl
        ∙ (step_at row below (v ∷ []) s (is.count s.world.info)
        ∙ ap (above below) (is.acts context exact (v ∷ []) s h (ap (λ (w : PrimitiveTypeInfo). w ∷ []) e) (All-cons IsValue v [] i (All-nil IsValue))
        (f v.number)
        (value v.number (subst (λ (w : PrimitiveTypeInfo). IsOfType w v.number) e i))));
    on_none = λ s.
        run_one (operator_code o) row [] s refl
        ∙ (ap (λ (k : ℕ). above (take (0 - k) []) (act row (drop (0 - k) []) s)) (is.count s.world.info)
        ∙ ap (above []) (stuck_on row [] s (is.typed_on (state_context s) [])));
    on_other = λ below v s e.
        run_one (operator_code o) row (below ++ v ∷ []) s refl
        ∙ (step_at row below (v ∷ []) s (is.count s.world.info)
        ∙ ap (above below) (stuck_on row (v ∷ []) s (is.typed_on (state_context s) (v.type ∷ []) ∙ ap (λ b. if_typed (b && true) (u ∷ [])) e)));
  }

  module _ (k : IntegerType) (c : ℕ) where
    abbrev constant : Value
    constant = record { type = type_of k; number = low k c }

    -- the constant stands on top
    on_constant : (stack : List Value) (s : State) →
        run (constant_code k c ∷ operator_code o ∷ []) stack s ≡ step row (stack ++ constant ∷ []) s
    on_constant stack s =
        run_append (constant_code k c ∷ []) (operator_code o ∷ []) stack s
        ∙ (ap (λ r. then_run r (run (operator_code o ∷ []))) (constant_runs k c stack s) ∙ run_one (operator_code o) row (stack ++ constant ∷ []) s refl)

    pub with_constant : IsOperator o (t ∷ type_of k ∷ []) u → ((n : ℕ) → IsOfType t n → value_on o (n ∷ low k c ∷ []) ≡ Ok (f n)) →
        IsOfType (type_of k) (low k c) → ((all : Context) (g : Frame) → check_code all (constant_code k c ∷ []) g ≡ Some (with_types (type_of k ∷ []) g)) →
        Converts context (With k c o) t u f
    with_constant is value low_is pushes = record {
      takes_one = λ all.
          taken_under all (operator_code o ∷ []) (typed (Some t) ∷ []) (type_of k) (u ∷ []) (is.takes_its all) (constant_code k c ∷ []) (pushes all);
      fits = fit;
      runs = λ below v s h i e.
          on_constant (below ++ v ∷ []) s
          ∙ (ap (λ l. step row l s) (append_assoc below (v ∷ []) (constant ∷ []))
          ∙ (step_at row below (v ∷ constant ∷ []) s (is.count s.world.info)
          ∙ ap (above below) (is.acts context exact (v ∷ constant ∷ []) s h (ap (λ (w : PrimitiveTypeInfo). w ∷ type_of k ∷ []) e)
          (All-cons IsValue v (constant ∷ []) i (All-cons IsValue constant [] low_is (All-nil IsValue))) (f v.number)
          (value v.number (subst (λ (w : PrimitiveTypeInfo). IsOfType w v.number) e i)))));
      on_none = λ s.
          on_constant [] s
          ∙ (ap (λ (j : ℕ). above (take (1 - j) (constant ∷ [])) (act row (drop (1 - j) (constant ∷ [])) s)) (is.count s.world.info)
          ∙ ap (above []) (stuck_on row (constant ∷ []) s (is.typed_on (state_context s) (type_of k ∷ [])
          ∙ ap (λ b. if_typed b (u ∷ [])) (never (same_type (type_of k) t)))));
      on_other = λ below v s e.
          on_constant (below ++ v ∷ []) s
          ∙ (ap (λ l. step row l s) (append_assoc below (v ∷ []) (constant ∷ []))
          ∙ (step_at row below (v ∷ constant ∷ []) s (is.count s.world.info)
          ∙ ap (above below) (stuck_on row (v ∷ constant ∷ []) s
          (is.typed_on (state_context s) (v.type ∷ type_of k ∷ []) ∙ ap (λ b. if_typed (b && same_types (type_of k ∷ []) (type_of k ∷ [])) (u ∷ [])) e))));
    }
      where
        never : (b : Bool) → (b && false) ≡ false
        never true = refl
        never false = refl
