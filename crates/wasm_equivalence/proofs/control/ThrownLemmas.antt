-- A branch, and an exception, keep the types and see nothing of what stands behind the module's globals.
use Rattle.std.proofs.Common.{◌≡◌, ℕ, zero, suc, Bool, true, false, List, [], ◌∷◌, ◌++◌, length, take, Option, Some, None, refl}
use Rattle.std.specs.Prelude.{slice_get, if◌then◌else◌}
use Rattle.std.specs.List.{All}
use Rattle.std.proofs.lemmas.List.Elements.{All-take, All-append}
use Rattle.wasm_code.specs.declared.operator.Operator.{Operator}
use Rattle.wasm_code.specs.declared.operator.Operator.TheVariants as op
use Rattle.wasm_types.specs.Module.{Module}
use Rattle.wasm_types.specs.declared.types.PrimitiveTypeInfo.{PrimitiveTypeInfo}
use Rattle.wasm_execution.specs.Values.{Value, IsValue, State, met, Stuck}
use Rattle.wasm_equivalence.specs.control.Function.{Label, Reached, At, Done}
use Rattle.wasm_equivalence.specs.control.Blocks.{Role, handles, tries, catches, delegates, does, role_of}
use Rattle.wasm_equivalence.specs.control.Standard.{last_of, Caught, branches, begins, delegated, Beyond, only_values, leave, jump_other}
use Rattle.wasm_equivalence.specs.control.Standard.{jump_to, branch, caught_at, or_caught, thrown}
use Rattle.wasm_equivalence.specs.control.Numbers.{are_values}
use Rattle.wasm_equivalence.proofs.control.NumberLemmas.{values_are}
use Rattle.wasm_equivalence.proofs.control.FineLemmas.{Widening, IsFine, at_fine, end_fine, trap_fine, stuck_fine, with_rest, last_all, unwound_all}

module _ (widening : Widening) where
  open widening use {input, extra, context}

  module _ (m : Module) (results : List PrimitiveTypeInfo) (structure : List Operator) where
    pub leave_fine : (stack : List Value) → All IsValue stack → IsFine widening (leave m results structure stack)
    leave_fine stack a = end_fine widening (last_of (length results) stack) (last_all (length results) stack a)

    other_jump_fine : (beyond : Beyond) (role : Role) (label : Label) (outer : List Label) (stack : List Value) → All IsValue stack →
        IsFine widening (jump_other m results structure beyond role label outer stack)
    other_jump_fine beyond handles label outer stack a = at_fine widening _ _ _ (unwound_all label.height _ stack a)
    other_jump_fine beyond tries label outer stack a = at_fine widening _ _ _ (unwound_all label.height _ stack a)
    other_jump_fine beyond catches label outer stack a = at_fine widening _ _ _ (unwound_all label.height _ stack a)
    other_jump_fine beyond delegates label outer stack a = stuck_fine widening
    other_jump_fine beyond does label outer stack a = stuck_fine widening

    jump_fine : (beyond : Beyond) (o : Option Operator) (label : Label) (outer : List Label) (stack : List Value) → All IsValue stack →
        IsFine widening (jump_to m results structure beyond o label outer stack)
    jump_fine beyond (Some (op.Loop t)) label outer stack a = at_fine widening _ _ _ (unwound_all label.height _ stack a)
    jump_fine beyond (Some (op.Block t)) label outer stack a = at_fine widening _ _ _ (unwound_all label.height _ stack a)
    jump_fine beyond (Some (op.If t)) label outer stack a = at_fine widening _ _ _ (unwound_all label.height _ stack a)
    jump_fine beyond (Some (op.Other o)) label outer stack a = other_jump_fine beyond (role_of o) label outer stack a
    jump_fine beyond o label outer stack a = stuck_fine widening

    pub branch_fine : (beyond : Beyond) (l : ℕ) (labels : List Label) (stack : List Value) → All IsValue stack →
        IsFine widening (branch m results structure beyond l labels stack)
    branch_fine beyond zero [] stack a = leave_fine stack a
    branch_fine beyond (suc l) [] stack a = stuck_fine widening
    branch_fine beyond zero (label ∷ outer) stack a = jump_fine beyond (slice_get structure label.opener) label outer stack a
    branch_fine beyond (suc l) (label ∷ outer) stack a = branch_fine beyond l outer stack a

    -- only values go on
    pub only_fine : (vs : List Value) (next : State → Reached) → (All IsValue vs → IsFine widening next) →
        IsFine widening (λ s. only_values m results structure vs (next s))
    only_fine vs next f = by_test (are_values vs) refl
      where
        by_test : (b : Bool) → are_values vs ≡ b → IsFine widening (λ s. if b then next s else Done Stuck)
        by_test true e = f (values_are vs e)
        by_test false e = stuck_fine widening

    -- ---- exceptions

    -- what the block makes of it, or what those around do
    or_fine : (beyond : Beyond) (o : Option Caught) (height : ℕ) (outer : List Label) (stack : List Value) (later : ℕ → State → Reached) →
        All IsValue stack → ((n : ℕ) → IsFine widening (later n)) →
        IsFine widening (λ s. or_caught m results structure beyond o height outer stack s (λ n. later n s))
    or_fine beyond (Some (branches l vs r)) height outer stack later a f =
        only_fine vs (λ s. branch m results structure beyond l outer (take height stack ++ vs) (record s { rest = r }))
        (λ b. with_rest widening r (branch m results structure beyond l outer (take height stack ++ vs))
        (branch_fine beyond l outer (take height stack ++ vs) (All-append IsValue (take height stack) vs (All-take IsValue height stack a) b)))
    or_fine beyond (Some (begins j vs r)) height outer stack later a f =
        let label : Label = record { opener = j; height = height } in
        only_fine vs (λ s. At (suc j) (label ∷ outer) (take height stack ++ vs) (record s { rest = r }))
        (λ b. with_rest widening r (λ s. At (suc j) (label ∷ outer) (take height stack ++ vs) s)
        (at_fine widening (suc j) (label ∷ outer) (take height stack ++ vs)
        (All-append IsValue (take height stack) vs (All-take IsValue height stack a) b)))
    or_fine beyond (Some (delegated l)) height outer stack later a f = f l
    or_fine beyond None height outer stack later a f = f 0

    pub thrown_fine : (beyond : Beyond) (mark skipped : ℕ) (labels : List Label) (stack : List Value) → All IsValue stack →
        IsFine widening (thrown m results structure beyond mark skipped labels stack)
    thrown_fine beyond mark skipped [] stack a = trap_fine widening (met mark)
    thrown_fine beyond mark (suc n) (label ∷ outer) stack a = thrown_fine beyond mark n outer stack a
    thrown_fine beyond mark zero (label ∷ outer) stack a =
        let caught : ℕ → Option Caught = λ r. caught_at m results structure beyond (slice_get structure label.opener) label.opener mark r in
        let at = λ (r : ℕ). or_fine beyond (caught r) label.height outer stack (λ n. thrown m results structure beyond mark n outer stack) a
        (λ n. thrown_fine beyond mark n outer stack a) in
        record {
          keeps = λ s h. (at s.rest).keeps s h;
          follows = λ more s h n. (at s.rest).follows more s h n;
          alone = λ o s kept h. (at s.rest).alone o s kept h;
          wide = λ w v widens at_is ls gs r h. (at r).wide w v widens at_is ls gs r h;
        }
