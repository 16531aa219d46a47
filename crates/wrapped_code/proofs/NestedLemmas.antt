-- A function in which a branch under a condition was replaced by a conditional with a branch in it, or the other way round, does as it did.
use Rattle.std.proofs.Common.{◌≡◌, ℕ, true, List, [], ◌++◌, refl, sym, ap, ◌∙◌, subst}
use Rattle.wasm_code.specs.declared.operator.Operator.{Operator}
use Rattle.wasm_types.specs.Module.{Module}
use Rattle.wasm_types.specs.declared.types.PrimitiveTypeInfo.{PrimitiveTypeInfo}
use Rattle.wasm_equivalence.specs.control.Function.{structural, At, runs}
use Rattle.wasm_equivalence.specs.control.Standard.{Beyond, by_asked}
use Rattle.wasm_equivalence.specs.modules.Program.{function_context}
use Rattle.wasm_equivalence.specs.validation.Sound.{HasTargets, HasDeeds, TargetsStay, DeedsStay}
use Rattle.wasm_equivalence.specs.validation.StaysValid.{MoreGlobalsCheckAlike}
use Rattle.wrapped_code.specs.Handlers.{none_handle}
use Rattle.wrapped_code.specs.Nested.{BranchesMayNest, BranchesMayUnnest}
use Rattle.wrapped_code.proofs.PlaceLemmas.{count}
use Rattle.wrapped_code.proofs.HandlerLemmas.{NoHandler, no_handler}
use Rattle.wrapped_code.proofs.BetweenLemmas.{no_handler_without, targets_with, targets_without, deeds_with, deeds_without}
use Rattle.wrapped_code.proofs.AlikeLemmas.{ends_does}
use Rattle.wrapped_code.proofs.OpenedLemmas.{front_bare}
use Rattle.wrapped_code.proofs.NestedRunLemmas.{plain_part, nested_part, plain, nested, plain_is, nested_is, plain_control, nested_control}
use Rattle.wrapped_code.proofs.NestedRunLemmas.{runs_meet, ends_nested, ends_plain}
use Rattle.wrapped_code.proofs.NestedCheckLemmas.{nested_valid, plain_valid}

module _ (m : Module) (front back : List Operator) (label : ℕ) where
  abbrev plain_body : List Operator
  plain_body = plain front back label

  abbrev nested_body : List Operator
  nested_body = nested front back label

  abbrev n : ℕ
  n = count front

  abbrev xs : List Operator
  xs = structural front

  abbrev ys : List Operator
  ys = structural back

  plain_unhandled : none_handle plain_body ≡ true → NoHandler (xs ++ ys)
  plain_unhandled e =
      no_handler_without xs (plain_part label) ys n 1 refl refl refl (subst NoHandler (plain_is front back label) (no_handler plain_body e))

  nested_unhandled : none_handle nested_body ≡ true → NoHandler (xs ++ ys)
  nested_unhandled e =
      no_handler_without xs (nested_part label) ys n 3 refl refl refl (subst NoHandler (nested_is front back label) (no_handler nested_body e))

  module _ (beyond : Beyond) where
    abbrev Targets : List Operator → Type 0
    Targets os = HasTargets m os (by_asked os beyond)

    nested_targets : Targets (structural plain_body) → Targets (structural nested_body)
    nested_targets h =
        subst Targets (sym (nested_is front back label)) (targets_with xs (nested_part label) ys n 3 refl refl refl m beyond
        (targets_without xs (plain_part label) ys n 1 refl refl refl m beyond (subst Targets (plain_is front back label) h)))

    plain_targets : Targets (structural nested_body) → Targets (structural plain_body)
    plain_targets h =
        subst Targets (sym (plain_is front back label)) (targets_with xs (plain_part label) ys n 1 refl refl refl m beyond
        (targets_without xs (nested_part label) ys n 3 refl refl refl m beyond (subst Targets (nested_is front back label) h)))

    module _ (unhandled : NoHandler (xs ++ ys)) (results : List PrimitiveTypeInfo) where
      abbrev Deeds : List Operator → Type 0
      Deeds os = HasDeeds m results os (by_asked os beyond)

      nested_deeds : Deeds (structural plain_body) → Deeds (structural nested_body)
      nested_deeds h =
          subst Deeds (sym (nested_is front back label)) (deeds_with xs (nested_part label) ys n 3 refl refl refl m beyond results unhandled
          (deeds_without xs (plain_part label) ys n 1 refl refl refl m beyond results unhandled (subst Deeds (plain_is front back label) h)))

      plain_deeds : Deeds (structural nested_body) → Deeds (structural plain_body)
      plain_deeds h =
          subst Deeds (sym (plain_is front back label)) (deeds_with xs (plain_part label) ys n 1 refl refl refl m beyond results unhandled
          (deeds_without xs (nested_part label) ys n 3 refl refl refl m beyond results unhandled (subst Deeds (nested_is front back label) h)))

pub branches_nest : MoreGlobalsCheckAlike → TargetsStay → DeedsStay → BranchesMayNest
branches_nest more_law targets_stay deeds_stay m input old new w =
    let context = function_context m old in
    let front = w.front in
    let label = w.label in
    let one = plain_body m front w.back label in
    let other = nested_body m front w.back label in
    let none = ap none_handle (sym w.old_is) ∙ w.unhandled in
    let unhandled = plain_unhandled m front w.back label none in
    ends_does targets_stay deeds_stay m input old new one other w.params_are w.locals_are w.old_is w.new_is (record {
      ends = λ results beyond fuel s typed.
          ends_nested front w.back label m results beyond unhandled
          (runs (plain_control front w.back label m results beyond unhandled) one fuel (At 0 [] [] s))
          (runs (nested_control front w.back label m results beyond unhandled) other fuel (At 0 [] [] s))
          (runs_meet front w.back label m results beyond unhandled fuel s);
      valid = λ results beyond.
          nested_valid more_law input context results beyond front w.back label
          (front_bare context results (structural one) (by_asked (structural one) beyond) (no_handler one none) front
          (plain_part label ++ structural w.back) label (plain_is front w.back label) w.bare);
      targets = nested_targets m front w.back label;
      deeds = λ results beyond. nested_deeds m front w.back label beyond unhandled results;
    })

pub branches_unnest : MoreGlobalsCheckAlike → TargetsStay → DeedsStay → BranchesMayUnnest
branches_unnest more_law targets_stay deeds_stay m input old new w =
    let context = function_context m old in
    let front = w.front in
    let label = w.label in
    let one = nested_body m front w.back label in
    let other = plain_body m front w.back label in
    let unhandled = nested_unhandled m front w.back label (ap none_handle (sym w.old_is) ∙ w.unhandled) in
    ends_does targets_stay deeds_stay m input old new one other w.params_are w.locals_are w.old_is w.new_is (record {
      ends = λ results beyond fuel s typed.
          ends_plain front w.back label m results beyond unhandled
          (runs (plain_control front w.back label m results beyond unhandled) other fuel (At 0 [] [] s))
          (runs (nested_control front w.back label m results beyond unhandled) one fuel (At 0 [] [] s))
          (runs_meet front w.back label m results beyond unhandled fuel s);
      valid = λ results beyond. plain_valid more_law input context results beyond front w.back label;
      targets = plain_targets m front w.back label;
      deeds = λ results beyond. plain_deeds m front w.back label beyond unhandled results;
    })
