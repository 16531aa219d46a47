-- What the rules beside the table write may stand in the place of what stood there.
use Rattle.std.proofs.Common.{[], ◌∷◌, ◌++◌}
use Rattle.wasm_execution.specs.Operation.{operator_of}
use Rattle.wasm_equivalence.specs.validation.StaysValid.{MoreGlobalsCheckAlike, TypedCodePushes, PushesOnFrames, RowTypesStay}
use Rattle.rewrite_rules.specs.declared.pattern.Operator.TheVariants.{Whole}
use Rattle.rewrite_rules.specs.Instance.{constant_code, operator_code}
use Rattle.rewrite_rules.specs.Laws.{LinesKeepCode}
use Rattle.rewrite_rules.specs.Beside.{constants, sum_code, BesidesKeepCode}
use Rattle.rewrite_rules.proofs.beside.StandLemmas.{unasked}
use Rattle.rewrite_rules.proofs.beside.ConstantRules.{fold, as_a_sum}
use Rattle.rewrite_rules.proofs.beside.GlobalRule.{through_global}
use Rattle.rewrite_rules.proofs.beside.NopRules.{with_nop, drop_nop, forget}
use Rattle.rewrite_rules.proofs.beside.LocalRules.{tee_to_set, set_to_tee}
use Rattle.rewrite_rules.proofs.beside.AccessRules.{access_stands}

pub besides_keep_code : TypedCodePushes → PushesOnFrames → RowTypesStay → MoreGlobalsCheckAlike → LinesKeepCode → BesidesKeepCode
besides_keep_code push frames stay wide law = record {
  unasked = unasked;
  fold = λ context f cs n typed given.
      unasked context [] (constants cs ++ operator_code (Whole f) ∷ []) (constant_code (operator_of f).result n ∷ []) (fold f cs n typed given law context);
  as_a_sum = λ context t n word. unasked context [] (constant_code t n ∷ []) (sum_code t n word) (as_a_sum t n word law context);
  through_global = through_global push frames stay wide;
  with_nop = with_nop push frames wide;
  drop_nop = drop_nop push frames wide;
  forget = forget push frames stay wide;
  tee_to_set = tee_to_set push frames wide;
  set_to_tee = set_to_tee push frames wide;
  access = access_stands wide;
}
