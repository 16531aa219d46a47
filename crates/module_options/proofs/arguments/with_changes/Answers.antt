-- One argument after another.
use Rattle.std.specs.Prelude.{refl}
use Rattle.std.proofs.lemmas.Result.{IfOk-weaker}
use Rattle.module_options.proofs.ArgumentsLemmas.{one_more}
use Rattle.module_options.proofs.arguments.with_changes.Goals as goal

pub returns : goal.returns
returns c =
    let one = one_more _ _ _ _ _ refl c.in_ok-arg.ensures c.flag_argument.ensures.local c.flag_argument.ensures.rule in
    let two = one_more _ _ _ _ _ one c.in_ok-arg-2.ensures c.number_argument.ensures.local c.number_argument.ensures.rule in
    let three = one_more _ _ _ _ _ two c.in_ok-arg-3.ensures c.change_argument.ensures.local c.change_argument.ensures.rule in
    let four = one_more _ _ _ _ _ three c.in_ok-arg-4.ensures c.number_argument-2.ensures.local c.number_argument-2.ensures.rule in
    IfOk-weaker c.arg-5.result _ _ (λ r h. one_more _ r _ _ _ four h c.number_argument-3.ensures.local c.number_argument-3.ensures.rule) c.arg-5.ensures
