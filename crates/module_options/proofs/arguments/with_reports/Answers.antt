-- One argument after another.
use Rattle.std.specs.Prelude.{refl}
use Rattle.std.proofs.lemmas.Result.{IfOk-weaker}
use Rattle.module_options.proofs.ArgumentsLemmas.{headed, one_more}
use Rattle.module_options.proofs.arguments.with_reports.Goals as goal

pub returns : goal.returns
returns c =
    let headed_so = headed c.args.command _ _ _ refl c.next_help_heading.ensures in
    let one = one_more _ _ _ _ _ headed_so c.in_ok-arg.ensures c.flag_argument.ensures.local c.flag_argument.ensures.rule in
    let two = one_more _ _ _ _ _ one c.in_ok-arg-2.ensures c.flag_argument-2.ensures.local c.flag_argument-2.ensures.rule in
    let three = one_more _ _ _ _ _ two c.in_ok-arg-3.ensures c.flag_argument-3.ensures.local c.flag_argument-3.ensures.rule in
    let four = one_more _ _ _ _ _ three c.in_ok-arg-4.ensures c.flag_argument-4.ensures.local c.flag_argument-4.ensures.rule in
    IfOk-weaker c.arg-5.result _ _ (λ r h. one_more _ r _ _ _ four h c.flag_argument-5.ensures.local c.flag_argument-5.ensures.rule) c.arg-5.ensures
