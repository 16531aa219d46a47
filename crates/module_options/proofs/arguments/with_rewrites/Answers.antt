-- One argument after another.
use Rattle.std.specs.Prelude.{refl}
use Rattle.std.proofs.lemmas.Result.{IfOk-weaker}
use Rattle.module_options.proofs.ArgumentsLemmas.{headed, one_more}
use Rattle.module_options.proofs.arguments.with_rewrites.Goals as goal

pub returns : goal.returns
returns c =
    let headed_so = headed c.args.command _ _ _ refl c.next_help_heading.ensures in
    let one = one_more _ _ _ _ _ headed_so c.in_ok-arg.ensures c.text_argument.ensures.local c.text_argument.ensures.rule in
    let two = one_more _ _ _ _ _ one c.in_ok-arg-2.ensures c.text_argument-2.ensures.local c.text_argument-2.ensures.rule in
    let three = one_more _ _ _ _ _ two c.in_ok-arg-3.ensures c.number_argument.ensures.local c.number_argument.ensures.rule in
    let four = one_more _ _ _ _ _ three c.in_ok-arg-4.ensures c.naming_argument.ensures.local c.naming_argument.ensures.rule in
    let five = one_more _ _ _ _ _ four c.in_ok-arg-5.ensures c.naming_argument-2.ensures.local c.naming_argument-2.ensures.rule in
    IfOk-weaker c.arg-6.result _ _ (λ r h. one_more _ r _ _ _ five h c.flag_argument.ensures.local c.flag_argument.ensures.rule) c.arg-6.ensures
