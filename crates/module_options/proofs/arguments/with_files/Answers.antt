-- One argument after another.
use Rattle.std.specs.Prelude.{refl}
use Rattle.std.proofs.lemmas.Result.{IfOk-weaker}
use Rattle.module_options.proofs.ArgumentsLemmas.{one_more}
use Rattle.module_options.proofs.arguments.with_files.Goals as goal

pub returns : goal.returns
returns c =
    let one = one_more _ _ _ _ _ refl c.in_ok-arg.ensures c.input_argument.ensures.local c.input_argument.ensures.rule in
    IfOk-weaker c.arg-2.result _ _ (λ r h. one_more _ r _ _ _ one h c.output_argument.ensures.local c.output_argument.ensures.rule) c.arg-2.ensures
