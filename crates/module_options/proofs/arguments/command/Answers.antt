-- One group of arguments after another.
use Rattle.std.proofs.Common.{ap, ◌∙◌}
use Rattle.std.proofs.lemmas.Result.{IfOk-weaker}
use Rattle.clap.specs.Simple.{App}
use Rattle.module_options.specs.Arguments.{changing_rules, file_rules, reporting_rules, rewriting_rules, with_rules, writing_rules}
use Rattle.module_options.proofs.arguments.command.Goals as goal

pub returns : goal.returns
returns c =
    let files = c.in_ok-files.ensures ∙ ap (λ (app : App). with_rules app file_rules) c.bare_command.ensures in
    let rewrites = c.in_ok-rewrites.ensures ∙ ap (λ (app : App). with_rules app (rewriting_rules c.args.names)) files in
    let changes = c.in_ok-changes.ensures ∙ ap (λ (app : App). with_rules app changing_rules) rewrites in
    let outputs = c.in_ok-outputs.ensures ∙ ap (λ (app : App). with_rules app writing_rules) changes in
    IfOk-weaker c.with_reports.result _ _ (λ r h. h ∙ ap (λ (app : App). with_rules app reporting_rules) outputs) c.with_reports.ensures
