-- By the names that are given.
use Rattle.std.proofs.Common.{List, Option, Some, None, codes, subst, sym}
use Rattle.std.proofs.lemmas.Result.{IfErr-weaker, IfOk-weaker}
use Rattle.clap.specs.Matches.{found_of}
use Rattle.clap.specs.Walk.{Text, rows_of, texts}
use Rattle.module_options.specs.Named.{AreNamedRules}
use Rattle.module_options.proofs.OptionsLemmas.{misused_name, names_given}
use Rattle.module_options.proofs.named.rules_of.Goals as goal

pub returns-in-Some-clause-rules : goal.returns-in-Some-clause-rules
returns-in-Some-clause-rules c =
    let given = names_given (found_of c.args.matches.now) (codes "rule") c.get_strs.result c.get_strs.ensures (Some c.in-Some.names) c.in-Some.is in
    IfOk-weaker c.named_rules.result _ _ (λ rs h. subst (λ (o : Option (List Text)). AreNamedRules o rs.items) (sym given) h) c.named_rules.ensures.named

pub returns-in-Some-clause-unknown : goal.returns-in-Some-clause-unknown
returns-in-Some-clause-unknown c =
    let given = names_given (found_of c.args.matches.now) (codes "rule") c.get_strs.result c.get_strs.ensures (Some c.in-Some.names) c.in-Some.is in
    IfErr-weaker c.named_rules.result _ _
    (λ e h. misused_name (rows_of (found_of c.args.matches.now)) (texts c.in-Some.names.now) e given h) c.named_rules.ensures.unknown

pub returns-in_ok-all_rules-in-None-clause-rules : goal.returns-in_ok-all_rules-in-None-clause-rules
returns-in_ok-all_rules-in-None-clause-rules c =
    let given = names_given (found_of c.args.matches.now) (codes "rule") c.get_strs.result c.get_strs.ensures None c.in-None.is in
    subst (λ (o : Option (List Text)). AreNamedRules o c.in_ok-all_rules-in-None.field-0.items) (sym given) c.in_ok-all_rules-in-None.ensures
