use Rattle.rewrite_rules.proofs.RuleLemmas.{rules_are_named}
use Rattle.rewrite_rules.proofs.laws.rules_are_named.Goals as goal

pub returns : goal.returns
returns c = rules_are_named c.names_differ.ensures
