use Rattle.rewrite_rules.proofs.NameLemmas.{names_differ}
use Rattle.rewrite_rules.proofs.laws.names_differ.Goals as goal

pub returns : goal.returns
returns c = names_differ
