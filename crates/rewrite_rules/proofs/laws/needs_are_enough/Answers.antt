use Rattle.rewrite_rules.proofs.NeedsLemmas.{needs_are_enough}
use Rattle.rewrite_rules.proofs.laws.needs_are_enough.Goals as goal

pub returns : goal.returns
returns c = needs_are_enough
