-- Kind by kind: parts of the body's own code, and new instructions that have no immediate, are constants, or access a local.
use Rattle.body_changes.proofs.BeyondLemmas.{changes_asked}
use Rattle.body_changes.proofs.laws.changes_ask_no_more.Goals as goal

pub returns : goal.returns
returns c = changes_asked
