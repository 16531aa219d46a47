use Rattle.body_rewrites.proofs.MadeLemmas.{changes_may_stand}
use Rattle.body_rewrites.proofs.laws.changes_may_stand.Goals as goal

pub returns : goal.returns
returns c = changes_may_stand c.line_changes_may_stand.ensures c.own_changes_may_stand.ensures
