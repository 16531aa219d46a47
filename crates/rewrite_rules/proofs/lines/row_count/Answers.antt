use Rattle.std.proofs.Common.{refl}
use Rattle.rewrite_rules.specs.Table.{parts}
use Rattle.rewrite_rules.proofs.lines.row_count.Goals as goal

pub returns : goal.returns
unfolding parts
returns c = refl
