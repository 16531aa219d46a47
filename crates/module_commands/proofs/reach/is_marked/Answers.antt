-- The mark there.
use Rattle.std.proofs.Common.{false, refl}
use Rattle.module_commands.proofs.ReachLemmas.{marked_if}
use Rattle.module_commands.proofs.reach.is_marked.Goals as goal

pub returns : goal.returns
returns c = marked_if c.args.marks.now c.args.at false _ c.requires refl
