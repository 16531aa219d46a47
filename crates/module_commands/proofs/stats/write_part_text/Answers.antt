-- The columns are lined up.
use Rattle.module_commands.proofs.ColumnsLemmas.{left_is}
use Rattle.module_commands.proofs.stats.write_part_text.Goals as goal

pub returns-clause-line : goal.returns-clause-line
returns-clause-line g c = simp left_is (rw c.laid_out.ensures at c.in_ok-writeln.ensures.bytes)
