-- The columns are lined up.
use Rattle.std.proofs.Common.{rules}
use Rattle.module_commands.proofs.ColumnsLemmas.{left_is}
use Rattle.module_commands.proofs.sites.write_text.Goals as goal

pub returns-clause-line : goal.returns-clause-line
returns-clause-line g c = simp left_is (search rules)
