use Rattle.std.proofs.Common.{◌∙◌}
use Rattle.peephole_graphs.proofs.dfg.MiniDFGDisplay.fmt.Goals as goal

pub returns-in-Ok-clause-writes : goal.returns-in-Ok-clause-writes
returns-in-Ok-clause-writes g c plain ok = rw (c.as_str.ensures.value ∙ c.in-Ok.ensures) at (c.write_str.ensures.writes plain ok)
