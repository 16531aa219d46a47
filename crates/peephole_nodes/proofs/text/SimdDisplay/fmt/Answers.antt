use Rattle.std.proofs.Common.{rules}
use Rattle.peephole_nodes.proofs.TextLemmas.{simd_text_is}
use Rattle.peephole_nodes.proofs.text.SimdDisplay.fmt.Goals as goal

pub returns-clause-writes : goal.returns-clause-writes
returns-clause-writes g c = rw (simd_text_is c.args.self.now) (search rules)
