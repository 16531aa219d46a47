use Rattle.std.proofs.Common.{rules}
use Rattle.peephole_nodes.proofs.TextLemmas.{numeric_text_is}
use Rattle.peephole_nodes.proofs.text.NumericDisplay.fmt.Goals as goal

pub returns-clause-writes : goal.returns-clause-writes
returns-clause-writes g c = rw (numeric_text_is c.args.self.now) (search rules)
