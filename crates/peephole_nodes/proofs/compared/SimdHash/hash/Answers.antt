use Rattle.std.proofs.Common.{rules}
use Rattle.std.specs.Hash.{fed_then}
use Rattle.peephole_nodes.proofs.compared.SimdHash.hash.Goals as goal

pub returns : goal.returns
returns c c' = search (rules, fed_then)
