use Rattle.std.proofs.Common.{◌≡◌, ◌<◌, length}
use Rattle.peephole_analysis.specs.Analysis.{Analysis}
use Rattle.peephole_analysis.specs.TermTypes.{known_type}
use Rattle.peephole_analysis.proofs.term_types.deciding_place.Given as goal

abbrev pub invariant-loop-operand : goal.invariant-loop-operand
invariant-loop-operand l = (l.place < length l.nodes) × ((a : Analysis) → known_type a l.nodes l.place ≡ known_type a l.nodes l.from)

abbrev pub decreases-loop-operand : goal.decreases-loop-operand
decreases-loop-operand l = l.place
