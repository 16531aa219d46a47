use Rattle.std.proofs.Common.{length}
use Rattle.peephole_payloads.specs.Parts.{remaining_parts}
use Rattle.peephole_payloads.proofs.ShuffleLemmas.{Reading}
use Rattle.peephole_payloads.proofs.payload_text.ShuffleFromStr.from_str.Given as goal

abbrev pub invariant-loop-part : goal.invariant-loop-part
invariant-loop-part l = Reading l.text (remaining_parts l.parts.left) l.indices l.count

abbrev pub decreases-loop-part : goal.decreases-loop-part
decreases-loop-part l = length (remaining_parts l.parts.left)
