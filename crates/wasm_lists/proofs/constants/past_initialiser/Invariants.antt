use Rattle.std.proofs.Common.{◌≡◌, length}
use Rattle.wasm_lists.specs.ValueReader.{initialiser_at}
use Rattle.wasm_lists.proofs.constants.past_initialiser.Given as goal

abbrev pub invariant-loop-ended : goal.invariant-loop-ended
invariant-loop-ended l = initialiser_at l.rest ≡ initialiser_at l.bytes

abbrev pub decreases-loop-ended : goal.decreases-loop-ended
decreases-loop-ended l = length l.rest
