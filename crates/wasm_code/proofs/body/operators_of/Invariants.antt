use Rattle.std.proofs.Common.{length, slice_range}
use Rattle.wasm_code.proofs.BodyLemmas.{IsReadSoFar}
use Rattle.wasm_code.proofs.body.operators_of.Given as goal

abbrev pub invariant-loop-rest : goal.invariant-loop-rest
invariant-loop-rest l = IsReadSoFar l.any l.from (slice_range l.bytes l.from l.to) l.rest l.found.items l.ended

abbrev pub decreases-loop-rest : goal.decreases-loop-rest
decreases-loop-rest l = length l.rest
