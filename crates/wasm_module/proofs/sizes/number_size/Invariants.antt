use Rattle.std.proofs.Common.{◌≡◌, ◌+◌, length}
use Rattle.wasm_code.specs.Code.{shortest}
use Rattle.wasm_module.proofs.sizes.number_size.Given as goal

abbrev pub invariant-loop-rest : goal.invariant-loop-rest
invariant-loop-rest l = l.size + length (shortest l.rest) ≡ length (shortest l.n) + 1

abbrev pub decreases-loop-rest : goal.decreases-loop-rest
decreases-loop-rest l = l.rest
