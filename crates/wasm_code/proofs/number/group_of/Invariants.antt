use Rattle.std.proofs.Common.{◌≡◌}
use Rattle.wasm_code.specs.Reader.{group_at}
use Rattle.wasm_code.proofs.NumberLemmas.{At}
use Rattle.wasm_code.proofs.number.group_of.Given as goal

abbrev pub invariant-loop-i : goal.invariant-loop-i
invariant-loop-i l = At l.most l.bytes l.i ≡ group_at l.most l.bytes
