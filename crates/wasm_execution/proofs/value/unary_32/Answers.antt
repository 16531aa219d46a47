use Rattle.std.proofs.Common.{arith}
use Rattle.wasm_execution.proofs.BitLemmas.{ones_are}
use Rattle.wasm_execution.proofs.value.unary_32.Goals as goal

pub returns-in-Popcnt-clause-value : goal.returns-in-Popcnt-clause-value
returns-in-Popcnt-clause-value c = rw c.in-Popcnt.is (ones_are 32 c.args.n (omega arith))
