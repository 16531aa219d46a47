use Rattle.std.proofs.Common.{refl}
use Rattle.wasm_execution.proofs.value.holds.Goals as goal

pub returns-in-LtU : goal.returns-in-LtU
returns-in-LtU c = rw c.in-LtU.is refl
