use Rattle.std.proofs.Common.{arith}
use Rattle.std.specs.Int.{w64}
use Rattle.std.specs.Prelude.{bit_or, bit_xor}
use Rattle.std.proofs.lemmas.Nat.{or_lt, xor_lt}
use Rattle.wasm_execution.proofs.BitLemmas.{keeps}
use Rattle.wasm_execution.proofs.value.binary_64.Goals as goal

pub returns-in-Or : goal.returns-in-Or
returns-in-Or c = rw c.in-Or.is (keeps w64 (bit_or c.args.n c.args.m) (or_lt 64 c.args.n c.args.m (omega arith) (omega arith)))

pub returns-in-Xor : goal.returns-in-Xor
returns-in-Xor c = rw c.in-Xor.is (keeps w64 (bit_xor c.args.n c.args.m) (xor_lt 64 c.args.n c.args.m (omega arith) (omega arith)))
