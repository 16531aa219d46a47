use Rattle.std.proofs.Common.{◌+◌, arith}
use Rattle.wasm_code.proofs.NumberLemmas.{one_unsigned}
use Rattle.wasm_code.proofs.number.unsigned_of.Goals as goal

pub returns-in-len1-up-clause-gives : goal.returns-in-len1-up-clause-gives
returns-in-len1-up-clause-gives c =
    one_unsigned (c.args.last + 1) c.args.most c.args.bytes.now c.requires.some c.in-len1-up.len_at_least c.if-b-lt-GOES_ON.true
    (omega (arith, c.requires.one_byte))
