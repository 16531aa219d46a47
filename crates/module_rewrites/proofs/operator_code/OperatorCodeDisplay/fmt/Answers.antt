-- Two digits of a byte to the base 16.
use Rattle.std.proofs.Common.{rules, arith}
use Rattle.module_rewrites.proofs.OperatorCodeLemmas.{two_digits_are}
use Rattle.module_rewrites.proofs.operator_code.OperatorCodeDisplay.fmt.Goals as goal

pub returns-in-Byte-clause-writes : goal.returns-in-Byte-clause-writes
returns-in-Byte-clause-writes g c = rw (c.in-Byte.is, two_digits_are c.in-Byte.byte (omega arith)) (search rules)

pub returns-in-Prefixed-clause-writes : goal.returns-in-Prefixed-clause-writes
returns-in-Prefixed-clause-writes g c = rw (c.in-Prefixed.is, two_digits_are c.in-Prefixed.prefix (omega arith)) (search rules)
