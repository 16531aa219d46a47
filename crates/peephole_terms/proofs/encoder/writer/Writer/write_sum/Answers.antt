-- A constant of 32 bits is the sum of the word that was drawn and the rest.
use Rattle.std.proofs.Common.{arith}
use Rattle.std.proofs.lemmas.Grind.{common_steps}
use Rattle.peephole_terms.proofs.encoder.writer.Writer.write_sum.Goals as goal

pub returns-in_ok-put-in-I32-I32-2-clause-taken : goal.returns-in_ok-put-in-I32-I32-2-clause-taken
returns-in_ok-put-in-I32-I32-2-clause-taken g c = grind (arith, common_steps)
