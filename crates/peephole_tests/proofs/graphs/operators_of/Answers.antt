-- What is read is a body in the bytes that it was read from.
use Rattle.std.proofs.Common.{length, arith}
use Rattle.peephole_tests.proofs.graphs.operators_of.Goals as goal

pub returns-in-Ok : goal.returns-in-Ok
returns-in-Ok c = record {
  from = 0;
  to = length c.args.bytes.now;
  ordered = omega arith;
  inside = omega arith;
  spells = record { all = c.in-Ok.ensures.found.all; last = c.in-Ok.ensures.found.last };
}
