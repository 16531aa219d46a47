use Rattle.std.proofs.Common.{sym, ◌∙◌, arith}
use Rattle.peephole_commands.proofs.Readings.{found, faulty}
use Rattle.peephole_commands.proofs.body.Body.read.Goals as goal

pub returns-in-Ok : goal.returns-in-Ok
returns-in-Ok c =
    found c.args.bytes.items c.as_slice.result.now c.len.result c.in-Ok.operators.items c.as_slice.ensures.value
    (c.len.ensures ∙ sym c.as_slice.ensures.len) c.body_at_reads.ensures.spelled c.in-Ok.ensures.found

pub returns-in-Err : goal.returns-in-Err
returns-in-Err c =
    faulty c.args.bytes.items c.as_slice.result.now c.len.result c.in-Err.error.kind c.in-Err.error.offset c.as_slice.ensures.value
    (c.len.ensures ∙ sym c.as_slice.ensures.len) c.body_at_reads.ensures.faulty c.in-Err.ensures.fault

pub invariant_of-result : goal.invariant_of-result
invariant_of-result c = (
  record {
    from = 0;
    to = c.len.result;
    ordered = omega arith;
    inside = omega (arith, c.len.ensures, c.as_slice.ensures.len);
    spells = let f = rw c.as_slice.ensures.value at c.in-Ok.ensures.found in record { all = f.all; last = f.last };
  },
  record { each = λ k below. absurd (omega (arith, below)) },
)
