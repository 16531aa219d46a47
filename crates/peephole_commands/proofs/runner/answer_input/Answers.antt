use Rattle.std.proofs.Common.{◌<◌, length, arith, refl, ◌++◌, ◌+◌}
use Rattle.std.proofs.lemmas.Bool.Decides.{nat_tests}
use Rattle.peephole_script.specs.Text.{lines_of}
use Rattle.peephole_commands.specs.Answer.{fault_line}
use Rattle.peephole_commands.proofs.Devices.{appends_nothing, appends_more}
use Rattle.peephole_script.proofs.Lines.{lines_of-cut_line, length-after_line}
use Rattle.peephole_commands.proofs.Answer.{front, reached_none, front_none, reached_more, front_more, answered_end, answered_fault}
use Rattle.peephole_commands.proofs.runner.answer_input.Goals as goal

pub lines-init : goal.lines-init
lines-init g c = record {
  reached = rw c.new-session.ensures (reached_none (lines_of c.args.input.now));
  written = appends_nothing _ _ (front_none (lines_of c.args.input.now));
  sound = c.requires.sound;
  room = omega arith;
}

pub lines-preserved : goal.lines-preserved
lines-preserved g c =
    let some : 0 < length c.lines.rest.now = grind (arith, nat_tests, c.lines-test.ensures) in
    let e = lines_of-cut_line c.lines.rest.now _ _ some c.cut_line.ensures.line c.cut_line.ensures.rest in
    let here = rw e at c.lines.invariant.reached in
    record {
      reached = reached_more _ _ _ _ _ _ here c.in-Ok.ensures;
      written = appends_more _ _ _ _ _ _ _ c.lines.invariant.written c.in_ok-write-in-Ok.ensures.ok c.as_slice.ensures.value
          (front_more _ _ _ _ _ _ here c.in-Ok.ensures);
      sound = c.in_ok-write-in-Ok.ensures.sound;
      room = omega (arith, length-after_line c.lines.rest.now _ some c.cut_line.ensures.rest);
    }

pub returns-in-Err-clause-ok : goal.returns-in-Err-clause-ok
returns-in-Err-clause-ok g c =
    let some : 0 < length c.lines.rest.now = grind (arith, nat_tests, c.lines-test.ensures) in
    let e = lines_of-cut_line c.lines.rest.now _ _ some c.cut_line.ensures.line c.cut_line.ensures.rest in
    let here = rw e at c.lines.invariant.reached in
    record {
      written = front (lines_of c.args.input.now) c.lines.number ++ fault_line (c.lines.number + 1) c.in-Err.fault;
      appended = appends_more _ _ _ _ _ _ _ c.lines.invariant.written c.in_ok-report-in-Err.ensures.ok refl refl;
      answered = answered_fault c.args.input.now c.lines.number _ _ _ _ here c.in-Err.ensures;
    }

pub returns-clause-ok : goal.returns-clause-ok
returns-clause-ok g c = record {
  written = front (lines_of c.args.input.now) c.lines.number;
  appended = c.lines.invariant.written;
  answered = answered_end c.args.input.now c.lines.number _ c.lines.rest.now c.lines.invariant.reached (grind (arith, nat_tests, c.lines-test.ensures));
}
