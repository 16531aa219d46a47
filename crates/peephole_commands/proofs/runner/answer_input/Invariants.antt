use Rattle.std.proofs.Common.{◌≡◌, ◌+◌, ◌≤◌, false, length}
use Rattle.std.specs.Io.KnownBytes.{Appends}
use Rattle.peephole_script.specs.Text.{lines_of}
use Rattle.peephole_commands.proofs.Answer.{Reached, front}
use Rattle.peephole_commands.proofs.runner.answer_input.Given as goal

-- no line so far was faulty, and their output is written
abbrev pub invariant-lines : goal.invariant-lines
invariant-lines g l =
    let contents = g.W.Write.contents in
    record {
      reached : Reached (lines_of l.fn.input) l.number (lines_of l.rest) l.session;
      written : Appends (contents l.fn.output.device) (contents l.output.device) (front (lines_of l.fn.input) l.number);
      sound : l.output.failed ≡ false;
      room : l.number + length l.rest ≤ length l.fn.input;
    }

abbrev pub decreases-lines : goal.decreases-lines
decreases-lines g l = length l.rest
