-- The instructions so far.
use Rattle.std.proofs.Common.{take}
use Rattle.body_changes.specs.Replacing.{AreTheseInstructions}
use Rattle.body_changes.proofs.own.instrs_of.Given as goal

abbrev pub invariant-loop-i : goal.invariant-loop-i
invariant-loop-i l = AreTheseInstructions (take l.i l.operators) l.code.items
