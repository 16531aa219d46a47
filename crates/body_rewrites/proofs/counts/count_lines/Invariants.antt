-- What the lines so far make.
use Rattle.std.proofs.Common.{take}
use Rattle.body_rewrites.specs.Asking.{rewrites_of}
use Rattle.body_rewrites.specs.Counting.{CountsFound}
use Rattle.body_rewrites.specs.Places.{context_of}
use Rattle.body_rewrites.proofs.counts.count_lines.Given as goal

abbrev pub invariant-loop-asked : goal.invariant-loop-asked
invariant-loop-asked l =
    CountsFound (context_of l.fn.body) l.fn.body.operators.now (rewrites_of l.fn.here.at (take l.asked-index l.lines)) l.initial.counts l.counts
