-- The bytes so far.
use Rattle.std.proofs.Common.{◌≡◌, take}
use Rattle.std.specs.List.{sum_by}
use Rattle.module_rewrites.specs.Drawing.{contents_length}
use Rattle.module_rewrites.proofs.drawing.size_of_entries.Given as goal

abbrev pub invariant-loop-entry : goal.invariant-loop-entry
invariant-loop-entry l = l.size ≡ sum_by contents_length (take l.entry-index l.entries)
