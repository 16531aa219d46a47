-- What is left is the number of the byte, among those behind the entries so far.
use Rattle.std.proofs.Common.{◌≡◌, ◌+◌, take}
use Rattle.std.specs.List.{sum_by}
use Rattle.module_rewrites.specs.Drawing.{contents_length}
use Rattle.module_rewrites.proofs.drawing.entry_of_byte.Given as goal

abbrev pub invariant-loop-n : goal.invariant-loop-n
invariant-loop-n l = sum_by contents_length (take l.n l.entries) + l.left ≡ l.byte
