use Rattle.std.proofs.Common.{◌≡◌, ◌++◌, take}
use Rattle.peephole_lang.specs.Term.{numbers_of}
use Rattle.peephole_graphs.proofs.growing.push_ids.Given as goal

abbrev pub invariant-loop-i : goal.invariant-loop-i
invariant-loop-i l = numbers_of l.ids.items ≡ numbers_of l.initial.ids.items ++ take l.i-index l.taken
