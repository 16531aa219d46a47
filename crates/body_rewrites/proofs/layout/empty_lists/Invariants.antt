-- So many are.
use Rattle.body_rewrites.specs.Asking.{AreEmpty}
use Rattle.body_rewrites.proofs.layout.empty_lists.Given as goal

abbrev pub invariant-loop : goal.invariant-loop
invariant-loop l = AreEmpty l.counter l.lists.items
