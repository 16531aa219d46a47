-- Those of the classes so far.
use Rattle.body_rewrites.proofs.CandidateLemmas.{IsAdding}
use Rattle.body_rewrites.proofs.layout.add_candidate.Given as goal

abbrev pub invariant-loop-class : goal.invariant-loop-class
invariant-loop-class l = IsAdding l.asked l.used l.fn.classes l.class l.initial.lists l.lists
