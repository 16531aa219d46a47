-- As many as stand in the lines so far, and none of these is the name.
use Rattle.std.proofs.Common.{◌≡◌, ℕ, ◌<◌, Some}
use Rattle.std.specs.Prelude.{slice_get}
use Rattle.rewrite_rules.specs.Names.{begins, names}
use Rattle.rewrite_rules.proofs.NameLemmas.{AreCounted}
use Rattle.rewrite_rules.proofs.names.number_of.Given as goal

abbrev pub invariant-loop-index : goal.invariant-loop-index
invariant-loop-index l = record {
  counted : AreCounted begins l.index l.count;
  others : (k : ℕ) → k < l.count → slice_get names k ≡ Some l.name → ⊥;
}
