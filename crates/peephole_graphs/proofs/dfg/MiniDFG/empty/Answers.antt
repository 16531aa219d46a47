use Rattle.std.proofs.Common.{◌≡◌, ℕ, [], Option, None, refl, sym, ◌∙◌, arith}
use Rattle.std.specs.List.{IsDistinct}
use Rattle.peephole_graphs.specs.Entries.{IsForest}
use Rattle.peephole_graphs.specs.Layout.{HasTrees}
use Rattle.peephole_graphs.specs.OwnEntries.{own_entry_in}
use Rattle.peephole_graphs.proofs.OwnEntriesLemmas.{found_nothing}
use Rattle.peephole_graphs.proofs.dfg.MiniDFG.empty.Goals as goal

no_trees : (own_entry : ℕ → Option ℕ) → ((k : ℕ) → own_entry k ≡ None) → HasTrees [] own_entry
no_trees own_entry none = record {
  below = λ i d l. absurd (omega arith);
  found = λ k i found. let never = sym (none k) ∙ found in absurd cc;
  small = λ i l. absurd (omega arith);
  writable = λ k d l. absurd (omega arith);
}

no_forest : IsForest [] []
unfolding IsDistinct
no_forest = record { paired = refl; parent = λ p i w. absurd cc; child = λ p i w. absurd cc; once = λ p. tt }

pub of_parts-requires-clause-forest : goal.of_parts-requires-clause-forest
of_parts-requires-clause-forest c = rw (c.new-2.ensures.items, c.new-3.ensures.items) no_forest

pub of_parts-requires-clause-trees : goal.of_parts-requires-clause-trees
of_parts-requires-clause-trees c = rw c.new-2.ensures.items (no_trees (own_entry_in c.new.result) (found_nothing c.new.result c.new.ensures))

pub returns-clause-map : goal.returns-clause-map
returns-clause-map c = λ k. c.of_parts.ensures.map k ∙ found_nothing c.new.result c.new.ensures k
