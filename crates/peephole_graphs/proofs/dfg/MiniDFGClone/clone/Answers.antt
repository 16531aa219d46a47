use Rattle.std.proofs.Common.{◌∙◌}
use Rattle.peephole_graphs.proofs.graph.EntryCopies.{copied_measured, copied_trees, copied_forest, copied_order}
use Rattle.peephole_graphs.specs.OwnEntries.{own_entry_in}
use Rattle.peephole_graphs.proofs.OwnEntriesLemmas.{copied_entries}
use Rattle.peephole_graphs.proofs.dfg.MiniDFGClone.clone.Goals as goal

pub of_parts-requires-clause-measured : goal.of_parts-requires-clause-measured
of_parts-requires-clause-measured c = copied_measured c.args.self.now.entries.items c.in_ok-entries.entries.items
    c.in_ok-entries.ensures.cases.0 _ _ (c.in_ok-subtrees.ensures.items ∙ c.deref-2.ensures.value) c.args.self.now.measured

pub of_parts-requires-clause-trees : goal.of_parts-requires-clause-trees
of_parts-requires-clause-trees c = copied_trees c.args.self.now.entries.items c.in_ok-entries.entries.items
    c.in_ok-entries.ensures.cases.0 (own_entry_in c.args.self.now.map) (own_entry_in c.in_ok-map.map)
    (copied_entries c.args.self.now.map c.in_ok-map.map c.in_ok-map.ensures.cases.0 c.in_ok-map.ensures.cases.1.0) c.args.self.now.trees

pub of_parts-requires-clause-forest : goal.of_parts-requires-clause-forest
of_parts-requires-clause-forest c = copied_forest c.args.self.now.entries.items c.in_ok-entries.entries.items
    c.in_ok-entries.ensures.cases.0 _ _ (c.in_ok-parents.ensures.items ∙ c.deref.ensures.value) c.args.self.now.forest

pub of_parts-requires-clause-lies : goal.of_parts-requires-clause-lies
of_parts-requires-clause-lies c = copied_order c.args.self.now.entries.items c.in_ok-entries.entries.items
    c.in_ok-entries.ensures.cases.0 _ _ (c.in_ok-parents.ensures.items ∙ c.deref.ensures.value) c.args.self.now.lies

pub returns : goal.returns
returns c = record {
  cases = record {
    entries = rw c.of_parts.ensures.entries c.in_ok-entries.ensures.cases.0;
    parents = c.of_parts.ensures.parents ∙ c.in_ok-parents.ensures.items ∙ c.deref.ensures.value;
    map = λ k. c.of_parts.ensures.map k ∙ copied_entries c.args.self.now.map c.in_ok-map.map c.in_ok-map.ensures.cases.0 c.in_ok-map.ensures.cases.1.0 k;
  };
}
