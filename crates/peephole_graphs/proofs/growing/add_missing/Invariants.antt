use Rattle.std.proofs.Common.{◌≡◌, ◌++◌, replicate, Some}
use Rattle.peephole_graphs.specs.Growing.{undef_entry, missing_subtree}
use Rattle.peephole_graphs.proofs.growing.add_missing.Given as goal

abbrev pub invariant-loop-made : goal.invariant-loop-made
invariant-loop-made l = (l.growing.entries.items ≡ l.fn.growing.entries.items ++ replicate l.made (undef_entry l.operator_idx)) ×
    (l.growing.parents.items ≡ l.fn.growing.parents.items ++ replicate l.made (Some l.parent)) ×
    (l.growing.subtrees.items ≡ l.fn.growing.subtrees.items ++ replicate l.made missing_subtree) ×
    (l.growing.map ≡ l.fn.growing.map) × (l.growing.stack ≡ l.fn.growing.stack) × (l.growing.color ≡ l.fn.growing.color)
