-- Whether the trees of a graph lie one after another: the operators of the roots' trees, the roots ascending and each tree in postfix,
-- ascend. This project's rule.
use Rattle.std.specs.Prelude.{ℕ, Bool, List, Option, is_some, map, slice_index, slice_index_or, filter, false}
use Rattle.std.specs.List.{flat_map}
use Rattle.std.specs.List.Sorted.{IsStrictlyIncreasing}
use Rattle.peephole_lang.specs.Node.{instr_of}
use Rattle.peephole_graphs.specs.Downwards.{downwards}
use Rattle.peephole_graphs.specs.Entries.{kins_of, roots_of}
use Rattle.peephole_graphs.specs.Contiguous.{entry_operators_of}
use Rattle.peephole_graphs.specs.declared.dfg.StackEntry.{StackEntry}

-- the entry with an index is an operator, and no missing operand
abbrev pub is_operator_at : List StackEntry → ℕ → Bool
is_operator_at entries i = slice_index_or (map (λ (e : StackEntry). is_some (instr_of e.operator)) entries) i false

-- the operators among entries, as indexes in the body
abbrev pub operators_among : List StackEntry → List ℕ → List ℕ
operators_among entries is = map (λ i. slice_index (entry_operators_of entries) i) (filter (is_operator_at entries) is)

-- those of the whole forest in postfix
abbrev pub forest_operators : List StackEntry → List (Option ℕ) → List ℕ
forest_operators entries parents = operators_among entries (flat_map (downwards (kins_of entries)) (roots_of parents))

-- the trees lie one after another: these operators ascend
abbrev pub TreesAreInOrder : List StackEntry → List (Option ℕ) → Type 0
TreesAreInOrder entries parents = IsStrictlyIncreasing (forest_operators entries parents)
