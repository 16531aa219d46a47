-- Where the entries between two indexes are a tree in postfix, and its copy. This project's rule.
use Rattle.std.specs.Prelude.{ℕ, suc, ◌+◌, ◌-◌, ◌<◌, ◌≤◌, IsTrue, Bool, true, ◌&&◌, ◌==◌, List, [], ◌∷◌, length, map, slice_index}
use Rattle.std.specs.List.{All}
use Rattle.peephole_lang.specs.Term.{Node}
use Rattle.peephole_graphs.specs.declared.dfg.StackEntry.{StackEntry}
use Rattle.peephole_graphs.specs.Entries.{children_at}

-- The entries from each of the indexes downwards, of which there are `size`, lie behind those from the index before it, the
-- first ones from `at` on, and end with the entry at the index itself.
abbrev pub lie_behind : (ℕ → ℕ) → ℕ → List ℕ → Bool
lie_behind size at [] = true
lie_behind size at (c ∷ cs) = (suc c == at + size c) && lie_behind size (suc c) cs

-- From `start` on and before `end`, the entries from each one downwards are those right before it, each child's behind those
-- of the child before it, and none of them stands before `start`.
pub record IsSpan (entries : List StackEntry) (sizes : List ℕ) (start end : ℕ) : Type 0 where
  pub within : (i : ℕ) → start ≤ i → i < end → start + slice_index sizes i ≤ i + 1
  pub behind : (i : ℕ) → start ≤ i → i < end → IsTrue (lie_behind (λ k. slice_index sizes k) (i + 1 - slice_index sizes i) (children_at entries i))

-- The children of entries, the first of which has the index `start`, stand among them, before their parents.
abbrev pub HoldsItsChildren : ℕ → List StackEntry → Type 0
HoldsItsChildren start entries = (k : ℕ) → k < length entries → All (λ c. (start ≤ c) × (c < start + k)) (children_at entries k)

-- the node with its children counted from `start` on
abbrev pub node_from : {H : Type 0} → ℕ → Node H → Node H
node_from start n = record { head = n.head; children = map (λ c. c - start) n.children }
