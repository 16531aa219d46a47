-- A tree of one colour lies together: the operators of its entries follow one another in the body, in the tree's postfix. This project's rule.
use Rattle.std.specs.Prelude.{ℕ, ◌<◌, ◌≡◌, List, length, map, slice_index}
use Rattle.peephole_graphs.specs.Tree.{range_from}
use Rattle.peephole_graphs.specs.Downwards.{downwards, HasOneColor}
use Rattle.peephole_graphs.specs.Entries.{kins_of}
use Rattle.peephole_graphs.specs.declared.dfg.StackEntry.{StackEntry}

-- the body's indexes of the entries' operators
abbrev pub entry_operators_of : List StackEntry → List ℕ
entry_operators_of entries = map (λ (e : StackEntry). e.operator_idx) entries

-- those of the entries from one downwards, in postfix
abbrev pub operators_below : List StackEntry → ℕ → List ℕ
operators_below entries i = map (λ j. slice_index (entry_operators_of entries) j) (downwards (kins_of entries) i)

-- each number is the one before it and 1
abbrev pub AreConsecutive : List ℕ → Type 0
AreConsecutive numbers = (first count : ℕ) × (numbers ≡ range_from first count)

-- Where all entries from one downwards have one colour, their operators are consecutive and ascend.
abbrev pub HasContiguousTrees : List StackEntry → Type 0
HasContiguousTrees entries = (i : ℕ) → i < length entries → HasOneColor (kins_of entries) i → AreConsecutive (operators_below entries i)
