-- What a graph that is built says of its block, in the theory's lists, which have the last item first.
use Rattle.std.specs.Prelude.{ℕ, suc, ◌+◌, ◌-◌, ◌<◌, ◌≤◌, ◌≡◌, ◌==◌, Bool, false, true, List, [], ◌∷◌, length, reverse, Option, None, Some, if◌then◌else◌}
use Rattle.std.specs.Bool.{nat_eq}
use Rattle.std.specs.List.{IsDistinct}
use Rattle.peephole_graphs.specs.Shape.{Shape}
use Rattle.peephole_graphs.specs.Forest.{has, forest}
use Rattle.peephole_graphs.specs.Color.{color_at}
use Rattle.peephole_graphs.specs.Graph.{GraphEntry, trees_at, tree_at_entry, roots, undef, item}

abbrev pub entry_at : List GraphEntry → ℕ → GraphEntry
entry_at nodes i = item (undef 0) nodes i

abbrev pub parent_at : List (Option ℕ) → ℕ → Option ℕ
parent_at parents i = item None parents i

-- how many values of the block's own stand after it, and how many operands were missing in it
abbrev pub result_count : List Shape → ℕ
result_count [] = 0
result_count (s ∷ earlier) = if s.has_result then suc (result_count earlier - s.operands) else result_count earlier - s.operands

abbrev pub missing_count : List Shape → ℕ
missing_count [] = 0
missing_count (s ∷ earlier) = missing_count earlier + (s.operands - result_count earlier)

-- an operator's shape
abbrev pub shape_at : List Shape → ℕ → Option Shape
shape_at [] n = None
shape_at (s ∷ earlier) n = if length earlier == n then Some s else shape_at earlier n

-- An entry is an operator of the block with its shape and colour, or a missing operand of one.
abbrev pub IsOperatorOrMissing : Bool → List Shape → Option Shape → GraphEntry → Type 0
IsOperatorOrMissing preserving block None e = (e.children ≡ []) × (e.color ≡ 4294967295)
IsOperatorOrMissing preserving block (Some s) e = (shape_at block e.number ≡ Some s) × (e.color ≡ color_at preserving block e.number)

abbrev pub IsBlockEntry : Bool → List Shape → GraphEntry → Type 0
IsBlockEntry preserving block e = (e.number < length block) × IsOperatorOrMissing preserving block e.shape e

abbrev pub is_operator : Option Shape → Bool
is_operator None = false
is_operator (Some s) = true

pub record IsBlockGraph (preserving : Bool) (block : List Shape) (nodes : List GraphEntry) (parents : List (Option ℕ)) : Type 0 where
  pub same_length : length parents ≡ length nodes
  pub trees : trees_at (tree_at_entry nodes) (reverse (roots parents)) ≡ forest block
  pub entries : (i : ℕ) → i < length nodes → IsBlockEntry preserving block (entry_at nodes i)
  pub parent : (p i : ℕ) → has i (entry_at nodes p).children ≡ true → (parent_at parents i ≡ Some p) × (i < p)
  pub child : (p i : ℕ) → parent_at parents i ≡ Some p → (p < length nodes) × (has i (entry_at nodes p).children ≡ true)
  pub once : (p : ℕ) → IsDistinct nat_eq (entry_at nodes p).children
  pub taker : (p i : ℕ) → has i (entry_at nodes p).children ≡ true → (entry_at nodes i).shape ≡ None → (entry_at nodes i).number ≡ (entry_at nodes p).number
  pub order : (i j : ℕ) → i ≤ j → j < length nodes → (entry_at nodes i).number ≤ (entry_at nodes j).number
