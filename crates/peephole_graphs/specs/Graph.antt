-- The trees that entries are. Lists of entries and parents have the last one first. This project's rule.
use Rattle.std.specs.Prelude.{ℕ, suc, ◌==◌, List, [], ◌∷◌, length, Option, None, Some, if◌then◌else◌}
use Rattle.peephole_graphs.specs.Shape.{Shape}
use Rattle.peephole_graphs.specs.Tree.{Tree, entry, node, Trees, no_trees, ◌▸◌}

-- An operator's instruction, or none for a missing operand; its children; and the number of the operator that it is or that took it.
pub record GraphEntry : Type 0 where
  pub shape : Option Shape
  pub children : List ℕ
  pub number : ℕ
  pub color : ℕ

-- the trees of these indexes, in order
abbrev pub trees_at : (ℕ → Tree) → List ℕ → Trees
trees_at at [] = no_trees
trees_at at (i ∷ is) = at i ▸ trees_at at is

-- how many missing operands there are
abbrev pub undefs : List GraphEntry → ℕ
undefs [] = 0
undefs (e ∷ earlier) = elim e.shape [ None ↦ suc (undefs earlier) | Some s ↦ undefs earlier ]

-- the tree of an entry: the k-th missing operand is entry operand k
abbrev pub tree_of_entry : Option Shape → List ℕ → ℕ → ℕ → (ℕ → Tree) → Tree
tree_of_entry None children number missing at = entry missing
tree_of_entry (Some s) children number missing at = node number s (trees_at at children)

-- the tree of the entry with an index, by its children's trees, which are those of earlier entries
abbrev pub tree_at_entry : List GraphEntry → ℕ → Tree
tree_at_entry [] i = entry 0
tree_at_entry (e ∷ earlier) i = if length earlier == i then tree_of_entry e.shape e.children e.number (undefs earlier) (tree_at_entry earlier) else
    tree_at_entry earlier i

-- the entries without a parent
abbrev pub roots : List (Option ℕ) → List ℕ
roots [] = []
roots (None ∷ earlier) = length earlier ∷ roots earlier
roots (Some p ∷ earlier) = roots earlier

-- a missing operand of the operator
abbrev pub undef : ℕ → GraphEntry
undef n = record { shape = None; children = []; number = n; color = 4294967295 }

-- the item with a number, counted from the last one of the list
abbrev pub item : {A : Type 0} → A → List A → ℕ → A
item d [] i = d
item d (x ∷ earlier) i = if length earlier == i then x else item d earlier i
