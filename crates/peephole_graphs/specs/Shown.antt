-- What a graph shows is what its block's forest says. This project's laws.
use Rattle.std.specs.Prelude.{ℕ, suc, ◌-◌, ◌≡◌, ◌↔◌, ◌==◌, ◌&&◌, Bool, true, false, length}
use Rattle.std.specs.Bool.{Decides}
use Rattle.peephole_graphs.specs.Tree.{Tree, Trees, entry, node, no_trees, ◌▸◌}
use Rattle.peephole_graphs.specs.Forest.{forest, IsInOrder}
use Rattle.peephole_graphs.specs.Color.{color_at}
use Rattle.peephole_graphs.specs.Downwards.{HasOneColor}
use Rattle.peephole_graphs.specs.Source.{Source, shapes_in}
use Rattle.peephole_graphs.specs.Entries.{Graph, kins_of}
use Rattle.peephole_graphs.specs.ForestText.{default_text}
use Rattle.peephole_graphs.specs.Order.{TreesAreInOrder}
use Rattle.peephole_graphs.specs.GraphOf.{IsGraphOf}
use Rattle.peephole_graphs.specs.TreeText.{forest_block_text}

-- the text of a block's graph is that of its forest
abbrev pub ShowsTheForest : Type 0
ShowsTheForest = (s : Source) (g : Graph) → IsGraphOf s g → default_text g.entries g.parents ≡ forest_block_text s.preserving s.first (shapes_in s)

-- the trees of the graph's roots lie one after another exactly where the block's do
abbrev pub ShowsTheOrder : Type 0
ShowsTheOrder = (s : Source) (g : Graph) → IsGraphOf s g → TreesAreInOrder g.entries g.parents ↔ IsInOrder (shapes_in s)

-- the last tree, if there is one
abbrev pub last_tree_of : Tree → Trees → Tree
last_tree_of t no_trees = t
last_tree_of t (u ▸ us) = last_tree_of u us

-- every operator of the tree has the colour, and none of its operands is an entry operand
abbrev mutual
  pub is_colored : (ℕ → ℕ) → ℕ → Tree → Bool
  is_colored color c (entry m) = false
  is_colored color c (node i s kids) = trees_are_colored color c kids && (color i == c)

  pub trees_are_colored : (ℕ → ℕ) → ℕ → Trees → Bool
  trees_are_colored color c no_trees = true
  trees_are_colored color c (t ▸ ts) = is_colored color c t && trees_are_colored color c ts

-- so it is with the colour of the tree's own operator
abbrev pub has_one_color : (ℕ → ℕ) → Tree → Bool
has_one_color color (entry m) = false
has_one_color color (node i s kids) = is_colored color (color i) (node i s kids)

-- the test of the forest's last tree decides whether all entries of the last operator's tree have one colour
abbrev pub ShowsTheColor : Type 0
ShowsTheColor = (s : Source) (g : Graph) → IsGraphOf s g → (n : ℕ) → length s.operators ≡ suc n →
    Decides (has_one_color (color_at s.preserving (shapes_in s)) (last_tree_of (entry 0) (forest (shapes_in s))))
    (HasOneColor (kins_of g.entries) (length g.entries - 1))
