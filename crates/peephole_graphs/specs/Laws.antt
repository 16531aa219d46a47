-- What holds of the forest of every block. Lists of operators have the last one first. This project's laws.
use Rattle.std.specs.Prelude.{◌≡◌, ◌↔◌, List, reverse}
use Rattle.peephole_graphs.specs.Shape.{Shape}
use Rattle.peephole_graphs.specs.Tree.{shapes, renumber}
use Rattle.peephole_graphs.specs.Forest.{forest, IsInOrder, AreTogether}

-- The block of instructions that is written with a block's own trees, the last instruction first.
abbrev pub tree_order : List Shape → List Shape
tree_order block = reverse (shapes (forest block))

-- What was written has the same forest, but for the operators' numbers, which are those of the new places.
abbrev pub HasSameTrees : Type 0
HasSameTrees = (block : List Shape) → forest (tree_order block) ≡ renumber 0 (forest block)

-- What was written is in order.
abbrev pub IsWrittenInOrder : Type 0
IsWrittenInOrder = (block : List Shape) → IsInOrder (tree_order block)

-- Written again, it is the same block.
abbrev pub StaysWhenWrittenAgain : Type 0
StaysWhenWrittenAgain = (block : List Shape) → tree_order (tree_order block) ≡ tree_order block

-- A block is in order exactly where the operators of each operator's tree have consecutive numbers.
abbrev pub OrderIsTogether : Type 0
OrderIsTogether = (block : List Shape) → IsInOrder block ↔ AreTogether block

-- A block in order is what is written with its own trees.
abbrev pub OrderedIsPostfix : Type 0
OrderedIsPostfix = (block : List Shape) → IsInOrder block → tree_order block ≡ block
