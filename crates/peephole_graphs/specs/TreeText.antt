-- The text of a block's forest, told by its trees alone (this project): behind a first line, a line for each operator and for each entry operand, as in
-- the text of a graph. Texts are UTF-8.
use Rattle.std.specs.Prelude.{ℕ, ◌+◌, Bool, true, false, List, [], ◌++◌, codes, Option, Some, None}
use Rattle.wasm_code.specs.Instruction.{Instruction}
use Rattle.wasm_code.specs.declared.immediate.Imm.{Imm}
use Rattle.peephole_nodes.specs.declared.payload.Payload.{Payload}
use Rattle.peephole_nodes.specs.Payload.{payload_of_imm}
use Rattle.peephole_nodes.specs.PayloadText.{payload_text}
use Rattle.peephole_nodes.specs.Variants.{Variant, variant_at}
use Rattle.peephole_graphs.specs.Shape.{Shape}
use Rattle.peephole_graphs.specs.Tree.{Tree, Trees, entry, node, no_trees, ◌▸◌}
use Rattle.peephole_graphs.specs.Forest.{forest}
use Rattle.peephole_graphs.specs.Color.{color_at}
use Rattle.peephole_graphs.specs.ForestText.{branch, edge, line_text}

-- the text of a variant with the payload that stands for an immediate
abbrev pub written_payload : Option Payload → List ℕ
written_payload None = []
written_payload (Some p) = payload_text p

-- the name of a variant, and behind it the text of its payload
abbrev pub variant_text : Option Variant → Imm → List ℕ
variant_text None imm = []
variant_text (Some v) imm = v.name ++ written_payload (payload_of_imm v.payload imm)

-- the text of every node with an instruction
abbrev pub instruction_text : Instruction → List ℕ
instruction_text i = variant_text (variant_at (12 + i.row)) i.imm

-- whether there is a tree
abbrev pub are_some : Trees → Bool
are_some no_trees = false
are_some (t ▸ ts) = true

-- A tree's lines by the prefix and the inner prefix of its root, and those of the trees of the operands of `taker` by its inner prefix. The operators
-- have the numbers of the body, in which the block's first one has the number `first`.
abbrev mutual
  pub tree_text : (ℕ → ℕ) → (first : ℕ) → (prefix inner : List ℕ) → (taker : ℕ) → Tree → List ℕ
  tree_text color first prefix inner taker (entry m) = prefix ++ line_text 4294967295 taker (codes "undef")
  tree_text color first prefix inner taker (node i s kids) =
      (prefix ++ line_text (color i) (first + i) (instruction_text s.instr)) ++ operands_text color first inner (first + i) kids

  pub operands_text : (ℕ → ℕ) → (first : ℕ) → (inner : List ℕ) → (taker : ℕ) → Trees → List ℕ
  operands_text color first inner taker no_trees = []
  operands_text color first inner taker (t ▸ ts) =
      tree_text color first (inner ++ branch (are_some ts)) (inner ++ edge (are_some ts)) taker t ++ operands_text color first inner taker ts

-- the lines of the trees, tree by tree; a root is no operand
abbrev pub trees_text : (ℕ → ℕ) → (first : ℕ) → Trees → List ℕ
trees_text color first no_trees = []
trees_text color first (t ▸ ts) = tree_text color first [] [] 0 t ++ trees_text color first ts

-- the text of the block's forest
abbrev pub forest_block_text : Bool → (first : ℕ) → List Shape → List ℕ
forest_block_text preserving first block = codes "DFG forest\n" ++ trees_text (color_at preserving block) first (forest block)
