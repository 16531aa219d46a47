-- What stands in the holes of a pattern that stands in a body (this project).
use Rattle.std.specs.Prelude.{◌≡◌, ℕ, ◌||◌, Bool, true, false, Option, Some, None, List, [], ◌∷◌}
use Rattle.wasm_code.specs.Instruction.{Instruction}
use Rattle.wasm_code.specs.declared.operator.Operator.{Operator}
use Rattle.wasm_execution.specs.Values.{Context}
use Rattle.rewrite_rules.specs.declared.pattern.Part.{Part}
use Rattle.rewrite_rules.specs.Code.{Leaves, writes, traps, asks}
use Rattle.body_rewrites.specs.declared.trees.Tree.{Tree}
use Rattle.body_rewrites.specs.Matching.{is_hole, operand_code}

-- one of the parts is the hole with the index
abbrev pub has_hole : List Part → ℕ → Bool
has_hole [] n = false
has_hole (p ∷ ps) n = is_hole p n || has_hole ps n

-- the code needs nothing from before it, leaves a value of the tree's type, and may do what is told of the tree
pub record IsOperand (context : Context) (code : List Instruction) (tree : Tree) : Type 0 where
  pub leaves : Leaves context code tree.gives
  pub writes_is : tree.writes ≡ writes code
  pub traps_is : tree.traps ≡ traps code
  pub asks_is : tree.asks ≡ asks code

-- Of the hole with the index what stands in it, and none exactly where no part is such a hole.
abbrev pub IsOperandOf : Context → List (Operator × ℕ) → List Part → (starts : List ℕ) → (end n : ℕ) → Option Tree → Type 0
IsOperandOf context operators parts starts end n (Some tree) =
    (has_hole parts n ≡ true) × IsOperand context (operand_code operators parts starts end n) tree
IsOperandOf context operators parts starts end n None = has_hole parts n ≡ false
