-- Trees of operators, as a block's stack code stands for them, and their postfix. This project's rule.
use Rattle.std.specs.Prelude.{ℕ, zero, suc, ◌+◌, List, [], ◌∷◌, ◌++◌}
use Rattle.wasm_code.specs.Instruction.{Instruction}
use Rattle.peephole_graphs.specs.Shape.{Shape}

-- A tree is an operator's number with its instruction and a list of trees, or an entry operand.
infixr 50 ◌▸◌
mutual
  pub data Tree : Type 0 where
    entry : ℕ → Tree
    node : ℕ → Shape → Trees → Tree

  pub data Trees : Type 0 where
    no_trees : Trees
    ◌▸◌ : Tree → Trees → Trees

-- the trees of one list in front of those of another
abbrev pub join : Trees → Trees → Trees
join no_trees us = us
join (t ▸ ts) us = t ▸ join ts us

-- Postfix: the children's in order, then the operator. Entry operands add nothing. Here as operator numbers.
abbrev mutual
  pub postfix_of : Tree → List ℕ
  postfix_of (entry m) = []
  postfix_of (node i s kids) = postfix kids ++ i ∷ []

  pub postfix : Trees → List ℕ
  postfix no_trees = []
  postfix (t ▸ ts) = postfix_of t ++ postfix ts

-- The same as shapes.
abbrev mutual
  pub shapes_of : Tree → List Shape
  shapes_of (entry m) = []
  shapes_of (node i s kids) = shapes kids ++ s ∷ []

  pub shapes : Trees → List Shape
  shapes no_trees = []
  shapes (t ▸ ts) = shapes_of t ++ shapes ts

-- The same as instructions.
abbrev mutual
  pub instructions_of : Tree → List Instruction
  instructions_of (entry m) = []
  instructions_of (node i s kids) = instructions kids ++ s.instr ∷ []

  pub instructions : Trees → List Instruction
  instructions no_trees = []
  instructions (t ▸ ts) = instructions_of t ++ instructions ts

-- `count` numbers from `first` on
abbrev pub range_from : ℕ → ℕ → List ℕ
range_from first zero = []
range_from first (suc count) = first ∷ range_from (suc first) count

-- how many operators there are
abbrev mutual
  pub size_of : Tree → ℕ
  size_of (entry m) = 0
  size_of (node i s kids) = suc (size kids)

  pub size : Trees → ℕ
  size no_trees = 0
  size (t ▸ ts) = size_of t + size ts

-- how many operators and entry operands there are
abbrev mutual
  pub full_size_of : Tree → ℕ
  full_size_of (entry m) = 1
  full_size_of (node i s kids) = suc (full_size kids)

  pub full_size : Trees → ℕ
  full_size no_trees = 0
  full_size (t ▸ ts) = full_size_of t + full_size ts

-- the same trees, the operators numbered in postfix from `first` on
abbrev mutual
  pub renumber_tree : ℕ → Tree → Tree
  renumber_tree first (entry m) = entry m
  renumber_tree first (node i s kids) = node (first + size kids) s (renumber first kids)

  pub renumber : ℕ → Trees → Trees
  renumber first no_trees = no_trees
  renumber first (t ▸ ts) = renumber_tree first t ▸ renumber (first + size_of t) ts
