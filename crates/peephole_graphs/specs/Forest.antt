-- The forest of a block, by heights: which operator takes which results. Lists of operators have the last one first. This
-- project's rule, on the stack discipline of the WebAssembly Core Specification 3.0, Validation, Instructions.
use Rattle.std.specs.Prelude.{ℕ, zero, suc, ◌<◌, ◌≡◌, Bool, false, ◌&&◌, ◌||◌, ◌==◌, IsTrue, ℤ, List, [], ◌∷◌, length, if◌then◌else◌, ⊤}
use Rattle.std.specs.Bool.{Decides, nat_eq}
use Rattle.std.specs.Cmp.Lexicographic.{pointwise}
use lib.IntN.{pos, negsuc, ◌+ℤ◌, ◌-ℤ◌}
use Rattle.std.specs.Ordering.{int_eq}
use Rattle.peephole_graphs.specs.Shape.{Shape}
use Rattle.peephole_graphs.specs.Tree.{Tree, entry, node, Trees, no_trees, ◌▸◌, join, postfix_of, postfix, range_from}

-- 1 with a result, 0 without
abbrev pub results : Shape → ℤ
results s = if s.has_result then pos 1 else pos 0

-- the sum of results less operands
abbrev pub height : List Shape → ℤ
height [] = pos 0
height (s ∷ earlier) = height earlier +ℤ (results s -ℤ pos s.operands)

-- the place of an operator's first operand and of its result
abbrev pub first_operand_height : Shape → List Shape → ℤ
first_operand_height s earlier = height earlier -ℤ pos s.operands

-- the trees at `count` places from `place` on
abbrev pub from_height : (ℤ → Tree) → ℤ → ℕ → Trees
from_height at place zero = no_trees
from_height at place (suc count) = at place ▸ from_height at (place +ℤ pos 1) count

-- -1 - place
abbrev pub entry_number : ℤ → ℕ
entry_number (pos n) = zero
entry_number (negsuc n) = n

-- the tree of the last operator whose result is at the place, or the entry operand there
abbrev pub at_height : List Shape → ℤ → Tree
at_height [] p = entry (entry_number p)
at_height (s ∷ earlier) p =
    if s.has_result && int_eq p (first_operand_height s earlier) then node (length earlier) s
    (from_height (at_height earlier) (first_operand_height s earlier) s.operands) else at_height earlier p

-- the tree of an operator
abbrev pub operator_tree : Shape → List Shape → Tree
operator_tree s earlier = node (length earlier) s (from_height (at_height earlier) (first_operand_height s earlier) s.operands)

-- the trees of all operators, ascending
abbrev pub trees : List Shape → Trees
trees [] = no_trees
trees (s ∷ earlier) = join (trees earlier) (operator_tree s earlier ▸ no_trees)

-- one of the trees is the operator's
abbrev pub is_root : ℕ → Trees → Bool
is_root j no_trees = false
is_root j (entry m ▸ ts) = is_root j ts
is_root j (node i s kids ▸ ts) = (i == j) || is_root j ts

-- the operator is an operand of one of the trees' operators
abbrev pub is_operand : ℕ → Trees → Bool
is_operand j no_trees = false
is_operand j (entry m ▸ ts) = is_operand j ts
is_operand j (node i s kids ▸ ts) = is_root j kids || is_operand j ts

-- the trees without those of the operators that pass the test
abbrev pub trees_without : (ℕ → Bool) → Trees → Trees
trees_without test no_trees = no_trees
trees_without test (entry m ▸ ts) = entry m ▸ trees_without test ts
trees_without test (node i s kids ▸ ts) = if test i then trees_without test ts else node i s kids ▸ trees_without test ts

-- the forest: the trees, ascending, of the operators that are no operator's operand
abbrev pub forest : List Shape → Trees
forest block = trees_without (λ j. is_operand j (trees block)) (trees block)

-- the trees lie one after another: their operators in postfix, joined, are the block's, ascending
abbrev pub IsInOrder : List Shape → Type 0
IsInOrder block = postfix (forest block) ≡ range_from 0 (length block)

-- one of the numbers is `j`
abbrev pub has : ℕ → List ℕ → Bool
has j [] = false
has j (i ∷ is) = (i == j) || has j is

-- the operators of each operator's tree have consecutive numbers: with each of them but the operator itself, the next one is there
abbrev pub AreTogether : List Shape → Type 0
AreTogether [] = ⊤
AreTogether (s ∷ earlier) =
    AreTogether earlier × ((j : ℕ) → j < length earlier → IsTrue (has j (postfix_of (operator_tree s earlier))) →
    IsTrue (has (suc j) (postfix_of (operator_tree s earlier))))

-- ---- the order as a test

-- whether the operators in postfix are the block's, ascending, compared one by one
abbrev pub is_in_order : List Shape → Bool
is_in_order block = pointwise nat_eq (postfix (forest block)) (range_from 0 (length block))

-- the test decides whether the trees lie one after another
abbrev pub DecidesTheOrder : Type 0
DecidesTheOrder = (block : List Shape) → Decides (is_in_order block) (IsInOrder block)
