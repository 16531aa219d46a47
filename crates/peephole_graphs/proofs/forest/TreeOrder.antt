-- Trees in order.
use Rattle.std.proofs.Common.{◌≡◌, ℕ, zero, suc, ◌+◌, ◌-◌, List, [], ◌∷◌, ◌++◌, refl, sym, ap, ap₂, ◌∙◌, arith}
use Rattle.std.specs.Prelude.{reverse}
use Rattle.std.proofs.lemmas.List.{length-reverse, reverse-reverse}
use Rattle.peephole_graphs.specs.Shape.{Shape}
use Rattle.peephole_graphs.specs.Tree.{Tree, entry, node, Trees, no_trees, ◌▸◌, postfix_of, postfix, range_from, shapes_of, shapes, size_of, size}
use Rattle.peephole_graphs.specs.Tree.{renumber_tree, renumber}
use Rattle.peephole_graphs.specs.Forest.{forest, IsInOrder}
use Rattle.peephole_graphs.proofs.forest.DepthLemmas.{range_more}
use Rattle.peephole_graphs.proofs.forest.TreeStack.{opens, without_open, last_open, tree_stack, missing, operator}
use Rattle.peephole_graphs.proofs.forest.ForestLemmas.{rev, forest_is}
use Rattle.peephole_graphs.proofs.forest.EntryOperands.{top_last_open}
use Rattle.peephole_graphs.proofs.forest.SameTrees.{same_trees, length-shapes, back, back_is, back_join, back_kids}
use Rattle.peephole_graphs.proofs.forest.ConsecutiveOperators.{rev_join, order_before}

pub range_append : (a n m : ℕ) → range_from a n ++ range_from (a + n) m ≡ range_from a (n + m)
range_append a zero m = let e : a + 0 ≡ a = omega arith in let f : 0 + m ≡ m = omega arith in rw (e, f)
range_append a (suc n) m =
    let e : a + suc n ≡ suc a + n = omega arith in
    let f : suc n + m ≡ suc (n + m) = omega arith in
    ap (λ x. range_from a (suc n) ++ range_from x m) e ∙ (ap (λ x. a ∷ x) (range_append (suc a) n m) ∙ sym (ap (range_from a) f))

mutual
  numbers_of-renumber : (n : ℕ) (t : Tree) → postfix_of (renumber_tree n t) ≡ range_from n (size_of t)
  numbers_of-renumber n (entry m) = refl
  numbers_of-renumber n (node i s kids) = ap (λ x. x ++ (n + size kids) ∷ []) (numbers-renumber n kids) ∙ range_more n (size kids)

  pub numbers-renumber : (n : ℕ) (ts : Trees) → postfix (renumber n ts) ≡ range_from n (size ts)
  numbers-renumber n no_trees = refl
  numbers-renumber n (t ▸ ts) =
      ap₂ (λ x y. x ++ y) (numbers_of-renumber n t) (numbers-renumber (n + size_of t) ts) ∙ range_append n (size_of t) (size ts)

mutual
  pub shapes_of-renumber : (n : ℕ) (t : Tree) → shapes_of (renumber_tree n t) ≡ shapes_of t
  shapes_of-renumber n (entry m) = refl
  shapes_of-renumber n (node i s kids) = ap (λ x. x ++ s ∷ []) (shapes-renumber n kids)

  pub shapes-renumber : (n : ℕ) (ts : Trees) → shapes (renumber n ts) ≡ shapes ts
  shapes-renumber n no_trees = refl
  shapes-renumber n (t ▸ ts) = ap₂ (λ x y. x ++ y) (shapes_of-renumber n t) (shapes-renumber (n + size_of t) ts)

-- what was written is in order
pub written_in_order : (block : List Shape) → IsInOrder (reverse (shapes (forest block)))
written_in_order block =
    ap postfix (same_trees block) ∙ (numbers-renumber 0 (forest block) ∙
    ap (range_from 0) (sym (length-reverse (shapes (forest block)) ∙ length-shapes (forest block))))

-- and, written again with its own trees, it stays
pub written_again : (block : List Shape) → shapes (forest (reverse (shapes (forest block)))) ≡ shapes (forest block)
written_again block = ap shapes (same_trees block) ∙ shapes-renumber 0 (forest block)

-- where the trees are in order, the block is their postfix
in_order_back : (block : List Shape) → IsInOrder block → back (rev (tree_stack block)) ≡ block
in_order_back [] o = refl
in_order_back (s ∷ earlier) o =
    let (older, top) = order_before s earlier o in
    let ts = tree_stack earlier in
    let K = rev (without_open ts s.operands) in
    let P = rev (last_open ts s.operands) in
    let kids = ap back (top_last_open ts (missing earlier) s.operands) ∙ back_kids (missing earlier) (s.operands - opens ts) (last_open ts s.operands) in
    back_join K (operator s earlier ▸ no_trees) ∙ ap (λ x. s ∷ x) (ap (λ x. x ++ back K) kids ∙ (sym (back_join K P)
    ∙ (ap back (sym (rev_join (last_open ts s.operands) (without_open ts s.operands)) ∙ ap rev top) ∙ in_order_back earlier older)))

pub in_order_code : (block : List Shape) → IsInOrder block → shapes (forest block) ≡ reverse block
in_order_code block o =
    sym (reverse-reverse (shapes (forest block))) ∙ ap reverse (sym (back_is (forest block)) ∙ (ap back (forest_is block) ∙ in_order_back block o))
