-- How many nodes the trees of a forest have: as many as its block has operators and missing operands.
use Rattle.std.proofs.Common.{◌≡◌, ℕ, zero, suc, ◌+◌, ◌-◌, ◌≤◌, Bool, true, List, [], ◌∷◌, length, refl, ap, ◌∙◌, arith, inl, inr}
use Rattle.std.specs.Prelude.{◌==◌}
use Rattle.std.proofs.lemmas.Bool.{or_cases, eqb-true, false≢true}
use Rattle.peephole_graphs.specs.Shape.{Shape}
use Rattle.peephole_graphs.specs.Tree.{Tree, Trees, no_trees, ◌▸◌, join, full_size_of, full_size}
use Rattle.peephole_graphs.specs.Forest.{forest, has}
use Rattle.peephole_graphs.specs.Graph.{trees_at}
use Rattle.peephole_graphs.specs.GraphOf.{IsSmall}
use Rattle.peephole_graphs.proofs.graph.BlockGraph.{missing_count}
use Rattle.peephole_graphs.proofs.forest.TreeStack.{opens, without_open, last_open, tree_stack, missing}
use Rattle.peephole_graphs.proofs.forest.ForestLemmas.{rev, forest_is}
use Rattle.peephole_graphs.proofs.forest.EntryOperands.{entries, top_last_open}
use Rattle.peephole_graphs.proofs.graph.BlockGraphLemmas.{result_count_is}

wholes-join : (ts us : Trees) → full_size (join ts us) ≡ full_size ts + full_size us
wholes-join no_trees us = omega arith
wholes-join (t ▸ ts) us = let e = wholes-join ts us in omega arith

wholes-rev : (ts : Trees) → full_size (rev ts) ≡ full_size ts
wholes-rev no_trees = refl
wholes-rev (t ▸ ts) = let e = wholes-rev ts in let f = wholes-join (rev ts) (t ▸ no_trees) in omega arith

wholes-entries : (m k : ℕ) → full_size (entries m k) ≡ k
wholes-entries m zero = refl
wholes-entries m (suc k) = let e = wholes-entries m k in omega arith

wholes-split : (f : Trees) (k : ℕ) → full_size (without_open f k) + full_size (last_open f k) ≡ full_size f
wholes-split no_trees k = refl
wholes-split (t ▸ f) zero = omega arith
wholes-split (t ▸ f) (suc k) = grind (arith, wholes-split f k, wholes-split f (suc k))

wholes-tree_stack : (block : List Shape) → full_size (tree_stack block) ≡ length block + missing_count block
wholes-tree_stack [] = refl
wholes-tree_stack (s ∷ earlier) =
    let older = wholes-tree_stack earlier in
    let result_count = result_count_is earlier in
    let more = s.operands - opens (tree_stack earlier) in
    let kids = ap full_size (top_last_open (tree_stack earlier) (missing earlier) s.operands) in
    let parts = wholes-join (entries (missing earlier) more) (rev (last_open (tree_stack earlier) s.operands)) in
    let lacks = wholes-entries (missing earlier) more in
    let turned = wholes-rev (last_open (tree_stack earlier) s.operands) in
    let split = wholes-split (tree_stack earlier) s.operands in
    omega arith

pub wholes-forest : (block : List Shape) → full_size (forest block) ≡ length block + missing_count block
wholes-forest block = ap full_size (forest_is block) ∙ (wholes-rev (tree_stack block) ∙ wholes-tree_stack block)

-- a tree is no larger than those that it is one of
pub one_of : (at : ℕ → Tree) (i : ℕ) (is : List ℕ) → has i is ≡ true → full_size_of (at i) ≤ full_size (trees_at at is)
one_of at i [] h = absurd (false≢true h)
one_of at i (j ∷ is) h = elim (or_cases (j == i) (has i is) h) [
  | inl e ↦ let same = ap (λ k. full_size_of (at k)) (eqb-true j i e) in omega arith
  | inr e ↦ let rest = one_of at i is e in omega arith
]

-- a block's forest has at most 2^32 operators and entry operands
pub block_small : (preserving : Bool) (block : List Shape) → IsSmall preserving block → full_size (forest block) ≤ 4294967296
block_small preserving [] h = omega arith
block_small preserving (s ∷ earlier) h = h.1
