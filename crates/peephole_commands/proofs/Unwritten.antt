-- Behind a block stands none of its operators, so that a term for that point is written nowhere.
use Rattle.std.proofs.Common.{◌≡◌, ℕ, suc, ◌+◌, ◌≤◌, Bool, true, false, List, [], ◌∷◌, length, refl, ap₂, arith}
use Rattle.std.specs.Prelude.{◌||◌, ◌==◌, if◌then◌else◌}
use Rattle.std.proofs.lemmas.Bool.{ne_eqb}
use Rattle.std.proofs.lemmas.List.{length-reverse}
use Rattle.wasm_code.specs.declared.operator.Operator.{Operator}
use Rattle.wasm_types.specs.Module.{Module}
use Rattle.peephole_graphs.specs.declared.shape.Shape.{Shape}
use Rattle.peephole_graphs.specs.declared.shape.Judged.{Judged}
use Rattle.peephole_graphs.specs.declared.shape.Judged.TheVariants.{Fits}
use Rattle.peephole_graphs.specs.Shape.{and_shape, judge, operator_shapes}
use Rattle.peephole_graphs.specs.Forest.{is_operand, operator_tree, trees, trees_without}
use Rattle.peephole_graphs.specs.Tree as tree
use Rattle.peephole_graphs.specs.Tree.{Trees, entry, node, no_trees, join}
use Rattle.peephole_terms.specs.Written.{Site, block_operators, block_shapes, has_root, is_written}

-- at most as many shapes as operators
shapes_within : (info : Module) (os : List (Operator × ℕ)) → length (operator_shapes info os) ≤ length os
shapes_within info [] = omega arith
shapes_within info (o ∷ os) = go (judge info o.0) (shapes_within info os)
  where
    go : (j : Judged) → length (operator_shapes info os) ≤ length os → length (and_shape j (operator_shapes info os)) ≤ suc (length os)
    go (Fits s) l = omega arith
    go _ l = omega arith

-- neither of two tests passes
neither : (a b : Bool) → a ≡ false → b ≡ false → (a || b) ≡ false
neither a b x y = ap₂ (λ x y. x || y) x y

-- the second of two tests that don't pass
second : (a b : Bool) → (a || b) ≡ false → b ≡ false
second true b e = absurd cc
second false b e = e

-- the first one
first_of : (a b : Bool) → (a || b) ≡ false → a ≡ false
first_of true b e = absurd cc
first_of false b e = refl

-- one more tree that isn't the root's
no_root_joined : (first at : ℕ) (ts us : Trees) → has_root first at ts ≡ false → has_root first at us ≡ false → has_root first at (join ts us) ≡ false
no_root_joined first at no_trees us t u = u
no_root_joined first at (tree.◌▸◌ (entry m) ts) us t u = no_root_joined first at ts us t u
no_root_joined first at (tree.◌▸◌ (node i s kids) ts) us t u =
    neither (first + i == at) _ (first_of _ (has_root first at ts) t) (no_root_joined first at ts us (second (first + i == at) _ t) u)

-- fewer trees
no_root_left : (test : ℕ → Bool) (first at : ℕ) (ts : Trees) → has_root first at ts ≡ false → has_root first at (trees_without test ts) ≡ false
no_root_left test first at no_trees t = refl
no_root_left test first at (tree.◌▸◌ (entry m) ts) t = no_root_left test first at ts t
no_root_left test first at (tree.◌▸◌ (node i s kids) ts) t =
    go (test i) (first_of _ (has_root first at ts) t) (no_root_left test first at ts (second (first + i == at) _ t))
  where
    left : Trees
    left = trees_without test ts

    go : (gone : Bool) → (first + i == at) ≡ false → has_root first at left ≡ false →
        has_root first at (if gone then left else tree.◌▸◌ (node i s kids) left) ≡ false
    go true x y = y
    go false x y = neither (first + i == at) (has_root first at left) x y

-- no operator of a block stands behind it
no_root_behind : (first at : ℕ) (block : List Shape) → first + length block ≤ at → has_root first at (trees block) ≡ false
no_root_behind first at [] l = refl
no_root_behind first at (s ∷ earlier) l =
    let here = ne_eqb (first + length earlier) at (omega (arith, l)) in
    no_root_joined first at (trees earlier) (tree.◌▸◌ (operator_tree s earlier) no_trees) (no_root_behind first at earlier (omega (arith, l)))
    (neither (first + length earlier == at) false here refl)

-- so that a term for a point there isn't written
pub written_nowhere : (info : Module) (site : Site) → site.block.start + length (block_operators site) ≤ site.at → is_written info site ≡ false
written_nowhere info site l =
    let os = block_operators site in
    let block = block_shapes info site in
    let within = shapes_within info os in
    let same = length-reverse (operator_shapes info os) in
    no_root_left (λ j. is_operand j (trees block)) site.block.start site.at (trees block)
    (no_root_behind site.block.start site.at block (omega (arith, l, within, same)))
