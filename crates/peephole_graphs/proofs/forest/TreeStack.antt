-- The forest of a block as it grows: an operator takes the last trees that stand open, or entry operands, and stands behind the others. The last tree is first.
use Rattle.std.proofs.Common.{◌≡◌, ℕ, zero, suc, ◌+◌, ◌-◌, Bool, true, false, cond, List, [], ◌∷◌, length, refl, sym, ap, ap₂, ◌∙◌, arith}
use Rattle.std.proofs.lemmas.Bool.{cond-true, cond-false}
use Rattle.peephole_graphs.specs.Shape.{Shape}
use Rattle.peephole_graphs.specs.Tree.{Tree, entry, node, Trees, no_trees, ◌▸◌}
use Rattle.peephole_graphs.proofs.forest.Depth.{top, value}
use Rattle.peephole_graphs.proofs.forest.DepthLemmas.{top_same}

abbrev pub is_open : Tree → Bool
is_open (entry m) = false
is_open (node i s kids) = s.has_result

-- how many stand open
abbrev pub opens : Trees → ℕ
opens no_trees = 0
opens (t ▸ forest) = cond (is_open t) (suc (opens forest)) (opens forest)

-- the tree `depth` places below the top, where `missing` entry operands were taken
abbrev pub forest_value : Trees → ℕ → ℕ → Tree
forest_value no_trees missing d = entry (missing + d)
forest_value (t ▸ forest) missing zero = cond (is_open t) t (forest_value forest missing zero)
forest_value (t ▸ forest) missing (suc d) = cond (is_open t) (forest_value forest missing d) (forest_value forest missing (suc d))

-- without the last `count` open ones
abbrev pub without_open : Trees → ℕ → Trees
without_open no_trees count = no_trees
without_open (t ▸ forest) zero = t ▸ forest
without_open (t ▸ forest) (suc count) = cond (is_open t) (without_open forest count) (t ▸ without_open forest (suc count))

-- the last `count` open ones
abbrev pub last_open : Trees → ℕ → Trees
last_open no_trees count = no_trees
last_open (t ▸ forest) zero = no_trees
last_open (t ▸ forest) (suc count) = cond (is_open t) (t ▸ last_open forest count) (last_open forest (suc count))

-- the trees behind a block's operators, the last one first, and how many entry operands they took
abbrev mutual
  pub tree_stack : List Shape → Trees
  tree_stack [] = no_trees
  tree_stack (s ∷ earlier) = node (length earlier) s (top (forest_value (tree_stack earlier) (missing earlier)) s.operands)
      ▸ without_open (tree_stack earlier) s.operands

  pub missing : List Shape → ℕ
  missing [] = 0
  missing (s ∷ earlier) = missing earlier + (s.operands - opens (tree_stack earlier))

pub without_open_zero : (forest : Trees) → without_open forest 0 ≡ forest
without_open_zero no_trees = refl
without_open_zero (t ▸ forest) = refl

pub last_open_zero : (forest : Trees) → last_open forest 0 ≡ no_trees
last_open_zero no_trees = refl
last_open_zero (t ▸ forest) = refl

pub opens_done : (t : Tree) (forest : Trees) → is_open t ≡ false → opens (t ▸ forest) ≡ opens forest
opens_done t forest e = cond-false _ _ _ e

pub forest_value_top : (t : Tree) (forest : Trees) (m : ℕ) → is_open t ≡ true → forest_value (t ▸ forest) m 0 ≡ t
forest_value_top t forest m e = cond-true _ _ _ e

pub forest_value_under : (t : Tree) (forest : Trees) (m d : ℕ) → is_open t ≡ true → forest_value (t ▸ forest) m (suc d) ≡ forest_value forest m d
forest_value_under t forest m d e = cond-true _ _ _ e

pub forest_value_done : (t : Tree) (forest : Trees) (m d : ℕ) → is_open t ≡ false → forest_value (t ▸ forest) m d ≡ forest_value forest m d
forest_value_done t forest m zero e = cond-false _ _ _ e
forest_value_done t forest m (suc d) e = cond-false _ _ _ e

pub without_open_top : (t : Tree) (forest : Trees) (k : ℕ) → is_open t ≡ true → without_open (t ▸ forest) (suc k) ≡ without_open forest k
without_open_top t forest k e = cond-true _ _ _ e

pub without_open_behind : (t : Tree) (forest : Trees) (k : ℕ) → is_open t ≡ false → without_open (t ▸ forest) k ≡ t ▸ without_open forest k
without_open_behind t forest zero e = ap (λ x. t ▸ x) (sym (without_open_zero forest))
without_open_behind t forest (suc k) e = cond-false _ _ _ e

pub last_open_top : (t : Tree) (forest : Trees) (k : ℕ) → is_open t ≡ true → last_open (t ▸ forest) (suc k) ≡ t ▸ last_open forest k
last_open_top t forest k e = cond-true _ _ _ e

pub last_open_behind : (t : Tree) (forest : Trees) (k : ℕ) → is_open t ≡ false → last_open (t ▸ forest) k ≡ last_open forest k
last_open_behind t forest zero e = sym (last_open_zero forest)
last_open_behind t forest (suc k) e = cond-false _ _ _ e

pub forest_value_without_open : (forest : Trees) (m k d : ℕ) →
    forest_value (without_open forest k) (m + (k - opens forest)) d ≡ forest_value forest m (d + k)
forest_value_without_open no_trees m k d = ap entry (omega arith)
forest_value_without_open (t ▸ forest) m zero d =
    let e : m + (0 - opens (t ▸ forest)) ≡ m = omega arith in
    let f : d ≡ d + 0 = omega arith in
    ap₂ (forest_value (t ▸ forest)) e f
forest_value_without_open (t ▸ forest) m (suc k) d =
    let one = forest_value_without_open forest m k d in
    let all = forest_value_without_open forest m (suc k) d in
    grind arith

abbrev pub operator : Shape → List Shape → Tree
operator s earlier = node (length earlier) s (top (forest_value (tree_stack earlier) (missing earlier)) s.operands)

pub value_tree_stack : (block : List Shape) (d : ℕ) → value block d ≡ forest_value (tree_stack block) (missing block) d
value_tree_stack [] d = ap entry (omega arith)
value_tree_stack (s ∷ earlier) zero =
    let kids = top_same (value earlier) (forest_value (tree_stack earlier) (missing earlier)) (value_tree_stack earlier) s.operands in
    let under = value_tree_stack earlier s.operands in
    let below = forest_value_without_open (tree_stack earlier) (missing earlier) s.operands 0 in
    grind arith
value_tree_stack (s ∷ earlier) (suc d) =
    let under = λ (e : ℕ). value_tree_stack earlier (e + s.operands) ∙
    sym (forest_value_without_open (tree_stack earlier) (missing earlier) s.operands e) in
    let u = under d in
    let v = under (suc d) in
    grind arith
