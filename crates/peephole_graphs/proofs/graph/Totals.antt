-- The entries from the roots downwards are all entries.
use Rattle.std.proofs.Common.{◌≡◌, ℕ, zero, suc, ◌+◌, ◌<◌, ◌≤◌, Bool, true, false, List, [], ◌∷◌, ◌++◌, length, take, map, refl, sym, ap, ap₂, ◌∙◌}
use Rattle.std.proofs.Common.{subst, arith}
use Rattle.std.specs.Prelude.{◌==◌, ◌&&◌, replicate, reverse}
use Rattle.std.specs.List.{filter, All, sum_by}
use Rattle.std.proofs.lemmas.List.{length-map, map-append, take_all}
use Rattle.std.proofs.lemmas.List.Sums.{sum_by-cons}
use Rattle.peephole_graphs.specs.Shape.{Shape}
use Rattle.peephole_graphs.specs.Color.{color_after}
use Rattle.peephole_graphs.specs.Graph.{GraphEntry, roots, tree_at_entry, undef, item}
use Rattle.peephole_graphs.specs.Step.{GraphGrowth, grown, down}
use Rattle.peephole_graphs.specs.Downwards.{Kin, kin_at}
use Rattle.peephole_graphs.specs.Measures.{sizes_of, color_flags_of, are_alike}
use Rattle.peephole_graphs.proofs.Lists.{sum_by_same}
use Rattle.peephole_graphs.proofs.graph.StackGraph.{graph, IsGraph, is_graph, FallingIds-without_open, open_at, without_open_ids, behind}
use Rattle.peephole_graphs.proofs.graph.StackGraph.{roots_fall, falls_below, more_of}
use Rattle.peephole_graphs.proofs.graph.StackGraph.{place_of, taken_of, new_entry, taken_below, new_roots}
use Rattle.peephole_graphs.proofs.graph.BlockGraphLemmas.{at_old, at_own}
use Rattle.peephole_graphs.proofs.graph.Sizes.{sizes_step, flags_step, sizes_length}

abbrev pub kin_of : GraphEntry → Kin
kin_of e = record { children = e.children; color = e.color }

abbrev pub kins : List GraphEntry → List Kin
kins nodes = map kin_of nodes

pub map_replicate : {A B : Type 0} (f : A → B) (k : ℕ) (x : A) → map f (replicate k x) ≡ replicate k (f x)
map_replicate f zero x = refl
map_replicate f (suc k) x = ap (λ y. f x ∷ y) (map_replicate f k x)

abbrev pub new_kin : Shape → GraphGrowth → ℕ → Kin
new_kin s g c = kin_of (new_entry s g 0 c)

abbrev pub size_of_entry : GraphGrowth → ℕ → ℕ
size_of_entry g i = item 0 (sizes_of (kins g.nodes)) i

-- ---- a step

-- the kins behind it
pub kins_step : (s : Shape) (g : GraphGrowth) (n c : ℕ) → kins (grown g s n c).nodes ≡ new_kin s g c
    ∷ (replicate (more_of s g) (kin_of (undef n)) ++ kins g.nodes)
kins_step s g n c = ap (λ x. new_kin s g c ∷ x) (map-append kin_of (replicate (more_of s g) (undef n)) g.nodes ∙
    ap (λ x. x ++ kins g.nodes) (map_replicate kin_of (more_of s g) (undef n)))

module _ (s : Shape) (earlier : List Shape) (g : GraphGrowth) (n c : ℕ) (ig : IsGraph earlier g) where
  kids_are : (new_kin s g c).children ≡ down (length (kins g.nodes)) (more_of s g) ++ reverse (taken_of s g)
  kids_are = ap (λ x. down x (more_of s g) ++ reverse (taken_of s g)) (sym (length-map g.nodes kin_of))

  inside : All (λ i. i < length (kins g.nodes)) (taken_of s g)
  inside = subst (λ x. All (λ i. i < x) (taken_of s g)) (sym (length-map g.nodes kin_of)) (taken_below earlier g ig s.operands)

  pub sizes_grown : sizes_of (kins (grown g s n c).nodes) ≡
      suc (more_of s g + sum_by (size_of_entry g) (taken_of s g)) ∷ (replicate (more_of s g) 1 ++ sizes_of (kins g.nodes))
  sizes_grown = ap sizes_of (kins_step s g n c) ∙
      sizes_step (new_kin s g c) (kin_of (undef n)) (more_of s g) (kins g.nodes) (taken_of s g) refl kids_are inside

  pub flags_grown : c < 4294967295 → color_flags_of (kins (grown g s n c).nodes) ≡ ((more_of s g == 0) &&
      are_alike (item false (color_flags_of (kins g.nodes))) (λ i. (kin_at (kins g.nodes) i).color) c (taken_of s g)) ∷
      (replicate (more_of s g) true ++ color_flags_of (kins g.nodes))
  flags_grown b = ap color_flags_of (kins_step s g n c) ∙
      flags_step (new_kin s g c) (kin_of (undef n)) (more_of s g) (kins g.nodes) (taken_of s g) refl refl b kids_are inside

  pub size_own : size_of_entry (grown g s n c) (place_of s g) ≡ suc (more_of s g + sum_by (size_of_entry g) (taken_of s g))
  size_own = ap₂ (λ x j. item 0 x (j + more_of s g)) sizes_grown (sym (length-map g.nodes kin_of) ∙ sym (sizes_length (kins g.nodes))) ∙
      at_own 0 _ 1 (more_of s g) (sizes_of (kins g.nodes))

  pub size_old : (i : ℕ) → i < length g.nodes → size_of_entry (grown g s n c) i ≡ size_of_entry g i
  size_old i l =
      let m = length-map g.nodes kin_of in
      let z = sizes_length (kins g.nodes) in
      ap (λ x. item 0 x i) sizes_grown ∙ at_old 0 _ 1 (more_of s g) (sizes_of (kins g.nodes)) i (omega arith)

-- ---- the sum of the roots' sizes

sum_by_parts : (f : ℕ → ℕ) (test : ℕ → Bool) (is : List ℕ) (k : ℕ) →
    sum_by f is ≡ sum_by f (without_open_ids test is k) + sum_by f (take k (filter test is))
sum_by_parts f test [] zero = refl
sum_by_parts f test [] (suc k) = refl
sum_by_parts f test (i ∷ is) zero = omega arith
sum_by_parts f test (i ∷ is) (suc k) =
    let one = sum_by_parts f test is k in
    let all = sum_by_parts f test is (suc k) in
    grind (arith, sum_by-cons f i is, sum_by-cons f i (take k (filter test is)), sum_by-cons f i (without_open_ids test is (suc k)))

roots_total : (preserving : Bool) (block : List Shape) →
    sum_by (size_of_entry (graph preserving block)) (roots (graph preserving block).parents) ≡ length (graph preserving block).nodes
roots_total preserving [] = refl
roots_total preserving (s ∷ earlier) =
    let g = graph preserving earlier in
    let ig = is_graph preserving earlier in
    let n = length earlier in
    let c = color_after preserving earlier in
    let rs = roots g.parents in
    let test = open_at (tree_at_entry g.nodes) in
    let others = without_open_ids test rs s.operands in
    let f = size_of_entry g in
    let f' = size_of_entry (grown g s n c) in
    let inside = falls_below others (length g.nodes) (FallingIds-without_open test rs (length g.nodes) s.operands (roots_fall earlier g ig)) in
    let own = size_own s earlier g n c ig in
    let rest = sum_by_same f' f others (length g.nodes) inside (size_old s earlier g n c ig) in
    let parts : sum_by f rs ≡ sum_by f others + sum_by f (taken_of s g) = sum_by_parts f test rs s.operands ∙
    ap (λ x. sum_by f others + sum_by f (take s.operands x)) (sym ig.stack_is) in
    let ih = roots_total preserving earlier in
    let b = behind (undef n) (more_of s g) g.nodes in
    ap (sum_by f') (new_roots earlier g ig s n c) ∙ omega (arith, sum_by-cons f' (place_of s g) others)

pub stack_total : (preserving : Bool) (block : List Shape) →
    sum_by (size_of_entry (graph preserving block)) (graph preserving block).stack ≤ length (graph preserving block).nodes
stack_total preserving block =
    let g = graph preserving block in
    let ig = is_graph preserving block in
    let e = roots_total preserving block in
    let all = ap (sum_by (size_of_entry g)) (take_all (length g.stack) g.stack (omega arith)) in
    let parts = sum_by_parts (size_of_entry g) (open_at (tree_at_entry g.nodes)) (roots g.parents) (length g.stack) in
    let taken = ap (λ x. sum_by (size_of_entry g) (take (length g.stack) x)) ig.stack_is in
    omega arith
