-- The trees are in order exactly if every operator takes, by their sizes, the entries that end right before its own.
use Rattle.std.proofs.Common.{◌≡◌, ℕ, zero, suc, ◌-◌, ◌<◌, Bool, true, List, [], ◌∷◌, ◌++◌, length, take, refl, sym, ap, ◌∙◌, subst}
use Rattle.std.proofs.Common.{arith, ⊎_elim, append_assoc, inl, inr}
use Rattle.std.specs.Prelude.{⊤, ◌&&◌, ◌==◌}
use Rattle.std.specs.List.{filter, sum_by}
use Rattle.std.proofs.lemmas.Bool.Decides.{nat_tests}
use Rattle.std.proofs.lemmas.Bool.{cases_Bool, eq-eqb, and_parts}
use Rattle.std.proofs.lemmas.List.{append-nil, same_from_push}
use Rattle.std.proofs.lemmas.List.Sums.{sum_by-cons}
use Rattle.peephole_graphs.specs.Shape.{Shape}
use Rattle.peephole_graphs.specs.Tree.{Tree, entry, node, Trees, no_trees, ◌▸◌, postfix_of, postfix, range_from}
use Rattle.peephole_graphs.specs.Forest.{is_root, has, IsInOrder}
use Rattle.peephole_graphs.specs.Color.{color_after}
use Rattle.peephole_graphs.specs.Graph.{trees_at, roots, tree_at_entry, undef}
use Rattle.peephole_graphs.specs.Step.{GraphGrowth, grown}
use Rattle.peephole_graphs.proofs.forest.TreeStack.{is_open, without_open, last_open, tree_stack}
use Rattle.peephole_graphs.proofs.forest.ForestLemmas.{rev, forest_is, Falling, Falling-tree_stack, root_below}
use Rattle.peephole_graphs.proofs.forest.EntryOperands.{all_last_open}
use Rattle.peephole_graphs.proofs.forest.ConsecutiveOperators.{numbers_rev, range_parts, parts_apart, forest_numbers, some_root}
use Rattle.peephole_graphs.proofs.forest.ConsecutiveOperators.{without_open_if_none, in_right, one_in, order_tree_stack}
use Rattle.peephole_graphs.proofs.forest.ConsecutiveOperators.{range_last, spread}
use Rattle.peephole_graphs.proofs.graph.StackGraph.{graph, IsGraph, is_graph, FallingIds, FallingIds-filter, FallingIds-take}
use Rattle.peephole_graphs.proofs.graph.StackGraph.{FallingIds-without_open, open_at, without_open_ids}
use Rattle.peephole_graphs.proofs.graph.StackGraph.{stack_trees, behind, more_of, place_of, taken_of, roots_fall, new_roots}
use Rattle.peephole_graphs.proofs.graph.Totals.{size_of_entry, size_own, size_old}

-- the taken indexes, the last first, lie by their sizes one before another, the first right below `end`
abbrev pub chain : (ℕ → ℕ) → ℕ → List ℕ → Bool
chain size end [] = true
chain size end (t ∷ ts) = (suc t == end) && chain size (end - size t) ts

-- the roots, the last first, lie by their sizes one before another, down to 0
abbrev pub Contig : (ℕ → ℕ) → ℕ → List ℕ → Type 0
Contig size end [] = end ≡ 0
Contig size end (i ∷ is) = (suc i ≡ end) × Contig size (end - size i) is

-- below a root that is not taken none is
chain_none : (size : ℕ → ℕ) (end i : ℕ) (ts : List ℕ) → suc i ≡ end → FallingIds ts i → chain size end ts ≡ true → ts ≡ []
chain_none size end i [] e f h = refl
chain_none size end i (t ∷ ts) e f h =
    let l = f.0 in let p = (and_parts (suc t == end) (chain size (end - size t) ts) h).0 in absurd (grind (arith, nat_tests))

pick_none : (at : ℕ → Tree) (is : List ℕ) → trees_at at is ≡ no_trees → is ≡ []
pick_none at [] e = refl
pick_none at (i ∷ is) e = absurd cc

taken_falling : (test : ℕ → Bool) (is : List ℕ) (n k : ℕ) → FallingIds is n → FallingIds (take k (filter test is)) n
taken_falling test is n k f = FallingIds-take k (filter test is) n (FallingIds-filter test is n f)

pub chain_to_front : (at : ℕ → Tree) (size : ℕ → ℕ) (is : List ℕ) (end n k : ℕ) → Contig size end is → FallingIds is n →
    chain size end (take k (filter (open_at at) is)) ≡ true →
    postfix (rev (without_open (trees_at at is) k)) ++ postfix (rev (last_open (trees_at at is) k)) ≡ postfix (rev (trees_at at is))
chain_to_front at size [] end n k c f h = refl
chain_to_front at size (i ∷ is) end n zero c f h = append-nil (postfix (rev (trees_at at (i ∷ is))))
chain_to_front at size (i ∷ is) end n (suc k) c f h =
    let ts = trees_at at is in
    let taken = filter (open_at at) is in
    let ih = chain_to_front at size is (end - size i) i k c.1 f.1 in
    let own = numbers_rev (at i) ts in
    elim (cases_Bool (is_open (at i))) [
      | inl e ↦
          let rest : chain size (end - size i) (take k taken) ≡ true = grind arith in
          let older = ih rest in
          let last = numbers_rev (at i) (last_open ts k) in
          grind (arith, append_assoc (postfix (rev (without_open ts k))) (postfix (rev (last_open ts k))) (postfix_of (at i)))
      | inr e ↦
          let rest : chain size end (take (suc k) taken) ≡ true = grind arith in
          let none = chain_none size end i (take (suc k) taken) c.0 (taken_falling (open_at at) is i (suc k) f.1) rest in
          let gone : last_open ts (suc k) ≡ no_trees = sym (stack_trees at is (suc k)) ∙ ap (trees_at at) none in
          let all = without_open_if_none ts k gone in
          grind (arith, append-nil (postfix (rev (at i ▸ ts))))
    ]

pub front_to_chain : (at : ℕ → Tree) (size : ℕ → ℕ) (is : List ℕ) (ts : Trees) (end n m k a z : ℕ) → trees_at at is ≡ ts →
    Contig size end is → FallingIds is n → Falling ts m → postfix (rev (without_open ts k)) ++ postfix (rev (last_open ts k)) ≡ range_from a z →
    chain size end (take k (filter (open_at at) is)) ≡ true
front_to_chain at size [] ts end n m zero a z e c f g h = refl
front_to_chain at size [] ts end n m (suc k) a z e c f g h = refl
front_to_chain at size (i ∷ is) no_trees end n m k a z e c f g h = absurd cc
front_to_chain at size (i ∷ is) (entry q ▸ ts) end n m k a z e c f g h = absurd g
front_to_chain at size (i ∷ is) (node j s kids ▸ ts) end n m zero a z e c f g h = refl
front_to_chain at size (i ∷ is) (node j s kids ▸ ts) end n m (suc k) a z e c f g h =
    let t = node j s kids in
    let own : at i ≡ t = cc in
    let rest : trees_at at is ≡ ts = cc in
    let opened : is_open (at i) ≡ s.has_result = ap is_open own in
    let taken = filter (open_at at) is in
    elim (cases_Bool s.has_result) [
      | inl w ↦
          let X = postfix (rev (without_open ts k)) in
          let Y = postfix (rev (last_open ts k)) in
          let last = numbers_rev t (last_open ts k) in
          let whole : (X ++ Y) ++ postfix_of t ≡ range_from a z = grind (arith, append_assoc X Y (postfix_of t)) in
          let (u, v, l) = range_parts a z (X ++ Y) (postfix_of t) whole in
          let older = front_to_chain at size is ts (end - size i) i j k a (length (X ++ Y)) rest c.1 f.1 g.1 u in
          let here = eq-eqb (suc i) end c.0 in
          grind arith
      | inr w ↦
          let X = postfix (rev (without_open ts (suc k))) in
          let Y = postfix (rev (last_open ts (suc k))) in
          let last = numbers_rev t (without_open ts (suc k)) in
          let whole : (X ++ postfix_of t) ++ Y ≡ range_from a z = grind arith in
          let none : take (suc k) taken ≡ [] = ⊎_elim
          (λ x. pick_none at (take (suc k) taken) (stack_trees at is (suc k) ∙ (ap (λ y. last_open y (suc k)) rest ∙ x)))
          (λ (x : (j : ℕ) × (is_root j (last_open ts (suc k)) ≡ true) × (has j Y ≡ true)).
          let below = root_below ts j (suc k) x.0 g.1 x.1 in
          let own_last = in_right j X (postfix_of t) (in_right j (postfix kids) (j ∷ []) (one_in j)) in
          let above = parts_apart a z _ Y j x.0 whole own_last x.2 in
          absurd (omega arith))
          (some_root (last_open ts (suc k)) (all_last_open ts (suc k))) in
          grind arith
    ]

contig_without_open : (test : ℕ → Bool) (size : ℕ → ℕ) (is : List ℕ) (end n k : ℕ) → Contig size end is → FallingIds is n →
    chain size end (take k (filter test is)) ≡ true → Contig size (end - sum_by size (take k (filter test is))) (without_open_ids test is k)
contig_without_open test size [] end n zero c f h = omega arith
contig_without_open test size [] end n (suc k) c f h = omega arith
contig_without_open test size (i ∷ is) end n zero c f h = subst (λ x. Contig size x (i ∷ is)) (omega arith) c
contig_without_open test size (i ∷ is) end n (suc k) c f h = elim (cases_Bool (test i)) [
  | inl e ↦
      let rest : chain size (end - size i) (take k (filter test is)) ≡ true = grind arith in
      let sum : (end - size i) - sum_by size (take k (filter test is)) ≡ end - sum_by size (i ∷ take k (filter test is)) =
      omega (arith, sum_by-cons size i (take k (filter test is))) in
      rw e (subst (λ x. Contig size x (without_open_ids test is k)) sum (contig_without_open test size is (end - size i) i k c.1 f.1 rest))
  | inr e ↦
      let rest : chain size end (take (suc k) (filter test is)) ≡ true = grind arith in
      let none = chain_none size end i (take (suc k) (filter test is)) c.0 (taken_falling test is i (suc k) f.1) rest in
      let still : end ≡ end - 0 = omega arith in
      rw (e, none) (subst (λ x. Contig size x (i ∷ without_open_ids test is (suc k))) still (
        c.0,
        subst (Contig size (end - size i)) (sym (without_open_none is k none)) c.1,
      ))
]
  where
    without_open_none : (is : List ℕ) (k : ℕ) → take (suc k) (filter test is) ≡ [] → without_open_ids test is (suc k) ≡ is
    without_open_none [] k e = refl
    without_open_none (i ∷ is) k e = let ih = without_open_none is k in grind arith

contig_same : (f g : ℕ → ℕ) (is : List ℕ) (end n : ℕ) → FallingIds is n → ((i : ℕ) → i < n → f i ≡ g i) → Contig f end is → Contig g end is
contig_same f g [] end n h e c = c
contig_same f g (i ∷ is) end n h e c =
    (c.0, subst (λ x. Contig g (end - x) is) (e i h.0) (contig_same f g is (end - f i) i h.1 (λ j l. e j (let k = h.0 in omega arith)) c.1))

-- what a step of the graph takes is a chain
abbrev IsChained : Shape → GraphGrowth → Type 0
IsChained s g = chain (size_of_entry g) (length g.nodes) (taken_of s g) ≡ true

-- the same of the roots
chained_roots : (s : Shape) (earlier : List Shape) (g : GraphGrowth) → IsGraph earlier g → IsChained s g →
    chain (size_of_entry g) (length g.nodes) (take s.operands (filter (open_at (tree_at_entry g.nodes)) (roots g.parents))) ≡ true
chained_roots s earlier g ig h = ap (λ x. chain (size_of_entry g) (length g.nodes) (take s.operands x)) (sym ig.stack_is) ∙ h

abbrev pub ChainsOk : Bool → List Shape → Type 0
ChainsOk preserving [] = ⊤
ChainsOk preserving (s ∷ earlier) = ChainsOk preserving earlier × IsChained s (graph preserving earlier)

pub contig : (preserving : Bool) (block : List Shape) → ChainsOk preserving block →
    Contig (size_of_entry (graph preserving block)) (length (graph preserving block).nodes) (roots (graph preserving block).parents)
contig preserving [] h = refl
contig preserving (s ∷ earlier) h =
    let g = graph preserving earlier in
    let ig = is_graph preserving earlier in
    let n = length earlier in
    let c = color_after preserving earlier in
    let base = length g.nodes in
    let rs = roots g.parents in
    let test = open_at (tree_at_entry g.nodes) in
    let others = without_open_ids test rs s.operands in
    let falling = roots_fall earlier g ig in
    let f = size_of_entry g in
    let f' = size_of_entry (grown g s n c) in
    let own = size_own s earlier g n c ig in
    let b = behind (undef n) (more_of s g) g.nodes in
    let rest : Contig f (base - sum_by f (taken_of s g)) others =
    subst (λ x. Contig f (base - sum_by f (take s.operands x)) others) (sym ig.stack_is)
    (contig_without_open test f rs base base s.operands (contig preserving earlier h.0) falling (chained_roots s earlier g ig h.1)) in
    let rest' = contig_same f f' others (base - sum_by f (taken_of s g)) base (FallingIds-without_open test rs base s.operands falling)
    (λ i l. sym (size_old s earlier g n c ig i l)) rest in
    let end : base - sum_by f (taken_of s g) ≡ length (grown g s n c).nodes - f' (place_of s g) = omega arith in
    subst (Contig f' (length (grown g s n c).nodes)) (sym (new_roots earlier g ig s n c)) (omega arith, subst (λ x. Contig f' x others) end rest')

pub chains_from_order : (preserving : Bool) (block : List Shape) → IsInOrder block → ChainsOk preserving block
chains_from_order preserving [] o = tt
chains_from_order preserving (s ∷ earlier) o =
    let g = graph preserving earlier in
    let ig = is_graph preserving earlier in
    let n = length earlier in
    let forest = tree_stack earlier in
    let k = s.operands in
    let rs = roots g.parents in
    let falling = roots_fall earlier g ig in
    let whole = sym (forest_numbers s earlier) ∙ (order_tree_stack (s ∷ earlier) o ∙ range_last n) in
    let front : postfix (rev (without_open forest k)) ++ postfix (rev (last_open forest k)) ≡ range_from 0 n = (same_from_push _ _ _ _ whole).0 in
    let back : IsInOrder earlier = ap postfix (forest_is earlier) ∙ spread forest 0 n n k (Falling-tree_stack earlier) front in
    let before = chains_from_order preserving earlier back in
    let chained = front_to_chain (tree_at_entry g.nodes) (size_of_entry g) rs forest (length g.nodes)
    (length g.nodes) n k 0 n ig.tree_stack_is (contig preserving earlier before) falling (Falling-tree_stack earlier) front in
    (before, ap (λ x. chain (size_of_entry g) (length g.nodes) (take k x)) ig.stack_is ∙ chained)

pub order_from_chains : (preserving : Bool) (block : List Shape) → ChainsOk preserving block → IsInOrder block
order_from_chains preserving [] h = refl
order_from_chains preserving (s ∷ earlier) h =
    let g = graph preserving earlier in
    let ig = is_graph preserving earlier in
    let n = length earlier in
    let forest = tree_stack earlier in
    let k = s.operands in
    let rs = roots g.parents in
    let falling = roots_fall earlier g ig in
    let before = order_tree_stack earlier (order_from_chains preserving earlier h.0) in
    let chained = chained_roots s earlier g ig h.1 in
    let front : postfix (rev (without_open forest k)) ++ postfix (rev (last_open forest k)) ≡ range_from 0 n =
    sym (ap (λ x. postfix (rev (without_open x k)) ++ postfix (rev (last_open x k))) ig.tree_stack_is) ∙
    (chain_to_front (tree_at_entry g.nodes) (size_of_entry g) rs (length g.nodes) (length g.nodes) k
    (contig preserving earlier h.0) falling chained ∙ (ap (λ x. postfix (rev x)) ig.tree_stack_is ∙ before)) in
    ap postfix (forest_is (s ∷ earlier)) ∙ (forest_numbers s earlier ∙ (ap (λ x. x ++ n ∷ []) front ∙ sym (range_last n)))
