-- Where nodes tell what is answered, each part of the tree lies within theirs.
use Rattle.std.proofs.Common.{◌≡◌, ℕ, ◌^◌, ◌<◌, ◌≤◌, List, [], ◌∷◌, length, refl, sym, ap, ap₂, subst, ◌∙◌, arith}
use Rattle.std.specs.Prelude.{reverse}
use Rattle.std.specs.List.{All, Contains}
use Rattle.std.proofs.lemmas.Bool.{cond-true, cond-false, eq-eqb, ne_eqb}
use Rattle.std.proofs.lemmas.List.{map-id}
use Rattle.std.proofs.lemmas.List.Elements.{All-head, All-tail, All-weaker, All-contains, All-contains_itself}
use Rattle.peephole_lang.specs.Term.{Term, Terms, absent, node, no_terms, ◌▸◌, Node, pick, tree_at}
use Rattle.peephole_lang.specs.laws.PlaceLemmas.{IsAt, at_place}
use Rattle.peephole_lang.specs.laws.PlaceLemmas.IsAt.{last, before}
use Rattle.peephole_graphs.specs.Layout.{node_count_of, node_count, IsWhole, AreWhole}
use Rattle.peephole_graphs.specs.Rebuild.{NodeIsReached, IsPart, AreParts, IsRebuiltTree, TreeIsTooLong, IsToldBy, told_tree}
use Rattle.peephole_graphs.specs.Rebuild.NodeIsReached.{the_root, a_child}

-- ---- the tree of a node whose children stand before it

picked_before : {H : Type 0} (e : Node H) (earlier : List (Node H)) (is : List ℕ) → All (λ k. k < length earlier) is →
    pick (tree_at earlier) is ≡ pick (tree_at (e ∷ earlier)) is
picked_before e earlier [] h = refl
picked_before e earlier (i ∷ is) h =
    let l = All-head (λ k. k < length earlier) i is h in
    ap₂ (λ t ts. t ▸ ts) (sym (cond-false _ _ _ (ne_eqb (length earlier) i (omega arith))))
    (picked_before e earlier is (All-tail (λ k. k < length earlier) i is h))

tree_of : {H : Type 0} {n : Node H} {ns : List (Node H)} {i : ℕ} → IsAt n ns i → All (λ k. k < i) n.children →
    tree_at ns i ≡ node n.head (pick (tree_at ns) n.children)
tree_of {H} {n} (last {earlier} {k} l) h =
    cond-true _ _ _ (eq-eqb (length earlier) k l)
    ∙ ap (node n.head) (picked_before n earlier n.children (All-weaker (λ c. c < k) (λ c. c < length earlier) (λ c m. omega arith) n.children h))
tree_of {H} {n} (before {e} {earlier} {k} l a) h =
    cond-false _ _ _ (ne_eqb (length earlier) k (omega arith)) ∙ (tree_of a h
    ∙ ap (node n.head) (picked_before e earlier n.children (All-weaker (λ c. c < k) (λ c. c < length earlier) (λ c m. omega arith) n.children h)))

-- ---- parts of trees within the tree that nodes tell

module _ {H : Type 0} (Answers : ℕ → Node H → Type 0) (root : ℕ) (nodes : List (Node H)) (told : IsToldBy Answers root nodes) where
  abbrev From : ℕ → Type 0
  From id = NodeIsReached Answers root id

  abbrev at : ℕ → Term H
  at = tree_at (reverse nodes)

  up_to_root : (id : ℕ) → From id → id ≤ root
  up_to_root id the_root = omega arith
  up_to_root id (a_child parent child n r answer is) =
      let high = up_to_root parent r in
      let low : id < parent = All-contains (λ c. c < parent) n.children id (told.below parent n r answer) is in
      omega arith

  -- the tree of a reached id is its node over the trees of its children
  tree_here : (id : ℕ) (n : Node H) → From id → Answers id n → at id ≡ node n.head (pick at n.children)
  tree_here id n r a =
      let l = up_to_root id r in
      let there = told.there in
      let place = at_place (λ (x : Node H). x.head) (λ (x : Node H). x.children) nodes id n (omega arith) (sym (told.same id n r a)) in
      tree_of (subst (λ (ns : List (Node H)). IsAt n (reverse ns) id) (map-id nodes) place) (told.below id n r a)

  children_from : (id : ℕ) (n : Node H) → From id → Answers id n → All From n.children
  children_from id n r a = All-weaker (Contains n.children) From (λ k c. a_child id k n r a c) n.children (All-contains_itself n.children)

  mutual
    whole : (id : ℕ) (t : Term H) → From id → IsPart Answers id t → IsWhole t → t ≡ at id
    whole id absent r p w = absurd w
    whole id (node h kids) r p w =
        let n : Node H = record { head = h; children = p.0 } in
        ap (node h) (wholes p.0 kids (children_from id n r p.1) p.2 w) ∙ sym (tree_here id n r p.1)

    wholes : (is : List ℕ) (ts : Terms H) → All From is → AreParts Answers is ts → AreWhole ts → ts ≡ pick at is
    wholes [] no_terms r p w = refl
    wholes [] (t ▸ ts) r p w = absurd p
    wholes (i ∷ is) no_terms r p w = absurd p
    wholes (i ∷ is) (t ▸ ts) r p w = ap₂ (λ x y. x ▸ y) (whole i t (All-head From i is r) p.0 w.0) (wholes is ts (All-tail From i is r) p.1 w.1)

  mutual
    sized : (id : ℕ) (t : Term H) → From id → IsPart Answers id t → node_count_of t ≤ node_count_of (at id)
    sized id absent r p = omega arith
    sized id (node h kids) r p =
        let n : Node H = record { head = h; children = p.0 } in
        let more = sizes p.0 kids (children_from id n r p.1) p.2 in
        let own = ap node_count_of (tree_here id n r p.1) in
        omega arith

    sizes : (is : List ℕ) (ts : Terms H) → All From is → AreParts Answers is ts → node_count ts ≤ node_count (pick at is)
    sizes [] no_terms r p = omega arith
    sizes [] (t ▸ ts) r p = absurd p
    sizes (i ∷ is) no_terms r p = absurd p
    sizes (i ∷ is) (t ▸ ts) r p =
        let own = sized i t (All-head From i is r) p.0 in
        let more = sizes is ts (All-tail From i is r) p.1 in
        omega arith

  pub told_whole : (t : Term H) → IsRebuiltTree Answers root t → t ≡ told_tree nodes root
  told_whole t p = whole root t the_root p.0 p.1

  pub told_too_long : TreeIsTooLong Answers root → 2 ^ 32 < node_count_of (told_tree nodes root)
  told_too_long h = let more = sized root h.0 the_root h.1 in let many = h.2 in omega arith
