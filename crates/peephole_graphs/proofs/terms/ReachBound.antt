-- Where no id is reached twice, a part of the tree has no more nodes than there are ids up to the root.
use Rattle.std.proofs.Common.{◌≡◌, ℕ, suc, ◌+◌, ◌-◌, ◌^◌, ◌<◌, ◌≤◌, ◌⊎◌, inl, inr, List, [], ◌∷◌, ◌++◌, length, refl, sym, subst, arith, length-append}
use Rattle.std.specs.Prelude.{◌≢◌}
use Rattle.std.specs.List.{All, AllPairs, Contains}
use Rattle.std.proofs.Math.Dec.{eqb}
use Rattle.std.proofs.lemmas.Bool.{ne_eqb, eqb-true, cases_lt}
use Rattle.std.proofs.lemmas.List.{get_or_append_left, get_or-append_right}
use Rattle.std.proofs.lemmas.List.Elements.{All-nil, All-append, All-push, All-weaker, All-contains, Contains-append_right}
use Rattle.std.proofs.lemmas.List.Quantifiers.{all_pairs_push}
use Rattle.std.proofs.lemmas.List.Folds.{Any-from_list_any}
use Rattle.std.proofs.lemmas.Map.Keys.{IsDistinct-from_apart}
use Rattle.std.proofs.lemmas.Map.Steps.{length-le_from_distinct_below}
use Rattle.peephole_lang.specs.Term.{Term, Terms, absent, node, no_terms, ◌▸◌, Node}
use Rattle.peephole_graphs.specs.Layout.{node_count_of, node_count}
use Rattle.peephole_graphs.specs.Rebuild.{NodeIsReached, IsPart, AreParts, TreeIsTooLong, IsReachedOnce}
use Rattle.peephole_graphs.specs.Rebuild.NodeIsReached.{the_root, a_child}

abbrev AllDiffer : List ℕ → Type 0
AllDiffer is = AllPairs (λ a b. a ≢ b) is

differ_append : (xs ys : List ℕ) → AllDiffer xs → AllDiffer ys → All (λ x. All (λ y. x ≢ y) ys) xs → AllDiffer (xs ++ ys)
differ_append xs ys p q h i j d l m =
    let n = length-append xs ys in
    let left = λ (k : ℕ) (a : k < length xs). get_or_append_left xs ys d k a in
    let right = λ (k : ℕ) (b : length xs ≤ k). get_or-append_right xs ys (length xs) k d refl b in
    elim (cases_lt j (length xs)) [
      | inl a ↦ rw (left i (omega arith), left j a) (p i j d l a)
      | inr b ↦ elim (cases_lt i (length xs)) [
        | inl c ↦ rw (left i c, right j b) (h i d c (j - length xs) d (omega arith))
        | inr c ↦ rw (right i c, right j b) (q (i - length xs) (j - length xs) d (omega arith) (omega arith))
      ]
    ]

-- numbers below `n` that differ are at most `n`
few_differ : (n : ℕ) (is : List ℕ) → AllDiffer is → All (λ x. x < n) is → length is ≤ n
few_differ n is p h =
    length-le_from_distinct_below is n (IsDistinct-from_apart eqb is (λ i j d l m. ne_eqb _ _ (p i j d l m))) (λ q e.
    let a = Any-from_list_any (eqb q) is e in
    let same = eqb-true q a.1 a.4 in
    let here = a.3 in
    let low = h a.0 a.1 a.2 in
    omega arith)

-- numbers with a property, all different
record HasIds (P : ℕ → Type 0) (count : ℕ) : Type 0 where
  ids : List ℕ
  many : length ids ≡ count
  reached : All P ids
  different : AllDiffer ids

no_ids : (P : ℕ → Type 0) → HasIds P 0
no_ids P = record { ids = []; many = refl; reached = All-nil P; different = λ i j d l m. absurd (omega arith) }

first : (i : ℕ) (is : List ℕ) → Contains (i ∷ is) i
first i is = (0, omega arith, refl)

later : (i : ℕ) (is : List ℕ) (c : ℕ) → Contains is c → Contains (i ∷ is) c
later i is c h = Contains-append_right (i ∷ []) is c h

module _ {H : Type 0} (Answers : ℕ → Node H → Type 0) where
  -- ---- one reached from another

  abbrev From : ℕ → ℕ → Type 0
  From id x = NodeIsReached Answers id x

  abbrev FromSome : List ℕ → ℕ → Type 0
  FromSome is x = (child : ℕ) × Contains is child × From child x

  beyond : (i a x : ℕ) → From i a → From a x → From i x
  beyond i a x r the_root = r
  beyond i a x r (a_child parent child n s answer is) = a_child parent x n (beyond i a parent r s) answer is

  -- What is reached is where one is, or a child of what is reached.
  record IsChildFrom (i x : ℕ) : Type 0 where
    parent : ℕ
    own : Node H
    reached : From i parent
    answer : Answers parent own
    is : Contains own.children x

  last_step : (i x : ℕ) → From i x → (i ≡ x) ⊎ IsChildFrom i x
  last_step i x the_root = inl refl
  last_step i x (a_child parent child n r answer is) = inr (record { parent = parent; own = n; reached = r; answer = answer; is = is })

  module _ (root : ℕ) (once : IsReachedOnce Answers root) where
    below_from : (i x : ℕ) → From root i → From i x → x ≤ i
    below_from i x at the_root = omega arith
    below_from i x at (a_child parent child n r answer is) =
        let high = below_from i parent at r in
        let low : x < parent = All-contains (λ c. c < parent) n.children x (once.below parent n (beyond root i parent at r) answer) is in
        omega arith

    -- of two from which a third is reached, one is reached from the other
    chain : (i j x : ℕ) → From root i → From root j → From i x → From j x → From i j ⊎ From j i
    chain i j x at_i at_j the_root q = inr q
    chain i j x at_i at_j (a_child a child n r answer is) q = elim (last_step j x q) [
      | inl e ↦ inl (subst (λ y. From i y) (sym e) (a_child a x n r answer is))
      | inr s ↦
          let same : s.parent ≡ a =
          once.one_parent s.parent a x s.own n (beyond root j s.parent at_j s.reached) (beyond root i a at_i r) s.answer answer s.is is in
          chain i j a at_i at_j r (subst (λ y. From j y) same s.reached)
    ]

    -- ---- a node that is answered for a reached id, and its children
    module _ (m : ℕ) (n : Node H) (at : From root m) (answer : Answers m n) where
      child_from : (i : ℕ) → Contains n.children i → From root i
      child_from i has_i = a_child m i n at answer has_i

      child_below : (i : ℕ) → Contains n.children i → i < m
      child_below i has_i = All-contains (λ c. c < m) n.children i (once.below m n at answer) has_i

      -- a child is not reached from another
      no_sibling : (i j : ℕ) → Contains n.children i → Contains n.children j → i ≢ j → From i j → ⊥
      no_sibling i j has_i has_j other r = elim (last_step i j r) [
        | inl e ↦ other e
        | inr s ↦
            let at_i = child_from i has_i in
            let same : s.parent ≡ m =
            once.one_parent s.parent m j s.own n (beyond root i s.parent at_i s.reached) at s.answer answer s.is has_j in
            let high = below_from i s.parent at_i s.reached in
            let low = child_below i has_i in
            absurd (omega arith)
      ]

      -- what is reached from two children differs
      apart : (i j x : ℕ) → Contains n.children i → Contains n.children j → i ≢ j → From i x → From j x → ⊥
      apart i j x has_i has_j other p q = elim (chain i j x (child_from i has_i) (child_from j has_j) p q) [
        | inl r ↦ no_sibling i j has_i has_j other r
        | inr r ↦ no_sibling j i has_j has_i (λ e. other (sym e)) r
      ]

      -- the id itself is above those of its children
      own_more : (count : ℕ) → HasIds (FromSome n.children) count → HasIds (From m) (suc count)
      own_more count s =
          let many = s.many in
          let under : (y : ℕ) → FromSome n.children y → From m y = λ y f. beyond m f.0 y (a_child m f.0 n the_root answer f.1) f.2 in
          let lower : (y : ℕ) → FromSome n.children y → y ≢ m = λ y f e.
          let low = below_from f.0 y (child_from f.0 f.1) f.2 in let less = child_below f.0 f.1 in omega arith in
          record {
            ids = s.ids ++ m ∷ [];
            many = omega (arith, length-append s.ids (m ∷ []));
            reached = All-push (From m) s.ids m (All-weaker (FromSome n.children) (From m) under s.ids s.reached) the_root;
            different = all_pairs_push (λ a b. a ≢ b) s.ids m s.different (All-weaker (FromSome n.children) (λ y. y ≢ m) lower s.ids s.reached);
          }

      -- a child's ids before those of the later children
      with_later : (i : ℕ) (is : List ℕ) (one more : ℕ) → Contains n.children i → ((c : ℕ) → Contains is c → Contains n.children c) →
          All (λ j. i ≢ j) is → HasIds (From i) one → HasIds (FromSome is) more → HasIds (FromSome (i ∷ is)) (one + more)
      with_later i is one more has_i have others s u =
          let few = s.many in
          let rest = u.many in
          let apart_from : (x : ℕ) → From i x → All (λ y. x ≢ y) u.ids = λ x p. All-weaker (FromSome is) (λ y. x ≢ y) (λ y f e.
          apart i f.0 y has_i (have f.0 f.1) (All-contains (λ j. i ≢ j) is f.0 others f.1) (subst (λ z. From i z) e p) f.2) u.ids u.reached in
          record {
            ids = s.ids ++ u.ids;
            many = omega (arith, length-append s.ids u.ids);
            reached = All-append (FromSome (i ∷ is)) s.ids u.ids (All-weaker (From i) (FromSome (i ∷ is)) (λ x p. (i, first i is, p)) s.ids s.reached)
                (All-weaker (FromSome is) (FromSome (i ∷ is)) (λ x f. (f.0, later i is f.0 f.1, f.2)) u.ids u.reached);
            different =
                differ_append s.ids u.ids s.different u.different (All-weaker (From i) (λ x. All (λ y. x ≢ y) u.ids) apart_from s.ids s.reached);
          }

    -- ---- the ids of a part

    mutual
      ids_of : (id : ℕ) (t : Term H) → From root id → IsPart Answers id t → HasIds (From id) (node_count_of t)
      ids_of id absent at p = no_ids (From id)
      ids_of id (node h kids) at p =
          let n : Node H = record { head = h; children = p.0 } in
          own_more id n at p.1 (node_count kids) (ids_of_all id n p.0 kids at p.1 (λ c is. is) (once.different id n at p.1) p.2)

      ids_of_all : (m : ℕ) (n : Node H) (is : List ℕ) (ts : Terms H) → From root m → Answers m n →
          ((c : ℕ) → Contains is c → Contains n.children c) → AllDiffer is → AreParts Answers is ts → HasIds (FromSome is) (node_count ts)
      ids_of_all m n [] no_terms at answer have pairs p = no_ids (FromSome [])
      ids_of_all m n [] (t ▸ ts) at answer have pairs p = absurd p
      ids_of_all m n (i ∷ is) no_terms at answer have pairs p = absurd p
      ids_of_all m n (i ∷ is) (t ▸ ts) at answer have pairs p =
          let has_i : Contains n.children i = have i (first i is) in
          let have_later : (c : ℕ) → Contains is c → Contains n.children c = λ c h. have c (later i is c h) in
          with_later m n at answer i is (node_count_of t) (node_count ts) has_i have_later (λ k d l. pairs 0 (suc k) d (omega arith) (omega arith))
          (ids_of i t (a_child m i n at answer has_i) p.0)
          (ids_of_all m n is ts at answer have_later (λ j k d l m. pairs (suc j) (suc k) d (omega arith) (omega arith)) p.1)

    -- ids that are reached are few
    few_nodes : (t : Term H) → IsPart Answers root t → node_count_of t ≤ root + 1
    few_nodes t p =
        let s = ids_of root t the_root p in
        let low : (x : ℕ) → From root x → x < root + 1 = λ x r. let l = below_from root x the_root r in omega arith in
        let few = few_differ (root + 1) s.ids s.different (All-weaker (From root) (λ x. x < root + 1) low s.ids s.reached) in
        let many = s.many in
        omega arith

    pub not_too_long : root < 2 ^ 32 → TreeIsTooLong Answers root → ⊥
    not_too_long l h = let few = few_nodes h.0 h.1 in let many = h.2 in omega arith
