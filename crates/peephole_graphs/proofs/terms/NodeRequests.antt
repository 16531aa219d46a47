-- Nodes that are asked for: what was asked already, and what is still to be asked, make parts of the tree.
use denote.Ref.{Bor}
use Rattle.std.proofs.Common.{◌≡◌, ℕ, ◌^◌, ◌≤◌, List, [], ◌∷◌, ◌++◌, length, refl, sym, ap, subst, ◌∙◌, arith, append_assoc, length-append, map, Some}
use Rattle.std.specs.Prelude.{reverse}
use Rattle.std.specs.List.{All, Contains}
use Rattle.std.proofs.lemmas.Grind.{common_steps}
use Rattle.std.proofs.lemmas.List.{append-nil, reverse-append, map-append, length-reverse, length-map}
use Rattle.std.proofs.lemmas.List.Elements.{All-nil, All-cons, All-append, All-pop, All-weaker, All-contains_itself}
use Rattle.peephole_nodes.specs.declared.id.Id.{Id}
use Rattle.peephole_lang.specs.Term.{Term, Terms, absent, node, no_terms, ◌▸◌, Node, numbers_of}
use Rattle.peephole_graphs.specs.Layout.{node_count_of, node_count, IsWhole, AreWhole}
use Rattle.peephole_graphs.specs.Rebuild.{CanAnswer, NodeIsReached, IsPart, AreParts, IsRebuiltTree, TreeIsTooLong, Piece, child_count}
use Rattle.peephole_graphs.specs.Rebuild.{in_postfix, all_in_postfix, AreNodesOfTree}
use Rattle.peephole_graphs.specs.Rebuild.{piece_by}
use Rattle.peephole_graphs.specs.Rebuild.NodeIsReached.{the_root, a_child}

-- ---- terms one after another

abbrev join : {H : Type 0} → Terms H → Terms H → Terms H
join no_terms ts = ts
join (t ▸ ts) us = t ▸ join ts us

abbrev absents : {H : Type 0} → List ℕ → Terms H
absents [] = no_terms
absents (i ∷ is) = absent ▸ absents is

postfix_join : {H : Type 0} (ts us : Terms H) → all_in_postfix (join ts us) ≡ all_in_postfix ts ++ all_in_postfix us
postfix_join no_terms us = refl
postfix_join (t ▸ ts) us = rw (postfix_join ts us, append_assoc)

whole_join : {H : Type 0} (ts us : Terms H) → AreWhole ts → AreWhole us → AreWhole (join ts us)
whole_join no_terms us w v = v
whole_join (t ▸ ts) us w v = (w.0, whole_join ts us w.1 v)

whole_parts : {H : Type 0} (ts us : Terms H) → AreWhole (join ts us) → AreWhole ts × AreWhole us
whole_parts no_terms us w = (tt, w)
whole_parts (t ▸ ts) us w = let more = whole_parts ts us w.1 in ((w.0, more.0), more.1)

mutual
  length_postfix : {H : Type 0} (t : Term H) → length (in_postfix t) ≡ node_count_of t
  length_postfix absent = refl
  length_postfix (node h kids) =
      let e = length_all_postfix kids in
      omega (arith, e, length-append (all_in_postfix kids) (record { head = h; count = child_count kids } ∷ []))

  length_all_postfix : {H : Type 0} (ts : Terms H) → length (all_in_postfix ts) ≡ node_count ts
  length_all_postfix no_terms = refl
  length_all_postfix (t ▸ ts) =
      let e = length_postfix t in
      let f = length_all_postfix ts in
      omega (arith, e, f, length-append (in_postfix t) (all_in_postfix ts))

-- ---- parts of trees of ids

module _ {H : Type 0} (Answers : ℕ → Node H → Type 0) where
  parts_count : (is : List ℕ) (ts : Terms H) → AreParts Answers is ts → child_count ts ≡ length is
  parts_count [] no_terms p = refl
  parts_count [] (t ▸ ts) p = absurd p
  parts_count (i ∷ is) no_terms p = absurd p
  parts_count (i ∷ is) (t ▸ ts) p = let e = parts_count is ts p.1 in omega arith

  absent_parts : (is : List ℕ) → AreParts Answers is (absents is)
  absent_parts [] = tt
  absent_parts (i ∷ is) = (tt, absent_parts is)

  parts_join : (is js : List ℕ) (ts us : Terms H) → AreParts Answers is ts → AreParts Answers js us → AreParts Answers (is ++ js) (join ts us)
  parts_join [] js no_terms us p q = q
  parts_join [] js (t ▸ ts) us p q = absurd p
  parts_join (i ∷ is) js no_terms us p q = absurd p
  parts_join (i ∷ is) js (t ▸ ts) us p q = (p.0, parts_join is js ts us p.1 q)

  -- the terms of some ids, and those of more ids behind them
  split : (is js : List ℕ) (ts : Terms H) → AreParts Answers (is ++ js) ts →
      (us vs : Terms H) × AreParts Answers is us × AreParts Answers js vs × (join us vs ≡ ts)
  split [] js ts p = (no_terms, ts, tt, p, refl)
  split (i ∷ is) js no_terms p = absurd p
  split (i ∷ is) js (t ▸ ts) p =
      let (us, vs, a, b, e) = split is js ts p.1 in (t ▸ us, vs, (p.0, a), b, ap (λ x. t ▸ x) e)

  -- What was asked, and trees of the ids that are left, are a tree of the root; the ids are reached.
  pub record HasRequests (root : ℕ) (ids : List ℕ) (asked : List (Piece H)) : Type 0 where
    pub reached : All (NodeIsReached Answers root) ids
    pub grows : (ts : Terms H) → AreParts Answers ids ts →
        (t : Term H) × IsPart Answers root t × (AreWhole ts → IsWhole t) × (in_postfix t ≡ all_in_postfix ts ++ asked)

  start : (root : ℕ) → HasRequests root (root ∷ []) []
  start root = record { reached = All-cons (NodeIsReached Answers root) root [] the_root (All-nil (NodeIsReached Answers root)); grows = first }
    where
      first : (ts : Terms H) → AreParts Answers (root ∷ []) ts →
          (t : Term H) × IsPart Answers root t × (AreWhole ts → IsWhole t) × (in_postfix t ≡ all_in_postfix ts ++ [])
      first no_terms p = absurd p
      first (t ▸ no_terms) p = (t, p.0, λ w. w.0, sym (append-nil (in_postfix t ++ []) ∙ append-nil (in_postfix t)))
      first (t ▸ (u ▸ ts)) p = absurd p.1

  children_reached : (root id : ℕ) (n : Node H) → NodeIsReached Answers root id → Answers id n → All (NodeIsReached Answers root) n.children
  children_reached root id n r a =
      All-weaker (Contains n.children) (NodeIsReached Answers root) (λ child c. a_child id child n r a c) n.children (All-contains_itself n.children)

  abbrev own_piece : Node H → Piece H
  own_piece n = record { head = n.head; count = length n.children }

  -- a tree of the id that was taken, over trees of its children
  over_id : (rest : List ℕ) (id : ℕ) (n : Node H) (us kids : Terms H) → Answers id n → AreParts Answers rest us → AreParts Answers n.children kids →
      AreParts Answers (rest ++ id ∷ []) (join us (node n.head kids ▸ no_terms))
  over_id rest id n us kids a p q = parts_join rest (id ∷ []) us (node n.head kids ▸ no_terms) p ((n.children, a, q), tt)

  own_first : (us kids : Terms H) (n : Node H) (asked : List (Piece H)) → child_count kids ≡ length n.children →
      all_in_postfix (join us (node n.head kids ▸ no_terms)) ++ asked ≡ all_in_postfix (join us kids) ++ own_piece n ∷ asked
  own_first us kids n asked e =
      rw (postfix_join us (node n.head kids ▸ no_terms), postfix_join us kids, e) (moved (all_in_postfix us) (all_in_postfix kids) (own_piece n) asked)
    where
      moved : {A : Type 0} (xs ys : List A) (p : A) (zs : List A) → (xs ++ ((ys ++ p ∷ []) ++ [])) ++ zs ≡ (xs ++ ys) ++ p ∷ zs
      moved xs ys p zs = grind (arith, common_steps)

  -- a node was asked for, and its children are left in its place
  step : (root : ℕ) (rest : List ℕ) (id : ℕ) (n : Node H) (asked : List (Piece H)) → Answers id n → HasRequests root (rest ++ id ∷ []) asked →
      HasRequests root (rest ++ n.children) (own_piece n ∷ asked)
  step root rest id n asked a h =
      let reached = All-pop (NodeIsReached Answers root) (rest ++ id ∷ []) rest (Some id) refl h.reached in
      record {
        reached = All-append (NodeIsReached Answers root) rest n.children reached.0 (children_reached root id n reached.1 a);
        grows = λ ts p.
            let (us, kids, of_front, of_back, joined) = split rest n.children ts p in
            let of = h.grows (join us (node n.head kids ▸ no_terms)) (over_id rest id n us kids a of_front of_back) in (
              of.0,
              of.1,
              λ w. let both = whole_parts us kids (subst (λ x. AreWhole x) (sym joined) w) in
                  of.2 (whole_join us (node n.head kids ▸ no_terms) both.0 (both.1, tt)),
              of.3 ∙ (own_first us kids n asked (parts_count n.children kids of_back) ∙ ap (λ x. all_in_postfix x ++ own_piece n ∷ asked) joined),
            );
      }

  -- none is left
  end : (root : ℕ) (asked : List (Piece H)) → HasRequests root [] asked → (t : Term H) × IsRebuiltTree Answers root t × (asked ≡ in_postfix t)
  end root asked h = let of = h.grows no_terms tt in (of.0, (of.1, of.2 tt), sym of.3)

  -- with the node that was asked for last there are too many
  long : (root : ℕ) (rest : List ℕ) (id : ℕ) (n : Node H) (asked : List (Piece H)) → Answers id n → 2 ^ 32 ≤ length asked →
      HasRequests root (rest ++ id ∷ []) asked → TreeIsTooLong Answers root
  long root rest id n asked a l h =
      let us = absents rest in
      let kids = absents n.children in
      let of = h.grows (join us (node n.head kids ▸ no_terms))
      (over_id rest id n us kids a (absent_parts rest) (absent_parts n.children)) in
      let same = of.3 ∙ own_first us kids n asked (parts_count n.children kids (absent_parts n.children)) in
      let many : length (in_postfix of.0) ≡ length (all_in_postfix (join us kids) ++ own_piece n ∷ asked) = ap (λ x. length x) same in
      (of.0, of.1, omega (arith, many, length_postfix of.0, length-append (all_in_postfix (join us kids)) (own_piece n ∷ asked)))

-- ---- by the lists of the code

abbrev pub pieces_of : {L H : Type 0} → (L → H) → (L → List ℕ) → List (Bor L) → List (Piece H)
pieces_of {L} head children nodes = reverse (map (λ (n : Bor L). piece_by head children n.now) nodes)

pub length_pieces : {L H : Type 0} (head : L → H) (children : L → List ℕ) (nodes : List (Bor L)) → length (pieces_of head children nodes) ≡ length nodes
length_pieces {L} head children nodes =
    length-reverse (map (λ (n : Bor L). piece_by head children n.now) nodes) ∙ length-map nodes (λ (n : Bor L). piece_by head children n.now)

pub one_more : {L H : Type 0} (head : L → H) (children : L → List ℕ) (nodes : List (Bor L)) (n : Bor L) →
    pieces_of head children (nodes ++ n ∷ []) ≡ piece_by head children n.now ∷ pieces_of head children nodes
one_more {L} head children nodes n =
    let own : Bor L → Piece _ = λ x. piece_by head children x.now in
    ap (λ x. reverse x) (map-append own nodes (n ∷ [])) ∙ reverse-append (map own nodes) (own n ∷ [])

numbers_append : (xs ys : List Id) → numbers_of (xs ++ ys) ≡ numbers_of xs ++ numbers_of ys
numbers_append xs ys = map-append (λ (id : Id). id.0) xs ys

module _ {L H : Type 0} (head : L → H) (children : L → List ℕ) (post : Id → Bor L → Type 0) where
  abbrev Requests : ℕ → List Id → List (Bor L) → Type 0
  Requests root ids nodes = HasRequests (CanAnswer head children post) root (numbers_of ids) (pieces_of head children nodes)

  abbrev own : Bor L → Node H
  own n = record { head = head n.now; children = children n.now }

  pub requests_start : (root : Id) (ids : List Id) (nodes : List (Bor L)) → ids ≡ root ∷ [] → nodes ≡ [] → Requests root.0 ids nodes
  requests_start root ids nodes e n = rw (e, n) (start (CanAnswer head children post) root.0)

  pub requests_go_on : (root id : Id) (ids rest ids' kids : List Id) (nodes nodes' : List (Bor L)) (n : Bor L) →
      ids ≡ rest ++ id ∷ [] → post id n → nodes' ≡ nodes ++ n ∷ [] → ids' ≡ rest ++ kids → numbers_of kids ≡ children n.now →
      Requests root.0 ids nodes → Requests root.0 ids' nodes'
  requests_go_on root id ids rest ids' kids nodes nodes' n top a more left are h =
      let before = rw (top, numbers_append rest (id ∷ [])) at h in
      rw (left, numbers_append rest kids, are, more, one_more head children nodes n)
      (step (CanAnswer head children post) root.0 (numbers_of rest) id.0 (own n) (pieces_of head children nodes) (n, a, refl) before)

  pub requests_end : (root count : ℕ) (ids : List Id) (nodes : List (Bor L)) → count ≡ length ids → count ≡ 0 → Requests root ids nodes →
      (t : Term H) × IsRebuiltTree (CanAnswer head children post) root t × AreNodesOfTree head children nodes t
  requests_end root count [] nodes e z h = end (CanAnswer head children post) root (pieces_of head children nodes) h
  requests_end root count (id ∷ ids) nodes e z h = absurd (omega arith)

  pub requests_too_long : (root id : Id) (ids rest : List Id) (nodes : List (Bor L)) (n : Bor L) → ids ≡ rest ++ id ∷ [] → post id n →
      2 ^ 32 ≤ length nodes → Requests root.0 ids nodes → TreeIsTooLong (CanAnswer head children post) root.0
  requests_too_long root id ids rest nodes n top a l h =
      let many = length_pieces head children nodes in
      let before = rw (top, numbers_append rest (id ∷ [])) at h in
      long (CanAnswer head children post) root.0 (numbers_of rest) id.0 (own n) (pieces_of head children nodes) (n, a, refl) (omega arith) before
