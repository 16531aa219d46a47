-- A tree is laid out by one piece a node, in postfix; what a walk has left is what is left of the pieces.
use Rattle.std.proofs.Common.{◌≡◌, ℕ, suc, ◌+◌, ◌-◌, ◌<◌, ◌≤◌, inl, inr, List, [], ◌∷◌, ◌++◌, length, get_or, take, drop}
use Rattle.std.proofs.Common.{refl, sym, ap, ap₂, subst, ◌∙◌, arith, append_assoc, length-append, map, Option, Some, None}
use Rattle.std.specs.Prelude.{reverse, All, nat_le, ◌==◌, if◌then◌else◌}
use Rattle.std.specs.List.{flat_map}
use Rattle.std.proofs.lemmas.Bool.{cond-true, cond-false, eq-eqb, ne_eqb}
use Rattle.std.proofs.lemmas.Grind.{common_steps}
use Rattle.std.proofs.lemmas.List.{get_or_append_left, get_or_push, append-nil}
use Rattle.std.proofs.lemmas.List.{length-reverse, length-map, reverse-append, reverse-reverse, get_or-map}
use Rattle.std.proofs.lemmas.List.Elements.{All-nil, All-head, All-tail, All-weaker, All-push, All-take}
use Rattle.peephole_nodes.specs.declared.id.Id.{Id}
use Rattle.peephole_lang.specs.laws.PlaceLemmas.{IsAt, last_or_before}
use Rattle.peephole_lang.specs.laws.PlaceLemmas as place
use Rattle.peephole_lang.specs.laws.PlaceLemmas.IsAt.{last, before}
use Rattle.peephole_lang.specs.Term.{Term, Terms, absent, node, no_terms, ◌▸◌, Node, AreBelow, pick, tree_at, numbers_of}
use Rattle.peephole_graphs.specs.Layout.{held_nodes, node_count_of, node_count, root_indexes, layout_from, layouts_from, IsWhole, AreWhole}
use Rattle.peephole_graphs.specs.Rebuild.{Piece, child_count, in_postfix, all_in_postfix}
use Rattle.peephole_graphs.specs.declared.postfix.Turn.{Turn}
use Rattle.peephole_graphs.specs.declared.postfix.Turn.TheVariants.{Child, Own}
use Rattle.peephole_graphs.specs.Postfix.{turns_of}
use Rattle.peephole_graphs.specs.PostfixLemmas.{left, IsTreeOf, turns_left, entered, child_comes, own_comes, AllOn, child_on, own_on, entered_on}
use Rattle.peephole_graphs.proofs.LayoutLemmas.{length_laid, length_all}

-- ---- the items that hold nodes, and what is left of a walk

pub length-held : {A H : Type 0} (held : A → Node H) (items : List A) → length (held_nodes held items) ≡ length items
length-held held items = length-reverse (map held items) ∙ length-map items held

-- the last of the finished ones, as many as there are ids, and those before them
abbrev pub last_ones : List Id → List Id → List ℕ
last_ones ids finished = drop (length finished - length ids) (numbers_of finished)

abbrev pub first_ones : List Id → List Id → List ℕ
first_ones ids finished = take (length finished - length ids) (numbers_of finished)

-- ---- steps

drop_front : (d p : List ℕ) (n : ℕ) → n ≡ length d → drop n (d ++ p) ≡ p
drop_front d p n e = grind (arith, common_steps)

take_front : (d p : List ℕ) (n : ℕ) → n ≡ length d → take n (d ++ p) ≡ d
take_front d p n e = grind (arith, common_steps)

-- The nodes laid out, and the indexes of the finished ones that are no children yet.
pub record LayoutState (H : Type 0) : Type 0 where
  pub nodes : List (Node H)
  pub done : List ℕ

module _ {H : Type 0} where
  abbrev piece : H → ℕ → Piece H
  piece h n = record { head = h; count = n }

  abbrev own_of : Node H → Piece H
  own_of n = piece n.head (length n.children)

  abbrev pub layout_state : List (Node H) → List ℕ → LayoutState H
  layout_state nodes done = record { nodes = nodes; done = done }

  abbrev pub put : Piece H → LayoutState H → LayoutState H
  put s w = record {
    nodes = w.nodes ++ record { head = s.head; children = drop (length w.done - s.count) w.done } ∷ [];
    done = take (length w.done - s.count) w.done ++ length w.nodes ∷ [];
  }

  abbrev some_state : LayoutState H → Option (LayoutState H)
  some_state w = Some w

  abbrev make : Piece H → LayoutState H → Option (LayoutState H)
  make s w = if nat_le s.count (length w.done) then some_state (put s w) else None

  abbrev after : Option (LayoutState H) → (LayoutState H → Option (LayoutState H)) → Option (LayoutState H)
  after None go = None
  after (Some w) go = go w

  abbrev pub make_all : List (Piece H) → LayoutState H → Option (LayoutState H)
  make_all [] w = Some w
  make_all (s ∷ ss) w = after (make s w) (make_all ss)

  make_all-append : (xs ys : List (Piece H)) (w : LayoutState H) → make_all (xs ++ ys) w ≡ after (make_all xs w) (make_all ys)
  make_all-append [] ys w = refl
  make_all-append (x ∷ xs) ys w =
      elim (make x w) as (λ r. after r (make_all (xs ++ ys)) ≡ after (after r (make_all xs)) (make_all ys)) [
        | None ↦ refl
        | Some v ↦ make_all-append xs ys v
      ]

  length_root_indexes : (first : ℕ) (ts : Terms H) → length (root_indexes first ts) ≡ child_count ts
  length_root_indexes first no_terms = refl
  length_root_indexes first (t ▸ ts) = ap (λ n. suc n) (length_root_indexes (first + node_count_of t) ts)

  make_is : (s : Piece H) (w : LayoutState H) → s.count ≤ length w.done → make s w ≡ Some (put s w)
  make_is s w l = cond-true (nat_le s.count (length w.done)) (some_state (put s w)) None (grind arith)

  make_taken : (s : Piece H) (ns : List (Node H)) (d p : List ℕ) (at : ℕ) → length p ≡ s.count → length ns ≡ at →
      make s (layout_state ns (d ++ p)) ≡ Some (layout_state (ns ++ record { head = s.head; children = p } ∷ []) (d ++ at ∷ []))
  make_taken s ns d p at l n =
      let k = length (d ++ p) - s.count in
      let m : k ≡ length d = omega (arith, length-append d p) in
      make_is s (layout_state ns (d ++ p)) (omega (arith, length-append d p))
      ∙ ap₂ (λ (x y : List ℕ). some_state (layout_state (ns ++ record { head = s.head; children = x } ∷ []) y))
      (drop_front d p k m) (ap₂ (λ (x : List ℕ) (y : ℕ). x ++ y ∷ []) (take_front d p k m) n)

  mutual
    -- a term's steps lay it out and finish it
    laid_steps : (t : Term H) (ns : List (Node H)) (d : List ℕ) (first : ℕ) → length ns ≡ first → IsWhole t →
        make_all (in_postfix t) (layout_state ns d) ≡ Some (layout_state (ns ++ layout_from first t) (d ++ (first + node_count_of t - 1) ∷ []))
    laid_steps absent ns d first l w = absurd w
    laid_steps (node h kids) ns d first l w =
        let own = piece h (child_count kids) in
        let at = first + suc (node_count kids) - 1 in
        let earlier = layouts_from first kids in
        let n : length (ns ++ earlier) ≡ at = omega (arith, length-append ns earlier, length_all first kids) in
        make_all-append (all_in_postfix kids) (own ∷ []) (layout_state ns d)
        ∙ (ap (λ (r : Option (LayoutState H)). after r (make_all (own ∷ []))) (all_steps kids ns d first l w)
        ∙ (ap (λ (r : Option (LayoutState H)). after r some_state)
        (make_taken own (ns ++ earlier) d (root_indexes first kids) at (length_root_indexes first kids) n)
        ∙ ap (λ (x : List (Node H)). some_state (layout_state x (d ++ at ∷ []))) (append_assoc ns earlier _)))

    all_steps : (ts : Terms H) (ns : List (Node H)) (d : List ℕ) (first : ℕ) → length ns ≡ first → AreWhole ts →
        make_all (all_in_postfix ts) (layout_state ns d) ≡ Some (layout_state (ns ++ layouts_from first ts) (d ++ root_indexes first ts))
    all_steps no_terms ns d first l w =
        ap₂ (λ (x : List (Node H)) (y : List ℕ). some_state (layout_state x y)) (sym (append-nil ns)) (sym (append-nil d))
    all_steps (t ▸ ts) ns d first l w =
        let next = first + node_count_of t in
        let n : length (ns ++ layout_from first t) ≡ next = omega (arith, length-append ns (layout_from first t), length_laid first t) in
        make_all-append (in_postfix t) (all_in_postfix ts) (layout_state ns d)
        ∙ (ap (λ (r : Option (LayoutState H)). after r (make_all (all_in_postfix ts))) (laid_steps t ns d first l w.0)
        ∙ (all_steps ts (ns ++ layout_from first t) (d ++ (next - 1) ∷ []) next n w.1
        ∙ ap₂ (λ (x : List (Node H)) (y : List ℕ). some_state (layout_state x y)) (append_assoc ns (layout_from first t) (layouts_from next ts))
        (append_assoc d ((next - 1) ∷ []) (root_indexes next ts))))

  -- a step that is made found its children
  found_children : (s : Piece H) (ss : List (Piece H)) (w v : LayoutState H) → make_all (s ∷ ss) w ≡ Some v → s.count ≤ length w.done
  found_children s ss w v e = grind arith

  -- and leaves the rest
  made_rest : (s : Piece H) (ss : List (Piece H)) (w v : LayoutState H) → make_all (s ∷ ss) w ≡ Some v → make_all ss (put s w) ≡ Some v
  made_rest s ss w v e = sym (ap (λ (r : Option (LayoutState H)). after r (make_all ss)) (make_is s w (found_children s ss w v e))) ∙ e

  same_state : (w v : LayoutState H) → some_state w ≡ Some v → w.nodes ≡ v.nodes
  same_state w v e = cc

  -- a step a node
  made_count : (ss : List (Piece H)) (w v : LayoutState H) → make_all ss w ≡ Some v → length v.nodes ≡ length w.nodes + length ss
  made_count [] w v e = let n = ap length (same_state w v e) in omega arith
  made_count (s ∷ ss) w v e =
      let more = made_count ss (put s w) v (made_rest s ss w v e) in
      omega (arith, more, length-append w.nodes (record { head = s.head; children = drop (length w.done - s.count) w.done } ∷ []))

  -- the finished indexes stay below the nodes laid out
  put_below : (s : Piece H) (w : LayoutState H) → All (λ (k : ℕ). k < length w.nodes) w.done →
      All (λ (k : ℕ). k < length (put s w).nodes) (put s w).done
  put_below s w below =
      let P : ℕ → Type 0 = λ k. k < length w.nodes in
      let Q : ℕ → Type 0 = λ k. k < length (put s w).nodes in
      let kept = take (length w.done - s.count) w.done in
      let n = length-append w.nodes (record { head = s.head; children = drop (length w.done - s.count) w.done } ∷ []) in
      All-push Q kept (length w.nodes) (All-weaker P Q (λ k h. omega arith) kept (All-take P (length w.done - s.count) w.done below))
      (omega arith)

  -- the tree, laid out and finished
  abbrev pub whole_of : Term H → LayoutState H
  whole_of t = layout_state (layout_from 0 t) ((0 + node_count_of t - 1) ∷ [])

  -- What is left, made from here, gives the whole; the finished indexes are below the nodes laid out.
  pub record LeadsTo (t : Term H) (pieces : List (Piece H)) (w : LayoutState H) : Type 0 where
    pub same : make_all pieces w ≡ Some (whole_of t)
    pub below : All (λ (k : ℕ). k < length w.nodes) w.done

  pub layout_begins : (t : Term H) → IsWhole t → LeadsTo t (in_postfix t) (layout_state [] [])
  layout_begins t w = record { same = laid_steps t [] [] 0 refl w; below = All-nil (λ (k : ℕ). k < 0) }

  pub layout_step : {t : Term H} {p : Piece H} {pieces : List (Piece H)} {w : LayoutState H} → LeadsTo t (p ∷ pieces) w →
      (p.count ≤ length w.done) × LeadsTo t pieces (put p w)
  layout_step {t} {p} {pieces} {w} h = (
    found_children p pieces w (whole_of t) h.same,
    record { same = made_rest p pieces w (whole_of t) h.same; below = put_below p w h.below },
  )

  pub layout_ends : {t : Term H} {w : LayoutState H} → LeadsTo t [] w → w.nodes ≡ layout_from 0 t
  layout_ends {t} {w} h = same_state w (whole_of t) h.same

  -- the next piece by the ids of the code: a node over the last of the finished ones
  module _ {t : Term H} {n : Node H} {rest : List (Piece H)} {nodes : List (Node H)} (finished ids : List Id)
      (k : n.children ≡ numbers_of ids) (h : LeadsTo t (own_of n ∷ rest) (layout_state nodes (numbers_of finished))) where
    as_many : length n.children ≡ length ids
    as_many = ap (λ (x : List ℕ). length x) k ∙ length-map ids (λ (x : Id). x.0)

    pub enough_finished : length ids ≤ length finished
    enough_finished = let enough = (layout_step h).0 in omega (arith, enough, as_many, length-map finished (λ (x : Id). x.0))

    pub own_added : (nodes' : List (Node H)) (done' : List ℕ) → nodes' ≡ nodes ++ record { head = n.head; children = last_ones ids finished } ∷ [] →
        done' ≡ first_ones ids finished ++ length nodes ∷ [] → LeadsTo t rest (layout_state nodes' done')
    own_added nodes' done' a d =
        let at : length finished - length ids ≡ length (numbers_of finished) - length n.children =
        omega (arith, as_many, length-map finished (λ (x : Id). x.0)) in
        let children_from : ℕ → Node H = λ z. record { head = n.head; children = drop z (numbers_of finished) } in
        subst (λ w. LeadsTo t rest w)
        (sym (ap₂ layout_state a d ∙ ap (λ z. layout_state (nodes ++ children_from z ∷ []) (take z (numbers_of finished) ++ length nodes ∷ [])) at))
        (layout_step h).1

-- Past the last node there is one of the head `missing`.
module _ {H : Type 0} (missing : H) where
  -- ---- the term of a node

  abbrev pub node_at : List (Node H) → ℕ → Node H
  node_at [] i = record { head = missing; children = [] }
  node_at (e ∷ earlier) i = if length earlier == i then e else node_at earlier i

  pub tree_before : (e : Node H) (earlier : List (Node H)) (k : ℕ) → k < length earlier → tree_at (e ∷ earlier) k ≡ tree_at earlier k
  tree_before e earlier k l = cond-false _ _ _ (ne_eqb (length earlier) k (omega arith))

  pub tree_last : (e : Node H) (earlier : List (Node H)) (k : ℕ) → length earlier ≡ k →
      tree_at (e ∷ earlier) k ≡ node e.head (pick (tree_at earlier) e.children)
  tree_last e earlier k l = cond-true _ _ _ (eq-eqb (length earlier) k l)

  pub node_before : (e : Node H) (earlier : List (Node H)) (k : ℕ) → k < length earlier → node_at (e ∷ earlier) k ≡ node_at earlier k
  node_before e earlier k l = cond-false _ _ _ (ne_eqb (length earlier) k (omega arith))

  pub node_last : (e : Node H) (earlier : List (Node H)) (k : ℕ) → length earlier ≡ k → node_at (e ∷ earlier) k ≡ e
  node_last e earlier k l = cond-true _ _ _ (eq-eqb (length earlier) k l)

  own_place : (ns : List (Node H)) (i : ℕ) → i < length ns → IsAt (node_at ns i) ns i
  own_place [] i l = absurd (omega arith)
  own_place (e ∷ earlier) i l = elim (last_or_before (length earlier) i l) [
    | inl h ↦ subst (λ (n : Node H). IsAt n (e ∷ earlier) i) (sym (node_last e earlier i h)) (last h)
    | inr h ↦ subst (λ (n : Node H). IsAt n (e ∷ earlier) i) (sym (node_before e earlier i h)) (before h (own_place earlier i h))
  ]

  -- a node's term is its head over its children's terms
  pub tree_is : (ns : List (Node H)) (i : ℕ) → AreBelow ns → i < length ns →
      tree_at ns i ≡ node (node_at ns i).head (pick (tree_at ns) (node_at ns i).children)
  tree_is ns i b l = place.tree_is (own_place ns i l) b

  -- every node of a term is there
  all_whole : (at : ℕ → Term H) (is : List ℕ) (n : ℕ) → All (λ k. k < n) is → ((k : ℕ) → k < n → IsWhole (at k)) → AreWhole (pick at is)
  all_whole at [] n all w = tt
  all_whole at (i ∷ is) n all w = (w i (All-head (λ k. k < n) i is all), all_whole at is n (All-tail (λ k. k < n) i is all) w)

  whole_at : (ns : List (Node H)) (i : ℕ) → AreBelow ns → i < length ns → IsWhole (tree_at ns i)
  whole_at [] i b l = absurd (omega arith)
  whole_at (e ∷ earlier) i b l = elim (last_or_before (length earlier) i l) [
    | inl h ↦ subst (λ (t : Term H). IsWhole t) (sym (tree_last e earlier i h))
        (all_whole (tree_at earlier) e.children (length earlier) b.0 (λ k l. whole_at earlier k b.1 l))
    | inr h ↦ subst (λ (t : Term H). IsWhole t) (sym (tree_before e earlier i h)) (whole_at earlier i b.1 h)
  ]

  -- ---- what is left

  count_picked : (at : ℕ → Term H) (is : List ℕ) → child_count (pick at is) ≡ length is
  count_picked at [] = refl
  count_picked at (i ∷ is) = ap (λ n. suc n) (count_picked at is)

  module _ (ns : List (Node H)) where
    abbrev Inside : ℕ → Type 0
    Inside i = i < length ns

    abbrev kids_at : ℕ → List ℕ
    kids_at i = (node_at ns i).children

    -- what the tree of an index brings, and what its own node does
    abbrev pub pieces_at : ℕ → List (Piece H)
    pieces_at i = in_postfix (tree_at ns i)

    abbrev pub own_at : ℕ → Piece H
    own_at i = own_of (node_at ns i)

    abbrev pub pieces_left : List Turn → List (Piece H)
    pieces_left turns = left pieces_at own_at turns

    abbrev pub measure : List Turn → ℕ
    measure turns = turns_left pieces_at own_at turns

    all_picked : (is : List ℕ) → all_in_postfix (pick (tree_at ns) is) ≡ flat_map pieces_at is
    all_picked [] = refl
    all_picked (i ∷ is) = ap (λ x. pieces_at i ++ x) (all_picked is)

    is_tree : (i : ℕ) → AreBelow ns → i < length ns → IsTreeOf pieces_at own_at i (kids_at i)
    is_tree i b l =
        ap in_postfix (tree_is ns i b l)
        ∙ ap₂ (λ x n. x ++ piece (node_at ns i).head n ∷ []) (all_picked (kids_at i)) (count_picked (tree_at ns) (kids_at i))

    kids_inside : (i : ℕ) → AreBelow ns → i < length ns → All Inside (kids_at i)
    kids_inside i b l = All-weaker (λ k. k < i) Inside (λ k h. omega arith) (kids_at i) (place.children_in (own_place ns i l) b)

    -- ---- the invariant

    -- What is left of the tree at `root` is left of its pieces, and the nodes of the turns are there.
    pub record IsWalk (root : ℕ) (turns : List Turn) (w : LayoutState H) : Type 0 where
      pub made : LeadsTo (tree_at ns root) (pieces_left turns) w
      pub inside : AllOn Inside turns

    walk_start : (root : ℕ) → AreBelow ns → root < length ns → IsWalk root (turns_of root (kids_at root) ++ []) (layout_state [] [])
    walk_start root b l =
        let t = tree_at ns root in
        let all = entered pieces_at own_at root (kids_at root) [] (is_tree root b l) ∙ append-nil (pieces_at root) in
        record {
          made = subst (λ x. LeadsTo t x (layout_state [] [])) (sym all) (layout_begins t (whole_at ns root b l));
          inside = entered_on Inside root (kids_at root) [] l (kids_inside root b l) (All-nil Inside);
        }

    walk_down : {root i : ℕ} {w : LayoutState H} {old new later : List Turn} → AreBelow ns → old ≡ Child i ∷ new →
        later ≡ turns_of i (kids_at i) ++ new → IsWalk root old w → IsWalk root later w × (measure later < measure old)
    walk_down {root} {i} {w} {old} {new} {later} b g e h =
        let on = child_on Inside g h.inside in
        let comes = child_comes pieces_at own_at (kids_at i) g e (is_tree i b on.0) in (
          record {
            made = subst (λ x. LeadsTo (tree_at ns root) x w) (sym comes.0) h.made;
            inside = subst (AllOn Inside) (sym e) (entered_on Inside i (kids_at i) new on.0 (kids_inside i b on.0) on.1);
          },
          comes.1,
        )

    -- the node that comes is the next piece
    next_piece : {root i : ℕ} {w : LayoutState H} {old new : List Turn} → old ≡ Own i ∷ new → IsWalk root old w →
        LeadsTo (tree_at ns root) (own_at i ∷ pieces_left new) w
    next_piece {root} {i} {w} g h = subst (λ x. LeadsTo (tree_at ns root) x w) (own_comes pieces_at own_at g).0 h.made

  -- ---- the nodes by what the code looks up

  pub node_at-reverse : (ns : List (Node H)) (i : ℕ) (d : Node H) → i < length ns → node_at ns i ≡ get_or (reverse ns) i d
  node_at-reverse [] i d l = absurd (omega arith)
  node_at-reverse (e ∷ earlier) i d l =
      let front = reverse earlier in
      let n : length front ≡ length earlier = length-reverse earlier in
      (elim (last_or_before (length earlier) i l) [
        | inl h ↦ node_last e earlier i h ∙ sym (get_or_push front e d i (omega arith))
        | inr h ↦ node_before e earlier i h ∙ (node_at-reverse earlier i d h ∙ sym (get_or_append_left front (e ∷ []) d i (omega arith)))
      ]) ∙ ap (λ x. get_or x i d) (sym (reverse-append (e ∷ []) earlier))

  module _ {A : Type 0} (held : A → Node H) where
    abbrev nodes_in : List A → List (Node H)
    nodes_in items = held_nodes held items

    pub node_at_is : (items : List A) (i : ℕ) (x : A) → i < length items → x ≡ get_or items i x → node_at (nodes_in items) i ≡ held x
    node_at_is items i x h is =
        let n = length-held held items in
        node_at-reverse (nodes_in items) i (held x) (omega arith)
        ∙ (ap (λ (y : List (Node H)). get_or y i (held x)) (reverse-reverse (map held items)) ∙
        (get_or-map held items i x (held x) h ∙ ap held (sym is)))

    kids_are : (items : List A) (i : ℕ) (x : A) → i < length items → x ≡ get_or items i x → kids_at (nodes_in items) i ≡ (held x).children
    kids_are items i x l is = ap (λ (n : Node H). n.children) (node_at_is items i x l is)

    -- the root that is entered
    pub start : (items : List A) (root : ℕ) (turns : List Turn) (w : LayoutState H) (x : A) → AreBelow (nodes_in items) → root < length items →
        x ≡ get_or items root x → turns ≡ turns_of root (held x).children ++ [] → w ≡ layout_state [] [] → IsWalk (nodes_in items) root turns w
    start items root turns w x b l is e v =
        let ns = nodes_in items in
        let n = length-held held items in
        let to = ap (λ k. turns_of root k ++ []) (kids_are items root x l is) ∙ sym e in
        subst (λ y. IsWalk ns root y w) to (subst (λ y. IsWalk ns root (turns_of root (kids_at ns root) ++ []) y) (sym v) (walk_start ns root b (omega arith)))

    module _ (items : List A) {root : ℕ} {old new : List Turn} {i : ℕ} where
      pub child_inside : {w : LayoutState H} → old ≡ Child i ∷ new → IsWalk (nodes_in items) root old w → i < length items
      child_inside g h = let l = (child_on (Inside (nodes_in items)) g h.inside).0 in let n = length-held held items in omega arith

      pub own_inside : {w : LayoutState H} → old ≡ Own i ∷ new → IsWalk (nodes_in items) root old w → i < length items
      own_inside g h = let l = (own_on (Inside (nodes_in items)) g h.inside).0 in let n = length-held held items in omega arith

      pub down : {w : LayoutState H} {later : List Turn} (x : A) → AreBelow (nodes_in items) → old ≡ Child i ∷ new →
          x ≡ get_or items i x → later ≡ turns_of i (held x).children ++ new → IsWalk (nodes_in items) root old w →
          IsWalk (nodes_in items) root later w × (measure (nodes_in items) later < measure (nodes_in items) old)
      down x b g is e h =
          walk_down (nodes_in items) b g (e ∙ ap (λ k. turns_of i k ++ new) (sym (kids_are items i x (child_inside g h) is))) h

      next_own : {w : LayoutState H} {x : A} → old ≡ Own i ∷ new → x ≡ get_or items i x → IsWalk (nodes_in items) root old w →
          LeadsTo (tree_at (nodes_in items) root) (own_of (held x) ∷ pieces_left (nodes_in items) new) w
      next_own {w} {x} g is h =
          subst (λ n. LeadsTo (tree_at (nodes_in items) root) (own_of n ∷ pieces_left (nodes_in items) new) w)
          (node_at_is items i x (own_inside g h) is) (next_piece (nodes_in items) g h)

      -- the finished indexes of which an item's children are the last ones
      pub found : {nodes : List (Node H)} {x : A} (finished ids : List Id) → old ≡ Own i ∷ new → x ≡ get_or items i x →
          (held x).children ≡ numbers_of ids → IsWalk (nodes_in items) root old (layout_state nodes (numbers_of finished)) →
          length ids ≤ length finished
      found finished ids g is k h = enough_finished finished ids k (next_own g is h)

      pub own_done : {nodes nodes' : List (Node H)} {x : A} (finished finished' ids : List Id) → old ≡ Own i ∷ new → x ≡ get_or items i x →
          (held x).children ≡ numbers_of ids →
          nodes' ≡ nodes ++ record { head = (held x).head; children = last_ones ids finished } ∷ [] →
          numbers_of finished' ≡ first_ones ids finished ++ length nodes ∷ [] →
          IsWalk (nodes_in items) root old (layout_state nodes (numbers_of finished)) →
          IsWalk (nodes_in items) root new (layout_state nodes' (numbers_of finished')) × (measure (nodes_in items) new < measure (nodes_in items) old)
      own_done {nodes} {nodes'} finished finished' ids g is k a d h =
          let ns = nodes_in items in (
            record {
              made = own_added finished ids k (next_own g is h) nodes' (numbers_of finished') a d;
              inside = (own_on (Inside ns) g h.inside).1;
            },
            (own_comes (pieces_at ns) (own_at ns) g).1,
          )

      -- as long as a node is to be made, those made are fewer than the tree's
      pub still_more : {w : LayoutState H} → old ≡ Own i ∷ new → IsWalk (nodes_in items) root old w →
          length w.nodes < node_count_of (tree_at (nodes_in items) root)
      still_more {w} g h =
          let ns = nodes_in items in
          let t = tree_at ns root in
          let n = made_count (own_at ns i ∷ pieces_left ns new) w (whole_of t) (next_piece ns g h).same in
          omega (arith, n, length_laid 0 t)

    -- the expression at the end
    pub end_laid : (items : List A) {root : ℕ} {old : List Turn} {w : LayoutState H} → old ≡ [] → IsWalk (nodes_in items) root old w →
        w.nodes ≡ layout_from 0 (tree_at (nodes_in items) root)
    end_laid items {root} {old} {w} e h =
        let ns = nodes_in items in
        layout_ends (subst (λ x. LeadsTo (tree_at ns root) x w) (ap (pieces_left ns) e) h.made)

    pub end_whole : (items : List A) (root : ℕ) → AreBelow (nodes_in items) → root < length items → IsWhole (tree_at (nodes_in items) root)
    end_whole items root b l = let n = length-held held items in whole_at (nodes_in items) root b (omega arith)
