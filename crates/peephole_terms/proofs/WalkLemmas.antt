-- The walk over a tree of nodes: what is left to be written of it. Lists of nodes have the last one first.
use Rattle.std.proofs.Common.{◌≡◌, ℕ, ◌<◌, ◌≤◌, List, [], ◌∷◌, ◌++◌, length, take, get_or, refl, sym, ap, ap₂, subst, ◌∙◌, arith}
use Rattle.std.proofs.Common.{append-nil, None, Bool, true, false, cond, Result, Ok, Err}
use Rattle.std.specs.Prelude.{◌==◌, All, map}
use Rattle.std.specs.List.{flat_map}
use Rattle.std.proofs.lemmas.Bool.{eqb-true}
use Rattle.std.proofs.lemmas.Grind.{common_steps}
use Rattle.std.proofs.lemmas.List.{length-take, length-map, length-reverse}
use Rattle.std.proofs.lemmas.List.Elements.{All-nil, All-cons, All-append, All-weaker, All-head, All-tail}
use Rattle.rand_core.specs.Stream.{Stream}
use Rattle.mutate_base.specs.declared.error.Error.{Error}
use Rattle.mutate_base.specs.declared.error.Error.TheVariants.{Memory, CannotUnfold, GlobalIndex}
use Rattle.peephole_lang.specs.declared.lang.Head.{Head}
use Rattle.peephole_nodes.specs.declared.id.Id.{Id}
use Rattle.peephole_lang.specs.declared.lang.Lang.{Lang}
use Rattle.peephole_lang.specs.Lang.{ids_of, payload_of}
use Rattle.peephole_lang.specs.Node.{head_of, children_of}
use Rattle.peephole_lang.specs.Term.{numbers_of, Term, Terms, absent, node, no_terms, ◌▸◌, Node, AreBelow, pick, tree_at}
use Rattle.peephole_terms.specs.declared.encoder.request.ResourceRequest.{ResourceRequest}
use Rattle.peephole_graphs.specs.declared.postfix.Turn.{Turn}
use Rattle.peephole_graphs.specs.declared.postfix.Turn.TheVariants.{Child, Own}
use Rattle.peephole_graphs.specs.Postfix.{turns_of}
use Rattle.peephole_graphs.specs.PostfixLemmas.{left, IsTreeOf, turns_left, entered, child_comes, own_comes, AllOn, child_on, own_on, entered_on}
use Rattle.peephole_terms.specs.NodeKind.{IntegerType, node_kind, is_unfold}
use Rattle.peephole_terms.specs.Expansion.{constant_in, constant_of}
use Rattle.peephole_terms.specs.EncoderSteps.{Step, nothing, raw, around, Writing, writing_of, writing_with_bytes, IsInRange, own_step}
use Rattle.peephole_terms.specs.EncoderSteps.{own_step_in, children_to_write, steps_of, steps, take_step, take_steps, then_steps}
use Rattle.peephole_terms.specs.EncoderSteps.{IsEncoderRefusal, Does, nodes_in}
use Rattle.peephole_lang.specs.laws.PlaceLemmas.{IsAt, tree_is, children_in, at_place, view}

-- ---- steps one after another

pub take_steps-append : (count : ℕ) (xs ys : List Step) (w : Writing) → take_steps count (xs ++ ys) w ≡ then_steps (take_steps count xs w) (take_steps count ys)
take_steps-append count [] ys w = refl
take_steps-append count (x ∷ xs) ys w = go (take_step count x w) (λ v. take_steps-append count xs ys v)
  where
    go : (r : Result Writing Error) → ((v : Writing) → take_steps count (xs ++ ys) v ≡ then_steps (take_steps count xs v) (take_steps count ys)) →
        then_steps r (take_steps count (xs ++ ys)) ≡ then_steps (then_steps r (take_steps count xs)) (take_steps count ys)
    go (Ok v) more = more v
    go (Err e) more = refl

-- what comes behind a refusal doesn't count
pub refused_after : (d : Error) (r whole : Result Writing Error) (more : Writing → Result Writing Error) → then_steps r more ≡ whole →
    IsEncoderRefusal d r → IsEncoderRefusal d whole
refused_after Memory r whole more e q = tt
refused_after CannotUnfold r whole more e q = sym e ∙ ap (λ (x : Result Writing Error). then_steps x more) q
refused_after GlobalIndex r whole more e q = sym e ∙ ap (λ (x : Result Writing Error). then_steps x more) q
refused_after _ r whole more e q = q

-- ---- what the tree of a node brings

-- the step of a term's own node
abbrev root_step : Term Head → Step
root_step absent = nothing
root_step (node h kids) = own_step (node_kind h) kids

module _ (ns : List (Node Head)) where
  abbrev steps_at : ℕ → List Step
  steps_at i = steps_of (tree_at ns i)

  abbrev own_at : ℕ → Step
  own_at i = root_step (tree_at ns i)

  abbrev steps_left : List Turn → List Step
  steps_left turns = left steps_at own_at turns

  abbrev pub measure : List Turn → ℕ
  measure turns = turns_left steps_at own_at turns

  picked_steps : (is : List ℕ) → steps (pick (tree_at ns) is) ≡ flat_map steps_at is
  picked_steps [] = refl
  picked_steps (i ∷ is) = ap (λ x. steps_at i ++ x) (picked_steps is)

  opened_steps : (b : Bool) (is : List ℕ) → cond b [] (steps (pick (tree_at ns) is)) ≡ flat_map steps_at (cond b [] is)
  opened_steps true is = refl
  opened_steps false is = picked_steps is

  is_tree : {n : Node Head} {i : ℕ} → IsAt n ns i → AreBelow ns → IsTreeOf steps_at own_at i (children_to_write (node_kind n.head) n.children)
  is_tree {n} at b =
      ap steps_of (tree_is at b)
      ∙ ap₂ (λ (x : List Step) (y : Step). x ++ y ∷ []) (opened_steps (is_unfold (node_kind n.head)) n.children) (sym (ap root_step (tree_is at b)))

-- ---- steps between bytes

abbrev written : Writing → Result Writing Error
written w = Ok w

-- the steps between them, where all were taken
pub around_ok : (count : ℕ) (before after : List ℕ) (ss : List Step) (w v : Writing) → take_steps count (around before ss after) w ≡ Ok v →
    (m : Writing) × (take_steps count ss (writing_with_bytes before w) ≡ Ok m) × (v ≡ writing_with_bytes after m)
around_ok count before after ss w v e =
    go (take_steps count ss (writing_with_bytes before w)) (sym (take_steps-append count ss (raw after ∷ []) (writing_with_bytes before w)) ∙ e)
  where
    go : (r : Result Writing Error) → then_steps r (take_steps count (raw after ∷ [])) ≡ Ok v →
        (m : Writing) × (r ≡ Ok m) × (v ≡ writing_with_bytes after m)
    go (Ok m) e = (m, refl, cc)
    go (Err d) e = absurd cc

pub around_refused : (count : ℕ) (before after : List ℕ) (ss : List Step) (w : Writing) (d : Error) →
    IsEncoderRefusal d (take_steps count (around before ss after) w) → IsEncoderRefusal d (take_steps count ss (writing_with_bytes before w))
around_refused count before after ss w d q =
    go d (take_steps count ss (writing_with_bytes before w))
    (subst (IsEncoderRefusal d) (take_steps-append count ss (raw after ∷ []) (writing_with_bytes before w)) q)
  where
    go : (d : Error) (r : Result Writing Error) → IsEncoderRefusal d (then_steps r (take_steps count (raw after ∷ []))) → IsEncoderRefusal d r
    go Memory r q = tt
    go d (Err e) q = q
    go CannotUnfold (Ok m) q = absurd cc
    go GlobalIndex (Ok m) q = absurd cc
    go _ (Ok m) q = q

pub inside_in_range : (before after : List ℕ) (ss : List Step) → All IsInRange (around before ss after) → All IsInRange ss
inside_in_range before after ss h = first ss (All-tail IsInRange (raw before) (ss ++ raw after ∷ []) h)
  where
    first : (xs : List Step) → All IsInRange (xs ++ raw after ∷ []) → All IsInRange xs
    first [] h = All-nil IsInRange
    first (x ∷ xs) h = All-cons IsInRange x xs (All-head IsInRange x (xs ++ raw after ∷ []) h) (first xs (All-tail IsInRange x (xs ++ raw after ∷ []) h))

-- ---- the invariant

-- What is walked over: items that hold nodes, from the one at `root` on, with that many globals and from that start.
pub record Walk (A : Type 0) : Type 0 where
  pub held : A → Lang
  pub items : List A
  pub count : ℕ
  pub root : ℕ
  pub start : Writing

abbrev pub walk_of : {A : Type 0} → (held : A → Lang) → List A → (count root : ℕ) → Writing → Walk A
walk_of held items count root start = record { held = held; items = items; count = count; root = root; start = start }

abbrev pub nodes : {A : Type 0} → Walk A → List (Node Head)
nodes k = nodes_in k.held k.items

-- the steps of the whole tree
abbrev pub every : {A : Type 0} → Walk A → List Step
every k = steps_of (tree_at (nodes k) k.root)

abbrev Inside : List (Node Head) → ℕ → Type 0
Inside ns i = i < length ns

-- What is left, done from here, is what the whole gives; where its instructions are in range, those of all steps are; and the nodes of the turns are there.
pub record IsUnderway {A : Type 0} (k : Walk A) (turns : List Turn) (w : Writing) : Type 0 where
  pub below : AreBelow (nodes k)
  pub same : take_steps k.count (steps_left (nodes k) turns) w ≡ take_steps k.count (every k) k.start
  pub in_range : All IsInRange (steps_left (nodes k) turns) → All IsInRange (every k)
  pub inside : AllOn (Inside (nodes k)) turns

pub length-nodes_in : {A : Type 0} (held : A → Lang) (items : List A) → length (nodes_in held items) ≡ length items
length-nodes_in held items =
    length-reverse (map (view (λ x. head_of (held x)) (λ x. children_of (held x))) items)
    ∙ length-map items (view (λ x. head_of (held x)) (λ x. children_of (held x)))

-- ---- one node

-- What the code reads at a place: the item there, and the node in it.
pub record IsRead {A : Type 0} (k : Walk A) (i : ℕ) (x : A) (l : Lang) : Type 0 where
  pub is : x ≡ get_or k.items i x
  pub held_is : l ≡ k.held x

abbrev written_kids : Lang → List ℕ
written_kids l = children_to_write (node_kind (head_of l)) (children_of l)

module _ {A : Type 0} {k : Walk A} {i : ℕ} {x : A} {l : Lang} (there : i < length k.items) where
  read_at : IsRead k i x l → IsAt (view head_of children_of l) (nodes k) i
  read_at r =
      subst (λ y. IsAt (view head_of children_of y) (nodes k) i) (sym r.held_is)
      (at_place (λ y. head_of (k.held y)) (λ y. children_of (k.held y)) k.items i x there r.is)

  -- the children of the node that is read are there
  pub kids_in : AreBelow (nodes k) → IsRead k i x l → All (λ c. c < length k.items) (children_of l)
  kids_in b r =
      let wider : (c : ℕ) → c < i → c < length k.items = λ c g. omega arith in
      All-weaker (λ c. c < i) (λ c. c < length k.items) wider (children_of l) (children_in (read_at r) b)

  -- so are those that are written
  kids_inside : AreBelow (nodes k) → IsRead k i x l → All (Inside (nodes k)) (written_kids l)
  kids_inside b r =
      let n = length-nodes_in k.held k.items in
      let all = All-weaker (λ c. c < length k.items) (Inside (nodes k)) (λ c g. omega arith) (children_of l) (kids_in b r) in
      opened_in (is_unfold (node_kind (head_of l))) (children_of l) (Inside (nodes k)) all
    where
      opened_in : (b : Bool) (kids : List ℕ) (P : ℕ → Type 0) → All P kids → All P (cond b [] kids)
      opened_in true kids P all = All-nil P
      opened_in false kids P all = all

-- ---- turns

-- at the root
pub start : {A : Type 0} {k : Walk A} {x : A} {l : Lang} {turns : List Turn} (ids : List Id) → AreBelow (nodes k) → k.root < length k.items →
    IsRead k k.root x l → numbers_of ids ≡ written_kids l → turns ≡ turns_of k.root (numbers_of ids) ++ [] → IsUnderway k turns k.start
start {A} {k} {x} {l} {turns} ids b there r kids e =
    let ns = nodes k in
    let n = length-nodes_in k.held k.items in
    let whole = entered (steps_at ns) (own_at ns) k.root (written_kids l) [] (is_tree ns (read_at there r) b) ∙ append-nil (every k) in
    subst (λ (y : List Turn). IsUnderway k y k.start) (sym (e ∙ ap (λ c. turns_of k.root c ++ []) kids)) (record {
      below = b;
      same = ap (λ (y : List Step). take_steps k.count y k.start) whole;
      in_range = λ q. subst (All IsInRange) whole q;
      inside = entered_on (Inside ns) k.root (written_kids l) [] (omega arith) (kids_inside there b r) (All-nil (Inside ns));
    })

-- at the end
pub arrived : {A : Type 0} {k : Walk A} {old : List Turn} {w : Writing} → IsUnderway k old w → old ≡ [] →
    take (length k.start.bytes) w.bytes ≡ k.start.bytes → Does k.count (every k) k.start w (Ok tt)
arrived {A} {k} {old} {w} h e kept =
    let none = ap (steps_left (nodes k)) e in
    record {
      ok = sym h.same ∙ ap (λ (y : List Step). take_steps k.count y w) none;
      err = tt;
      in_range = h.in_range (subst (All IsInRange) (sym none) (All-nil IsInRange));
      kept = kept;
    }

module _ {A : Type 0} {k : Walk A} {old new : List Turn} {i : ℕ} {w : Writing} (h : IsUnderway k old w) where
  pub child_inside : old ≡ Child i ∷ new → i < length k.items
  child_inside g = let there = (child_on (Inside (nodes k)) g h.inside).0 in let n = length-nodes_in k.held k.items in omega arith

  pub own_inside : old ≡ Own i ∷ new → i < length k.items
  own_inside g = let there = (own_on (Inside (nodes k)) g h.inside).0 in let n = length-nodes_in k.held k.items in omega arith

  -- a child that is entered
  pub down : {x : A} {l : Lang} {later : List Turn} (ids : List Id) → old ≡ Child i ∷ new → IsRead k i x l →
      numbers_of ids ≡ written_kids l → later ≡ turns_of i (numbers_of ids) ++ new →
      IsUnderway k later w × (measure (nodes k) later < measure (nodes k) old)
  down {x} {l} {later} ids g r kids e =
      let ns = nodes k in
      let to : later ≡ turns_of i (written_kids l) ++ new = e ∙ ap (λ c. turns_of i c ++ new) kids in
      let on = child_on (Inside ns) g h.inside in
      let comes = child_comes (steps_at ns) (own_at ns) (written_kids l) g to (is_tree ns (read_at (child_inside g) r) h.below) in (
        record {
          below = h.below;
          same = ap (λ (y : List Step). take_steps k.count y w) comes.0 ∙ h.same;
          in_range = λ q. h.in_range (subst (All IsInRange) comes.0 q);
          inside = subst (AllOn (Inside ns)) (sym to)
              (entered_on (Inside ns) i (written_kids l) new on.0 (kids_inside (child_inside g) h.below r) on.1);
        },
        comes.1,
      )

  -- the node itself is the next step
  own_next : {x : A} {l : Lang} → old ≡ Own i ∷ new → IsRead k i x l →
      steps_left (nodes k) old ≡ own_step_in (nodes k) l ∷ steps_left (nodes k) new
  own_next g r =
      let ns = nodes k in
      (own_comes (steps_at ns) (own_at ns) g).0 ∙ ap (λ (y : Term Head). root_step y ∷ steps_left ns new) (tree_is (read_at (own_inside g) r) h.below)

  pub own_done : {x : A} {l : Lang} {v : Writing} → old ≡ Own i ∷ new → IsRead k i x l →
      Does k.count (own_step_in (nodes k) l ∷ []) w v (Ok tt) → IsUnderway k new v × (measure (nodes k) new < measure (nodes k) old)
  own_done {x} {l} {v} g r own =
      let ns = nodes k in
      let step = own_step_in ns l in
      let rest = steps_left ns new in
      let next = own_next g r in (
        record {
          below = h.below;
          same = ap (λ (q : Result Writing Error). then_steps q (take_steps k.count rest)) (sym own.ok)
              ∙ (sym (take_steps-append k.count (step ∷ []) rest w) ∙ (ap (λ (y : List Step). take_steps k.count y w) (sym next) ∙ h.same));
          in_range = λ q. h.in_range (subst (All IsInRange) (sym next)
              (All-cons IsInRange step rest (All-head IsInRange step [] own.in_range) q));
          inside = (own_on (Inside ns) g h.inside).1;
        },
        (own_comes (steps_at ns) (own_at ns) g).1,
      )

  pub own_refused : {x : A} {l : Lang} (d : Error) → old ≡ Own i ∷ new → IsRead k i x l →
      IsEncoderRefusal d (take_steps k.count (own_step_in (nodes k) l ∷ []) w) → IsEncoderRefusal d (take_steps k.count (every k) k.start)
  own_refused {x} {l} d g r q =
      let own = own_step_in (nodes k) l ∷ [] in
      let rest = steps_left (nodes k) new in
      refused_after d (take_steps k.count own w) (take_steps k.count (every k) k.start) (take_steps k.count rest)
      (sym (take_steps-append k.count own rest w) ∙ (ap (λ (y : List Step). take_steps k.count y w) (sym (own_next g r)) ∙ h.same)) q

-- ---- leaves

-- a node without children to write is its own step
pub leaf_tree : {A : Type 0} {k : Walk A} {i : ℕ} {x : A} {l : Lang} → i < length k.items → AreBelow (nodes k) → IsRead k i x l → [] ≡ written_kids l →
    steps_of (tree_at (nodes k) i) ≡ own_step_in (nodes k) l ∷ []
leaf_tree {A} {k} {i} {x} {l} there b r leaf =
    let ns = nodes k in
    let at = read_at there r in
    is_tree ns at b ∙ (ap (λ c. flat_map (steps_at ns) c ++ own_at ns i ∷ []) (sym leaf)
    ∙ ap (λ (y : Term Head). root_step y ∷ []) (tree_is at b))

module _ {A : Type 0} {k : Walk A} {old new : List Turn} {i : ℕ} {w : Writing} {x : A} {l : Lang} (h : IsUnderway k old w) (g : old ≡ Child i ∷ new)
    (r : IsRead k i x l) (leaf : [] ≡ written_kids l) where
  -- a child that is one stands for its own turn
  at_leaf : IsUnderway k (Own i ∷ new) w × (measure (nodes k) (Own i ∷ new) < measure (nodes k) old)
  at_leaf = down h [] g r leaf refl

  pub leaf_done : {v : Writing} → Does k.count (own_step_in (nodes k) l ∷ []) w v (Ok tt) →
      IsUnderway k new v × (measure (nodes k) new < measure (nodes k) old)
  leaf_done own = let done = own_done at_leaf.0 refl r own in (done.0, omega (arith, at_leaf.1, done.1))

  pub leaf_refused : (d : Error) → IsEncoderRefusal d (take_steps k.count (own_step_in (nodes k) l ∷ []) w) →
      IsEncoderRefusal d (take_steps k.count (every k) k.start)
  leaf_refused d q = own_refused at_leaf.0 d refl r q

-- no ids
pub no_ids : {kids : List ℕ} (ids : List Id) (b : Bool) → numbers_of ids ≡ kids → b ≡ (length ids == 0) → b ≡ true → [] ≡ kids
no_ids [] b e is t = e
no_ids (i ∷ ids) b e is t = let none = eqb-true (length (i ∷ ids)) 0 (sym is ∙ t) in absurd (omega arith)

-- a refusal that is passed on
pub passed_on : {count : ℕ} {taken : List Step} {w v : Writing} (out : Result (Unit {0}) Error) (d : Error) → out ≡ Err d →
    IsEncoderRefusal d (take_steps count taken w) → take (length w.bytes) v.bytes ≡ w.bytes → Does count taken w v out
passed_on {count} {taken} {w} {v} out d e q k =
    subst (λ (r : Result (Unit {0}) Error). Does count taken w v r) (sym e) (record { ok = tt; err = q; in_range = tt; kept = k })

-- what begins with what begins with a list begins with the list
pub kept_more : (a b c : List ℕ) → take (length a) b ≡ a → take (length b) c ≡ b → take (length a) c ≡ a
kept_more a b c h k =
    let n : length (take (length a) b) ≡ length a = ap (λ (x : List ℕ). length x) h in
    let short : length a ≤ length b = omega (arith, length-take (length a) b) in
    sym (take_shorter (length a) (length b) c short) ∙ (ap (take (length a)) k ∙ h)
  where
    take_shorter : (n m : ℕ) (xs : List ℕ) → n ≤ m → take n (take m xs) ≡ take n xs
    take_shorter n m xs l = grind (arith, common_steps)

-- what is appended to a list leaves the list
pub kept_before : (a more b : List ℕ) → b ≡ a ++ more → take (length a) b ≡ a
kept_before a more b e = ap (take (length a)) e ∙ first a more
  where
    first : (a more : List ℕ) → take (length a) (a ++ more) ≡ a
    first a more = grind (arith, common_steps)

-- ---- what is written between bytes

pub around_done : {count : ℕ} {old first last new : List ℕ} {ss : List Step} {rs qs : List ResourceRequest} {now later : Stream} (before after : List ℕ) →
    first ≡ old ++ before → new ≡ last ++ after → Does count ss (writing_of first rs now) (writing_of last qs later) (Ok tt) →
    Does count (around before ss after) (writing_of old rs now) (writing_of new qs later) (Ok tt)
around_done {count} {old} {first} {last} {new} {ss} {rs} {qs} {now} {later} before after e f h = record {
  ok = take_steps-append count ss (raw after ∷ []) (writing_of (old ++ before) rs now)
      ∙ (ap (λ (x : List ℕ). then_steps (take_steps count ss (writing_of x rs now)) (take_steps count (raw after ∷ []))) (sym e)
      ∙ (ap (λ (r : Result Writing Error). then_steps r (take_steps count (raw after ∷ []))) h.ok
      ∙ ap (λ (x : List ℕ). written (writing_of x qs later)) (sym f)));
  err = tt;
  in_range = All-cons IsInRange (raw before) (ss ++ raw after ∷ []) tt
      (All-append IsInRange ss (raw after ∷ []) h.in_range (All-cons IsInRange (raw after) [] tt (All-nil IsInRange)));
  kept = kept_more old last new (kept_more old first last (kept_before old before first e) h.kept) (kept_before last after new f);
}

pub around_refuses : {count : ℕ} {old first : List ℕ} {ss : List Step} {rs : List ResourceRequest} {now : Stream} {v : Writing} {d : Error}
    (before after : List ℕ) → first ≡ old ++ before → Does count ss (writing_of first rs now) v (Err d) →
    Does count (around before ss after) (writing_of old rs now) v (Err d)
around_refuses {count} {old} {first} {ss} {rs} {now} {v} {d} before after e h = record {
  ok = tt;
  err = refused_after d (take_steps count ss (writing_of first rs now)) (take_steps count (around before ss after) (writing_of old rs now))
      (take_steps count (raw after ∷ []))
      (ap (λ (x : List ℕ). then_steps (take_steps count ss (writing_of x rs now)) (take_steps count (raw after ∷ []))) e
      ∙ sym (take_steps-append count ss (raw after ∷ []) (writing_of (old ++ before) rs now))) h.err;
  in_range = tt;
  kept = kept_more old first v.bytes (kept_before old before first e) h.kept;
}

-- ---- an unfold's constant

-- that of the one child, where there is one
pub unfold_is : {A : Type 0} (held : A → Lang) (items : List A) (t : IntegerType) (l kid : Lang) (ids : List Id) (d : Id) (x : A) → ids ≡ ids_of l →
    1 ≤ length ids → length ids < 2 →
    AreBelow (nodes_in held items) → All (λ k. k < length items) (children_of l) → x ≡ get_or items (get_or ids 0 d).0 x → kid ≡ held x →
    constant_in t (pick (tree_at (nodes_in held items)) (children_of l)) ≡ constant_of t (payload_of kid)
unfold_is held items t l kid [] d x e some one b all is k = absurd (omega arith)
unfold_is held items t l kid (i ∷ j ∷ ids) d x e some one b all is k = absurd (omega arith)
unfold_is held items t l kid (i ∷ []) d x e some one b all is k =
    let P : ℕ → Type 0 = λ k. k < length items in
    let kids : children_of l ≡ i.0 ∷ [] = ap numbers_of (sym e) in
    let inside : i.0 < length items = All-head P i.0 [] (subst (All P) kids all) in
    let ns = nodes_in held items in
    let there = tree_is (at_place (λ x. head_of (held x)) (λ x. children_of (held x)) items i.0 x inside is) b in
    ap (λ (c : List ℕ). constant_in t (pick (tree_at ns) c)) kids
    ∙ (ap (λ (y : Term Head). constant_in t (y ▸ no_terms)) there ∙ ap (λ (y : Lang). constant_of t (payload_of y)) (sym k))

two_children : (t : IntegerType) (x y : Term Head) (more : Terms Head) → constant_in t (x ▸ y ▸ more) ≡ None
two_children t absent y more = refl
two_children t (node h kids) y more = refl

pub unfold_none : (at : ℕ → Term Head) (t : IntegerType) (l : Lang) (ids : List Id) → ids ≡ ids_of l → 2 ≤ length ids →
    constant_in t (pick at (children_of l)) ≡ None
unfold_none at t l [] e two = absurd (omega arith)
unfold_none at t l (i ∷ []) e two = absurd (omega arith)
unfold_none at t l (i ∷ j ∷ ids) e two =
    ap (λ (k : List Id). constant_in t (pick at (numbers_of k))) (sym e) ∙ two_children t (at i.0) (at j.0) (pick at (numbers_of ids))
