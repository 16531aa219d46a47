-- The loop over a graph's roots, and the order of what is written.
use Rattle.std.proofs.Common.{◌≡◌, ℕ, ◌+◌, ◌<◌, List, [], ◌∷◌, ◌++◌, length, take, drop, get_or, refl, sym, ap, subst, ◌∙◌, arith, append_assoc, append-nil}
use Rattle.std.proofs.Common.{true, Option, Some, None, Result, Ok, Err}
use Rattle.std.specs.Prelude.{Bool, reverse, IfOk, IfSome}
use Rattle.std.proofs.lemmas.Bool.{cond-true, cond-false, eq-eqb, ne_eqb}
use Rattle.std.proofs.lemmas.List.{reverse-append, get_or-map, take_more, length-take, take-append-drop}
use Rattle.std.proofs.lemmas.List.Elements.{All-append}
use Rattle.rand_core.specs.Stream.{Stream}
use Rattle.mutate_base.specs.declared.error.Error.{Error}
use Rattle.mutate_base.specs.declared.error.Error.TheVariants.{NoMutationsApplicable}
use Rattle.wasm_types.specs.Module.{Module}
use Rattle.peephole_lang.specs.declared.lang.Head.{Head}
use Rattle.peephole_lang.specs.Term.{Term, tree_at}
use Rattle.peephole_graphs.specs.declared.dfg.StackEntry.{StackEntry}
use Rattle.peephole_graphs.specs.Entries.{Graph, roots_of}
use Rattle.peephole_graphs.specs.Forest.{IsInOrder}
use Rattle.peephole_graphs.specs.Graph.{roots}
use Rattle.peephole_graphs.specs.GraphOf.{IsGraphOf}
use Rattle.peephole_graphs.specs.Layout.{entry_nodes}
use Rattle.peephole_graphs.specs.Order.{TreesAreInOrder}
use Rattle.peephole_graphs.specs.Source.{Source}
use Rattle.peephole_graphs.proofs.graph.GraphLemmas.{children_below, roots_root, roots_child}
use Rattle.peephole_graphs.proofs.graph.LayoutTrees.{entries_below}
use Rattle.peephole_graphs.proofs.graph.OrderLemmas.{in_order}
use Rattle.peephole_terms.specs.declared.encoder.request.ResourceRequest.{ResourceRequest}
use Rattle.peephole_terms.specs.EncoderSteps.{operator_of_entry, root_term, root_terms, root_steps, IsWalkable, IsInRange, Step, Writing, writing_of}
use Rattle.peephole_terms.specs.EncoderSteps.{steps_of, steps, take_steps, then_steps, IsEncoderRefusal, Does}
use Rattle.peephole_terms.specs.Written.{Site, source_at, block_shapes, KeepsOrder}
use Rattle.peephole_terms.proofs.WalkLemmas.{take_steps-append, refused_after, kept_more}

-- ---- what is written for a root

pub term_there : (at : ℕ) (t : Term Head) (entries : List StackEntry) (i : ℕ) (d : StackEntry) → i < length entries →
    (get_or entries i d).operator_idx ≡ at → root_term at t entries i ≡ t
term_there at t entries i d l there =
    cond-true _ _ _ (eq-eqb (operator_of_entry entries i) at (get_or-map (λ (e : StackEntry). e.operator_idx) entries i d 0 l ∙ there))

pub tree_there : (at : ℕ) (t : Term Head) (entries : List StackEntry) (i : ℕ) (d : StackEntry) → i < length entries →
    ((get_or entries i d).operator_idx ≡ at → ⊥) → root_term at t entries i ≡ tree_at (entry_nodes entries) i
tree_there at t entries i d l elsewhere =
    let same = get_or-map (λ (e : StackEntry). e.operator_idx) entries i d 0 l in
    cond-false _ _ _ (ne_eqb (operator_of_entry entries i) at (λ there. elsewhere (sym same ∙ there)))

pub walkable : (source : Source) (g : Graph) → IsGraphOf source g → IsWalkable g.entries g.parents
walkable source g h = record { below = entries_below g.entries (children_below source g h); parent_each = h.forest_is.paired }

-- ---- the loop over the parents

-- the roots of the first parents are the first roots
roots_more : (later earlier : List (Option ℕ)) → (more : List ℕ) × (roots (later ++ earlier) ≡ more ++ roots earlier)
roots_more [] earlier = ([], refl)
roots_more (None ∷ later) earlier = let more = roots_more later earlier in
    (length (later ++ earlier) ∷ more.0, ap (λ x. length (later ++ earlier) ∷ x) more.1)
roots_more (Some p ∷ later) earlier = roots_more later earlier

roots_behind : (front back : List (Option ℕ)) → (more : List ℕ) × (roots_of (front ++ back) ≡ roots_of front ++ more)
roots_behind front back = let more = roots_more (reverse back) (reverse front) in
    (reverse more.0, ap (λ x. reverse (roots x)) (reverse-append front back) ∙ (ap reverse more.1 ∙ reverse-append more.0 (roots (reverse front))))

-- steps behind others
done_more : {count : ℕ} {front here : List Step} {start w v : Writing} → Does count front start w (Ok tt) → Does count here w v (Ok tt) →
    Does count (front ++ here) start v (Ok tt)
done_more {count} {front} {here} {start} {w} {v} before own = record {
  ok = take_steps-append count front here start ∙ (ap (λ (x : Result Writing Error). then_steps x (take_steps count here)) before.ok ∙ own.ok);
  err = tt;
  in_range = All-append IsInRange front here before.in_range own.in_range;
  kept = kept_more start.bytes w.bytes v.bytes before.kept own.kept;
}

-- or they refuse, whatever is behind them
refused_more : {count : ℕ} {front : List Step} {start w : Writing} (here rest : List Step) (d : Error) → Does count front start w (Ok tt) →
    IsEncoderRefusal d (take_steps count here w) → IsEncoderRefusal d (take_steps count ((front ++ here) ++ rest) start)
refused_more {count} {front} {start} {w} here rest d before own =
    let begun : take_steps count (front ++ here) start ≡ take_steps count here w =
    take_steps-append count front here start ∙ ap (λ (x : Result Writing Error). then_steps x (take_steps count here)) before.ok in
    refused_after d (take_steps count here w) (take_steps count ((front ++ here) ++ rest) start) (take_steps count rest)
    (ap (λ (x : Result Writing Error). then_steps x (take_steps count rest)) (sym begun) ∙ sym (take_steps-append count (front ++ here) rest start)) own

module _ (at : ℕ) (t : Term Head) (entries : List StackEntry) (parents : List (Option ℕ)) (i : ℕ) (l : i < length parents) where
  abbrev steps_at : List ℕ → List Step
  steps_at is = steps (root_terms at t entries is)

  steps-append : (is js : List ℕ) → steps_at (is ++ js) ≡ steps_at is ++ steps_at js
  steps-append [] js = refl
  steps-append (i ∷ is) js = ap (λ x. steps_of (root_term at t entries i) ++ x) (steps-append is js)
      ∙ sym (append_assoc (steps_of (root_term at t entries i)) (steps_at is) (steps_at js))

  taken : (q : Option ℕ) → get_or parents i None ≡ q → take (i + 1) parents ≡ take i parents ++ q ∷ []
  taken q e = take_more parents i None l ∙ ap (λ (q : Option ℕ). take i parents ++ q ∷ []) e

  -- at a root, the steps go on with those of its term
  next_root : get_or parents i None ≡ None →
      root_steps at t entries (take (i + 1) parents) ≡ root_steps at t entries (take i parents) ++ steps_of (root_term at t entries i)
  next_root none =
      let n : length (take i parents) ≡ i = omega (arith, length-take i parents) in
      ap steps_at (ap roots_of (taken None none) ∙ (roots_root (take i parents) ∙ ap (λ k. roots_of (take i parents) ++ k ∷ []) n))
      ∙ (steps-append (roots_of (take i parents)) (i ∷ [])
      ∙ ap (λ x. steps_at (roots_of (take i parents)) ++ x) (append-nil (steps_of (root_term at t entries i))))

  -- one more root is written
  pub root_done : {count : ℕ} {start w v : Writing} → get_or parents i None ≡ None → Does count (root_steps at t entries (take i parents)) start w (Ok tt) →
      Does count (steps_of (root_term at t entries i)) w v (Ok tt) → Does count (root_steps at t entries (take (i + 1) parents)) start v (Ok tt)
  root_done {count} {start} {v} none before own =
      subst (λ (x : List Step). Does count x start v (Ok tt)) (sym (next_root none)) (done_more before own)

  -- or its term refuses, and so does the whole
  pub root_refused : {count : ℕ} {start w : Writing} (d : Error) → get_or parents i None ≡ None →
      Does count (root_steps at t entries (take i parents)) start w (Ok tt) → IsEncoderRefusal d (take_steps count (steps_of (root_term at t entries i)) w) →
      IsEncoderRefusal d (take_steps count (root_steps at t entries parents) start)
  root_refused {count} {start} d none before own =
      let more = roots_behind (take (i + 1) parents) (drop (i + 1) parents) in
      let whole = ap (λ x. steps_at (roots_of x)) (sym (take-append-drop (i + 1) parents)) ∙ (ap steps_at more.1
      ∙ (steps-append (roots_of (take (i + 1) parents)) more.0 ∙ ap (λ x. x ++ steps_at more.0) (next_root none))) in
      subst (λ (x : List Step). IsEncoderRefusal d (take_steps count x start)) (sym whole)
      (refused_more (steps_of (root_term at t entries i)) (steps_at more.0) d before own)

  -- one more entry is none
  pub child_done : {count : ℕ} {start w : Writing} (p : ℕ) → get_or parents i None ≡ Some p →
      Does count (root_steps at t entries (take i parents)) start w (Ok tt) → Does count (root_steps at t entries (take (i + 1) parents)) start w (Ok tt)
  child_done {count} {start} {w} p some before =
      subst (λ (x : List ℕ). Does count (steps_at x) start w (Ok tt)) (sym (ap roots_of (taken (Some p) some) ∙ roots_child (take i parents) p)) before

-- what a branch leaves is what it wrote
pub left_as : {count : ℕ} {ss : List Step} {start : Writing} {a b : List ℕ} {r q : List ResourceRequest} {s t : Stream} → b ≡ a → q ≡ r → t ≡ s →
    Does count ss start (writing_of a r s) (Ok tt) → Does count ss start (writing_of b q t) (Ok tt)
left_as e f g h = rw (e, f, g) h

-- ---- the order

where_written : {T : Type 0} (P : Type 0) (r : Result T Error) → P → IfOk r (λ _. P)
where_written P (Ok x) h = h
where_written P (Err e) h = tt

-- where the order is to be preserved, a call that isn't refused for its sake has a block in order
pub order_kept : {T : Type 0} (info : Module) (preserving : Bool) (site : Site) (g : Graph) (r : Result T Error) →
    IsGraphOf (source_at info preserving site) g → (preserving ≡ true → TreesAreInOrder g.entries g.parents) → (r ≡ Err NoMutationsApplicable → ⊥) →
    KeepsOrder preserving (block_shapes info site) r
order_kept info preserving site g r h lies other =
    let ordered = in_order (source_at info preserving site) g h in
    record {
      refused = (λ e. absurd (other e), λ k. absurd (k.1 (ordered.0 (lies k.0))));
      in_order = where_written (preserving ≡ true → IsInOrder (block_shapes info site)) r (λ keeps. ordered.0 (lies keeps));
    }

-- a block out of order, while preserving, is refused
pub order_refused : (T : Type 0) (under : Option Module) (preserving : Bool) (site : Site) (g : Graph) → preserving ≡ true →
    IfSome under (λ info. IsGraphOf (source_at info preserving site) g) → (TreesAreInOrder g.entries g.parents → ⊥) →
    IfSome under (λ info. KeepsOrder {A = T} preserving (block_shapes info site) (Err NoMutationsApplicable))
order_refused T None preserving site g on h out = tt
order_refused T (Some info) preserving site g on h out = record {
  refused = (λ e. (on, λ o. out ((in_order (source_at info preserving site) g h).1 o)), λ k. refl);
  in_order = tt;
}

pub wrote : {T : Type 0} (x : T) → Ok x ≡ Err NoMutationsApplicable → ⊥
wrote x e = cc

-- writing is refused for other causes
pub other_cause : (d : Error) (r : Result Writing Error) → IsEncoderRefusal d r → d ≡ NoMutationsApplicable → ⊥
other_cause d r q e = subst (λ (x : Error). IsEncoderRefusal x r) e q

pub not_for_order : {T : Type 0} (d : Error) (r : Result Writing Error) → IsEncoderRefusal d r →
    ◌≡◌ {A = Result T Error} (Err d) (Err NoMutationsApplicable) → ⊥
not_for_order {T} d r q e = other_cause d r q cc
