-- What is left of a walk in postfix, turn by turn (this project). `tree` is what the tree of an index brings, `own` what its node itself brings.
use Rattle.std.proofs.Common.{◌≡◌, ℕ, ◌*◌, ◌<◌, List, [], ◌∷◌, ◌++◌, length, refl, sym, ap, subst, ◌∙◌, arith, append_assoc, length-append}
use Rattle.std.specs.List.{All, flat_map}
use Rattle.std.proofs.lemmas.List.Elements.{All-cons, All-head, All-tail}
use Rattle.peephole_graphs.specs.declared.postfix.Turn.{Turn}
use Rattle.peephole_graphs.specs.declared.postfix.Turn.TheVariants.{Child, Own}
use Rattle.peephole_graphs.specs.Postfix.{turns_of}

-- what is left to come, in postfix
abbrev pub left : {X : Type 0} → (tree : ℕ → List X) → (own : ℕ → X) → List Turn → List X
left tree own [] = []
left tree own (Child i ∷ turns) = tree i ++ left tree own turns
left tree own (Own i ∷ turns) = own i ∷ left tree own turns

module _ {X : Type 0} (tree : ℕ → List X) (own : ℕ → X) where
  left_entered : (i : ℕ) (children : List ℕ) (turns : List Turn) →
      left tree own (turns_of i children ++ turns) ≡ flat_map tree children ++ own i ∷ left tree own turns
  left_entered i [] turns = refl
  left_entered i (child ∷ rest) turns = ap (λ x. tree child ++ x) (left_entered i rest turns)
      ∙ sym (append_assoc (tree child) (flat_map tree rest) (own i ∷ left tree own turns))

  -- a tree is its children's trees, and then its own node
  abbrev pub IsTreeOf : ℕ → List ℕ → Type 0
  IsTreeOf i children = tree i ≡ flat_map tree children ++ own i ∷ []

  -- what is left of a node that was entered is its tree
  pub entered : (i : ℕ) (children : List ℕ) (turns : List Turn) → IsTreeOf i children →
      left tree own (turns_of i children ++ turns) ≡ tree i ++ left tree own turns
  entered i children turns e = left_entered i children turns
      ∙ (sym (append_assoc (flat_map tree children) (own i ∷ []) (left tree own turns)) ∙ ap (λ x. x ++ left tree own turns) (sym e))

module _ {X : Type 0} (tree : ℕ → List X) (own : ℕ → X) where
  abbrev twice : ℕ → List X
  twice i = tree i ++ tree i

  -- how many turns are left: of each node in a tree one down to it, and its own
  abbrev pub turns_left : List Turn → ℕ
  turns_left turns = length (left twice own turns)

  length_twice : (is : List ℕ) → length (flat_map twice is) ≡ 2 * length (flat_map tree is)
  length_twice [] = refl
  length_twice (i ∷ is) =
      let more = length_twice is in
      omega (arith, more, length-append (twice i) (flat_map twice is), length-append (tree i) (tree i), length-append (tree i) (flat_map tree is))

  -- a child that is entered when it comes leaves what was left, and fewer turns
  pub child_comes : {old new later : List Turn} {i : ℕ} (children : List ℕ) → old ≡ Child i ∷ new → later ≡ turns_of i children ++ new →
      IsTreeOf tree own i children → (left tree own later ≡ left tree own old) × (turns_left later < turns_left old)
  child_comes {old} {new} {later} {i} children h e t =
      let same : left tree own (turns_of i children ++ new) ≡ left tree own old = entered tree own i children new t ∙ sym (ap (left tree own) h) in
      let before : turns_left old ≡ length (twice i ++ left twice own new) = ap turns_left h in
      let after : turns_left (turns_of i children ++ new) ≡ length (flat_map twice children ++ own i ∷ left twice own new) =
      ap (λ x. length x) (left_entered twice own i children new) in
      let size : length (tree i) ≡ length (flat_map tree children ++ own i ∷ []) = ap (λ x. length x) t in
      let fewer : turns_left (turns_of i children ++ new) < turns_left old = omega (
        arith,
        before,
        after,
        size,
        length_twice children,
        length-append (twice i) (left twice own new),
        length-append (tree i) (tree i),
        length-append (flat_map tree children) (own i ∷ []),
        length-append (flat_map twice children) (own i ∷ left twice own new),
      ) in
      subst (λ w. (left tree own w ≡ left tree own old) × (turns_left w < turns_left old)) (sym e) (same, fewer)

  -- a node itself is the first of what is left, and then there are fewer turns
  pub own_comes : {old new : List Turn} {i : ℕ} → old ≡ Own i ∷ new →
      (left tree own old ≡ own i ∷ left tree own new) × (turns_left new < turns_left old)
  own_comes {old} {new} {i} h = let before : turns_left old ≡ length (own i ∷ left twice own new) = ap turns_left h in
      (ap (left tree own) h, omega arith)

-- ---- the indexes that a walk holds

abbrev pub nodes_in_turns : List Turn → List ℕ
nodes_in_turns turns = left (λ i. i ∷ []) (λ i. i) turns

module _ (P : ℕ → Type 0) where
  abbrev pub AllOn : List Turn → Type 0
  AllOn turns = All P (nodes_in_turns turns)

  -- the one that comes, and the others
  pub child_on : {old new : List Turn} {i : ℕ} → old ≡ Child i ∷ new → AllOn old → P i × AllOn new
  child_on {old} {new} {i} h all = let both : All P (i ∷ nodes_in_turns new) = subst AllOn h all in
      (All-head P i (nodes_in_turns new) both, All-tail P i (nodes_in_turns new) both)

  pub own_on : {old new : List Turn} {i : ℕ} → old ≡ Own i ∷ new → AllOn old → P i × AllOn new
  own_on {old} {new} {i} h all = let both : All P (i ∷ nodes_in_turns new) = subst AllOn h all in
      (All-head P i (nodes_in_turns new) both, All-tail P i (nodes_in_turns new) both)

  -- with a node that is entered
  pub entered_on : (i : ℕ) (children : List ℕ) (turns : List Turn) → P i → All P children → AllOn turns → AllOn (turns_of i children ++ turns)
  entered_on i [] turns h all rest = All-cons P i (nodes_in_turns turns) h rest
  entered_on i (c ∷ cs) turns h all rest =
      All-cons P c (nodes_in_turns (turns_of i cs ++ turns)) (All-head P c cs all) (entered_on i cs turns h (All-tail P c cs all) rest)
