-- The parts of a side by their numbers, from the last one on.
use Rattle.std.proofs.Common.{◌≡◌, ℕ, zero, suc, ◌+◌, ◌-◌, ◌<◌, ◌≤◌, false, List, [], ◌∷◌, length, map, drop, Some, refl, sym, ap, subst, ◌∙◌, arith}
use Rattle.std.specs.Prelude.{◌==◌, reverse, slice_get, slice_index_or}
use Rattle.std.proofs.lemmas.List.{get_or-reverse, length-reverse}
use Rattle.std.proofs.lemmas.Option.{same_Some, slice_get-get_or}
use Rattle.wasm_execution.specs.declared.integer.IntegerType.{IntegerType}
use Rattle.rewrite_rules.specs.declared.pattern.Part.{Part}
use Rattle.wasm_execution.specs.declared.operation.Operation.TheVariants as operation
use Rattle.rewrite_rules.specs.declared.pattern.Number.{Number}
use Rattle.rewrite_rules.specs.declared.pattern.Operator.TheVariants as operator
use Rattle.rewrite_rules.specs.declared.pattern.Part.TheVariants.{Hole, Apply}
use Rattle.rewrite_rules.specs.declared.pattern.Part.TheVariants as part
use Rattle.rewrite_rules.specs.declared.table.Step.{Step}
use Rattle.rewrite_rules.specs.declared.table.Step.TheVariants.{Operand, Constant, Drawn, Binary, Compare, Eqz, Select, Whole, Exact, End}
use Rattle.rewrite_rules.specs.Table.{part_for, up_to_none, parts_for}
use Rattle.body_rewrites.specs.declared.root.Root.TheVariants as root
use Rattle.body_rewrites.specs.Matching.{is_hole, is_slot, is_slot_number}
use Rattle.body_rewrites.specs.Roots.{part_root, step_root, first_root}

module _ (t : IntegerType) where
  pub few_parts : (steps : List Step) → length (parts_for t steps) ≤ length steps
  few_parts [] = omega arith
  few_parts (End ∷ steps) = omega arith
  few_parts (Operand n ∷ steps) = let l = few_parts steps in omega arith
  few_parts (Constant e ∷ steps) = let l = few_parts steps in omega arith
  few_parts (Drawn ∷ steps) = let l = few_parts steps in omega arith
  few_parts (Binary f ∷ steps) = let l = few_parts steps in omega arith
  few_parts (Compare f ∷ steps) = let l = few_parts steps in omega arith
  few_parts (Eqz ∷ steps) = let l = few_parts steps in omega arith
  few_parts (Select ∷ steps) = let l = few_parts steps in omega arith
  few_parts (Whole f ∷ steps) = let l = few_parts steps in omega arith
  few_parts (Exact m i ∷ steps) = let l = few_parts steps in omega arith

  part_there : (steps : List Step) (k : ℕ) (d : Step) → k < length (parts_for t steps) → slice_get (parts_for t steps) k ≡ part_for t (slice_index_or steps k d)
  part_there [] k d l = absurd (omega arith)
  part_there (End ∷ steps) k d l = absurd (omega arith)
  part_there (Operand n ∷ steps) zero d l = refl
  part_there (Constant e ∷ steps) zero d l = refl
  part_there (Drawn ∷ steps) zero d l = refl
  part_there (Binary f ∷ steps) zero d l = refl
  part_there (Compare f ∷ steps) zero d l = refl
  part_there (Eqz ∷ steps) zero d l = refl
  part_there (Select ∷ steps) zero d l = refl
  part_there (Whole f ∷ steps) zero d l = refl
  part_there (Exact m i ∷ steps) zero d l = refl
  part_there (Operand n ∷ steps) (suc k) d l = part_there steps k d (omega arith)
  part_there (Constant e ∷ steps) (suc k) d l = part_there steps k d (omega arith)
  part_there (Drawn ∷ steps) (suc k) d l = part_there steps k d (omega arith)
  part_there (Binary f ∷ steps) (suc k) d l = part_there steps k d (omega arith)
  part_there (Compare f ∷ steps) (suc k) d l = part_there steps k d (omega arith)
  part_there (Eqz ∷ steps) (suc k) d l = part_there steps k d (omega arith)
  part_there (Select ∷ steps) (suc k) d l = part_there steps k d (omega arith)
  part_there (Whole f ∷ steps) (suc k) d l = part_there steps k d (omega arith)
  part_there (Exact m i ∷ steps) (suc k) d l = part_there steps k d (omega arith)

reversed_at : (ps : List Part) (n : ℕ) → n < length ps → slice_get (reverse ps) n ≡ slice_get ps (length ps - 1 - n)
reversed_at ps n l =
    slice_get-get_or (reverse ps) n (Hole 0) (omega (arith, length-reverse ps, l))
    ∙ (ap (λ p. Some p) (get_or-reverse ps n (Hole 0) l) ∙ sym (slice_get-get_or ps (length ps - 1 - n) (Hole 0) (omega (arith, l))))

-- the part with the number, from the last one on, is that of its step
pub part_from_end : (t : IntegerType) (steps : List Step) (count n : ℕ) (d : Step) → count ≡ length (parts_for t steps) →
    n < length (reverse (parts_for t steps)) →
    slice_get (reverse (parts_for t steps)) n ≡ part_for t (slice_index_or steps (count - 1 - n) d)
part_from_end t steps count n d e l =
    let inside : n < length (parts_for t steps) = omega (arith, length-reverse (parts_for t steps), l) in
    reversed_at (parts_for t steps) n inside
    ∙ (ap (λ k. slice_get (parts_for t steps) (k - 1 - n)) (sym e) ∙ part_there t steps (count - 1 - n) d (omega (arith, e, inside)))

-- ---- by its step

pub step_from_end : (t : IntegerType) (steps : List Step) (count n : ℕ) (d : Step) (ps : List Part) (p : Part) → reverse (parts_for t steps) ≡ ps →
    count ≡ length (parts_for t steps) → n < length ps → slice_get ps n ≡ Some p → part_for t (slice_index_or steps (count - 1 - n) d) ≡ Some p
step_from_end t steps count n d ps p are e l there =
    sym (part_from_end t steps count n d e (subst (λ (qs : List Part). n < length qs) (sym are) l))
    ∙ (ap (λ (qs : List Part). slice_get qs n) are ∙ there)

module _ (t : IntegerType) where
  pub hole_step : (s : Step) (n index : ℕ) (p : Part) → s ≡ Operand n → part_for t s ≡ Some p → (n == index) ≡ is_hole p index
  hole_step s n index p e h = ap (λ q. is_hole q index) (same_Some (Hole n) p (ap (part_for t) (sym e) ∙ h))

  pub no_hole_step : (s : Step) (index : ℕ) (p : Part) → ((n : ℕ) → s ≡ Operand n → ⊥) → part_for t s ≡ Some p → false ≡ is_hole p index
  no_hole_step (Operand n) index p others h = absurd (others n refl)
  no_hole_step (Constant e) index p others h = ap (λ q. is_hole q index) (same_Some (part.Constant t e) p h)
  no_hole_step Drawn index p others h = ap (λ q. is_hole q index) (same_Some (part.Drawn t) p h)
  no_hole_step (Binary f) index p others h = ap (λ q. is_hole q index) (same_Some (Apply (operator.Whole (operation.Binary t f))) p h)
  no_hole_step (Compare f) index p others h = ap (λ q. is_hole q index) (same_Some (Apply (operator.Whole (operation.Compare t f))) p h)
  no_hole_step Eqz index p others h = ap (λ q. is_hole q index) (same_Some (Apply (operator.Whole (operation.Eqz t))) p h)
  no_hole_step Select index p others h = ap (λ q. is_hole q index) (same_Some (Apply operator.Select) p h)
  no_hole_step (Whole f) index p others h = ap (λ q. is_hole q index) (same_Some (Apply (operator.Whole f)) p h)
  no_hole_step (Exact m i) index p others h = ap (λ q. is_hole q index) (same_Some (Apply (operator.Exact m i)) p h)
  no_hole_step End index p others h = absurd cc

  pub slot_step : (s : Step) (e : Number) (index : ℕ) (p : Part) → s ≡ Constant e → part_for t s ≡ Some p → is_slot_number e index ≡ is_slot p index
  slot_step s e index p is h = ap (λ q. is_slot q index) (same_Some (part.Constant t e) p (ap (part_for t) (sym is) ∙ h))

  pub no_slot_step : (s : Step) (index : ℕ) (p : Part) → ((e : Number) → s ≡ Constant e → ⊥) → part_for t s ≡ Some p → false ≡ is_slot p index
  no_slot_step (Operand n) index p others h = ap (λ q. is_slot q index) (same_Some (Hole n) p h)
  no_slot_step (Constant e) index p others h = absurd (others e refl)
  no_slot_step Drawn index p others h = ap (λ q. is_slot q index) (same_Some (part.Drawn t) p h)
  no_slot_step (Binary f) index p others h = ap (λ q. is_slot q index) (same_Some (Apply (operator.Whole (operation.Binary t f))) p h)
  no_slot_step (Compare f) index p others h = ap (λ q. is_slot q index) (same_Some (Apply (operator.Whole (operation.Compare t f))) p h)
  no_slot_step Eqz index p others h = ap (λ q. is_slot q index) (same_Some (Apply (operator.Whole (operation.Eqz t))) p h)
  no_slot_step Select index p others h = ap (λ q. is_slot q index) (same_Some (Apply operator.Select) p h)
  no_slot_step (Whole f) index p others h = ap (λ q. is_slot q index) (same_Some (Apply (operator.Whole f)) p h)
  no_slot_step (Exact m i) index p others h = ap (λ q. is_slot q index) (same_Some (Apply (operator.Exact m i)) p h)
  no_slot_step End index p others h = absurd cc

  -- ---- how many there are

  pub ends_here : (steps : List Step) (i : ℕ) (d : Step) → i < length steps → slice_index_or steps i d ≡ End → parts_for t (drop i steps) ≡ []
  ends_here [] i d l e = absurd (omega arith)
  ends_here (s ∷ steps) zero d l e = ap (λ o. up_to_none (o ∷ map (part_for t) steps)) (ap (part_for t) e)
  ends_here (s ∷ steps) (suc i) d l e = ends_here steps i d (omega arith) e

  one_part : (s : Step) (steps : List Step) → (s ≡ End → ⊥) → length (parts_for t (s ∷ steps)) ≡ suc (length (parts_for t steps))
  one_part (Operand n) steps others = refl
  one_part (Constant e) steps others = refl
  one_part Drawn steps others = refl
  one_part (Binary f) steps others = refl
  one_part (Compare f) steps others = refl
  one_part Eqz steps others = refl
  one_part Select steps others = refl
  one_part (Whole f) steps others = refl
  one_part (Exact m i) steps others = refl
  one_part End steps others = absurd (others refl)

  pub one_part_more : (steps : List Step) (i : ℕ) (d : Step) → i < length steps → (slice_index_or steps i d ≡ End → ⊥) →
      length (parts_for t (drop i steps)) ≡ suc (length (parts_for t (drop (i + 1) steps)))
  one_part_more [] i d l others = absurd (omega arith)
  one_part_more (s ∷ steps) zero d l others = one_part s steps others
  one_part_more (s ∷ steps) (suc i) d l others =
      one_part_more steps i d (omega arith) others
      ∙ ap (λ j. suc (length (parts_for t (drop j (s ∷ steps))))) (let e : suc (i + 1) ≡ suc i + 1 = omega arith in e)

  -- ---- the root of the last one

  root_is : (s : Step) (p : Part) → part_for t s ≡ Some p → step_root t s ≡ part_root p
  root_is (Operand n) p h = ap part_root (same_Some (Hole n) p h)
  root_is (Constant e) p h = ap part_root (same_Some (part.Constant t e) p h)
  root_is Drawn p h = ap part_root (same_Some (part.Drawn t) p h)
  root_is (Binary f) p h = ap part_root (same_Some (Apply (operator.Whole (operation.Binary t f))) p h)
  root_is (Compare f) p h = ap part_root (same_Some (Apply (operator.Whole (operation.Compare t f))) p h)
  root_is Eqz p h = ap part_root (same_Some (Apply (operator.Whole (operation.Eqz t))) p h)
  root_is Select p h = ap part_root (same_Some (Apply operator.Select) p h)
  root_is (Whole f) p h = ap part_root (same_Some (Apply (operator.Whole f)) p h)
  root_is (Exact m i) p h = ap part_root (same_Some (Apply (operator.Exact m i)) p h)
  root_is End p h = absurd cc

  -- that of the step before the end
  pub last_root : (steps : List Step) (count : ℕ) (d : Step) → count ≡ length (parts_for t steps) → (count ≡ 0 → ⊥) →
      step_root t (slice_index_or steps (count - 1) d) ≡ first_root (reverse (parts_for t steps))
  last_root steps count d e some =
      let long = length-reverse (parts_for t steps) in
      let at : count - 1 - 0 ≡ count - 1 = omega arith in
      let inside : 0 < length (reverse (parts_for t steps)) = pos count some (omega (arith, e, long)) in
      go (reverse (parts_for t steps)) inside
      (part_from_end t steps count 0 d e inside ∙ ap (λ k. part_for t (slice_index_or steps k d)) at)
    where
      pos : (n : ℕ) → (n ≡ 0 → ⊥) → n ≡ length (reverse (parts_for t steps)) → 0 < length (reverse (parts_for t steps))
      pos zero others same = absurd (others refl)
      pos (suc n) others same = omega (arith, same)

      go : (ps : List Part) → 0 < length ps → slice_get ps 0 ≡ part_for t (slice_index_or steps (count - 1) d) →
          step_root t (slice_index_or steps (count - 1) d) ≡ first_root ps
      go [] l h = absurd (omega arith)
      go (p ∷ ps) l h = root_is (slice_index_or steps (count - 1) d) p (sym h)

  -- none is there
  pub no_root : (steps : List Step) (count : ℕ) → count ≡ length (parts_for t steps) → count ≡ 0 → root.Any ≡ first_root (reverse (parts_for t steps))
  no_root steps count e none = go (reverse (parts_for t steps)) (length-reverse (parts_for t steps) ∙ (sym e ∙ none))
    where
      go : (ps : List Part) → length ps ≡ 0 → root.Any ≡ first_root ps
      go [] h = refl
      go (p ∷ ps) h = absurd (omega arith)
