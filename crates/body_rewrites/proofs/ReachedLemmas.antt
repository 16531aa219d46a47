-- Which operators of a body rules reach.
use Rattle.std.proofs.Common.{◌≡◌, ℕ, zero, suc, ◌+◌, ◌<◌, ◌⊎◌, inl, inr, Bool, true, false, List, [], ◌∷◌, ◌++◌, length, map, Some, refl}
use Rattle.std.proofs.Common.{sym, ap, subst, ◌∙◌, arith, length-append}
use Rattle.std.specs.Prelude.{Contains, slice_get, if◌then◌else◌}
use Rattle.std.proofs.lemmas.Bool.{cases_eq, false≢true}
use Rattle.std.proofs.lemmas.List.Elements.{Contains-append_cases}
use Rattle.std.proofs.lemmas.Option.{same_Some, slice_get_within}
use Rattle.wasm_code.specs.declared.operator.Operator.{Operator}
use Rattle.wasm_execution.specs.declared.integer.IntegerType.{IntegerType}
use Rattle.wasm_execution.specs.Values.{Context}
use Rattle.rewrite_rules.specs.declared.rule.Rule.{Rule}
use Rattle.rewrite_rules.specs.declared.table.Row.{Row}
use Rattle.rewrite_rules.specs.Table.{ROWS}
use Rattle.body_rewrites.specs.declared.found.Found.{Found}
use Rattle.body_rewrites.specs.declared.growth.Growth.{Growth}
use Rattle.body_rewrites.specs.declared.rewrite.Rewrite.{Rewrite}
use Rattle.body_rewrites.specs.Rewrites.{IsMade, asked_widths, by_rows}
use Rattle.body_rewrites.specs.Listing.{IsWantedBy, OneChange, AreFound, AreRules, found_as, is_wanted}
use Rattle.body_rewrites.specs.Reached.{IsReached, OperatorIsMarked, AreReachedBelow, has_wanted}
use Rattle.body_rewrites.specs.ThoseLemmas.{head_contained, tail_contained, contained_cases}
use Rattle.body_rewrites.proofs.ListingLemmas.{is_wanted_to, is_wanted_from}
use Rattle.body_rewrites.proofs.HasWordsLemmas.{made_is_here}

-- ---- of which operator they are

in_map : (at number : ℕ) (ws : List IntegerType) (r : Rewrite) →
    Contains (map (λ (width : IntegerType). let made : Rewrite = record { operator = at; row = number; width = width } in made) ws) r → r.operator ≡ at
in_map at number [] r h = absurd (let l : h.0 < 0 = h.1 in omega arith)
in_map at number (w ∷ ws) r h =
    elim (contained_cases (record { operator = at; row = number; width = w })
    (map (λ (width : IntegerType). let made : Rewrite = record { operator = at; row = number; width = width } in made) ws) r h) [
      | inl e ↦ ap (λ (x : Rewrite). x.operator) (sym e)
      | inr c ↦ in_map at number ws r c
    ]

its_operator : (at number : ℕ) (rows : List Row) (r : Rewrite) → Contains (by_rows at number rows) r → r.operator ≡ at
its_operator at number [] r h = absurd (let l : h.0 < 0 = h.1 in omega arith)
its_operator at number (row ∷ rows) r h =
    elim (Contains-append_cases (map (λ (width : IntegerType). let made : Rewrite = record { operator = at; row = number; width = width } in made)
    (asked_widths row.widths)) (by_rows at (suc number) rows) r h) [
      | inl c ↦ in_map at number (asked_widths row.widths) r c
      | inr c ↦ its_operator at (suc number) rows r c
    ]

module _ (context : Context) (operators : List (Operator × ℕ)) (rows : List ℕ) (are : AreRules rows) (rules : List Rule) (wanted : List Growth)
    (law : OneChange) where
  -- ---- one that is found

  found_cases : (f : Found) (fs : List Found) (b : Bool) → is_wanted rows rules wanted f ≡ b → has_wanted rows rules wanted (f ∷ fs) ≡ true →
      (is_wanted rows rules wanted f ≡ true) ⊎ (has_wanted rows rules wanted fs ≡ true)
  found_cases f fs true e h = inl e
  found_cases f fs false e h = inr (ap (λ c. if c then true else has_wanted rows rules wanted fs) (sym e) ∙ h)

  found_first : (f : Found) (fs : List Found) → is_wanted rows rules wanted f ≡ true → has_wanted rows rules wanted (f ∷ fs) ≡ true
  found_first f fs e = ap (λ c. if c then true else has_wanted rows rules wanted fs) e

  found_later : (f : Found) (fs : List Found) (b : Bool) → is_wanted rows rules wanted f ≡ b → has_wanted rows rules wanted fs ≡ true →
      has_wanted rows rules wanted (f ∷ fs) ≡ true
  found_later f fs true e h = found_first f fs e
  found_later f fs false e h = ap (λ c. if c then true else has_wanted rows rules wanted fs) e ∙ h

  has_to : (items : List Rewrite) (found : List Found) → AreFound context operators items found → has_wanted rows rules wanted found ≡ true →
      (r : Rewrite) × Contains items r × IsWantedBy context operators rules wanted r
  has_to [] found e h = absurd (false≢true (ap (has_wanted rows rules wanted) (sym e) ∙ h))
  has_to (x ∷ items) found (inl (kind, has, rest, e, more)) h =
      elim (found_cases (found_as x kind) rest (is_wanted rows rules wanted (found_as x kind)) refl (ap (has_wanted rows rules wanted) (sym e) ∙ h)) [
        | inl is ↦ (x, head_contained x items, is_wanted_to context operators rows are rules wanted x kind has is)
        | inr later ↦ let (r, among, by) = has_to items rest more later in (r, tail_contained x items r among, by)
      ]
  has_to (x ∷ items) found (inr (never, more)) h = let (r, among, by) = has_to items found more h in (r, tail_contained x items r among, by)

  has_from : (items : List Rewrite) (found : List Found) → AreFound context operators items found → (r : Rewrite) → Contains items r →
      IsWantedBy context operators rules wanted r → has_wanted rows rules wanted found ≡ true
  has_from [] found e r c by = absurd (let l : c.0 < 0 = c.1 in omega arith)
  has_from (x ∷ items) found (inl (kind, has, rest, e, more)) r c by =
      ap (has_wanted rows rules wanted) e ∙ elim (contained_cases x items r c) [
        | inl same ↦ found_first (found_as x kind) rest
            (is_wanted_from context operators rows are rules wanted law x kind has
            (subst (λ (y : Rewrite). IsWantedBy context operators rules wanted y) (sym same) by))
        | inr d ↦ found_later (found_as x kind) rest (is_wanted rows rules wanted (found_as x kind)) refl (has_from items rest more r d by)
      ]
  has_from (x ∷ items) found (inr (never, more)) r c by = elim (contained_cases x items r c) [
    | inl same ↦ absurd (never (subst (λ (y : Rewrite). IsMade context operators y) (sym same) (by.has.change, by.has.made)))
    | inr d ↦ has_from items found more r d by
  ]

  -- ---- one operator more

  get_cases : (xs : List Bool) (b : Bool) (n : ℕ) → slice_get (xs ++ b ∷ []) n ≡ Some true → (slice_get xs n ≡ Some true) ⊎ ((n ≡ length xs) × (b ≡ true))
  get_cases [] b zero e = inr (refl, same_Some b true e)
  get_cases [] b (suc n) e = absurd cc
  get_cases (x ∷ xs) b zero e = inl e
  get_cases (x ∷ xs) b (suc n) e = elim (get_cases xs b n e) [ inl h ↦ inl h | inr h ↦ inr (ap (λ k. suc k) h.0, h.1) ]

  get_early : (xs : List Bool) (b : Bool) (n : ℕ) → slice_get xs n ≡ Some true → slice_get (xs ++ b ∷ []) n ≡ Some true
  get_early [] b n e = absurd cc
  get_early (x ∷ xs) b zero e = e
  get_early (x ∷ xs) b (suc n) e = get_early xs b n e

  get_last : (xs : List Bool) (b : Bool) (n : ℕ) → length xs ≡ n → b ≡ true → slice_get (xs ++ b ∷ []) n ≡ Some true
  get_last [] b n e t = ap (λ k. slice_get (b ∷ []) k) (sym e) ∙ ap (λ c. Some c) t
  get_last (x ∷ xs) b zero e t = absurd (omega arith)
  get_last (x ∷ xs) b (suc n) e t = get_last xs b n (omega arith) t

  module _ (at : ℕ) (inside : at < length operators) (found : List Found) (here : AreFound context operators (by_rows at 0 ROWS) found)
      (marks new : List Bool) (next : new ≡ marks ++ has_wanted rows rules wanted found ∷ []) (before :
      AreReachedBelow context operators rules wanted at marks) where
    marked_to : (n : ℕ) → n < at + 1 → OperatorIsMarked new n → IsReached context operators rules wanted n
    marked_to n l m = elim (get_cases marks (has_wanted rows rules wanted found) n (ap (λ zs. slice_get zs n) (sym next) ∙ m)) [
      | inl early ↦ (let less = slice_get_within marks n true early in (before.each n (let e = before.count in omega arith)).0 early)
      | inr (e, by) ↦
          let (r, among, is) = has_to (by_rows at 0 ROWS) found here by in
          let same : n ≡ at = e ∙ before.count in
          record {
            inside = subst (λ k. k < length operators) (sym same) inside;
            rewrite = r;
            at_is =
                its_operator at 0 ROWS r among ∙ sym same;
            is_wanted = is;
          }
    ]

    marked_from : (n : ℕ) → n < at + 1 → IsReached context operators rules wanted n → OperatorIsMarked new n
    marked_from n l h = ap (λ zs. slice_get zs n) next ∙ elim (cases_eq n at) [
      | inr other ↦
          let early : n < at = omega (arith, l, other) in
          get_early marks (has_wanted rows rules wanted found) n ((before.each n early).1 h)
      | inl same ↦
          (let is : h.rewrite.operator ≡ at = h.at_is ∙ same in
          get_last marks (has_wanted rows rules wanted found) n (before.count ∙ sym same)
          (has_from (by_rows at 0 ROWS) found here h.rewrite
          (subst (λ k. Contains (by_rows k 0 ROWS) h.rewrite) is (made_is_here context operators h.rewrite (h.is_wanted.has.change, h.is_wanted.has.made)))
          h.is_wanted))
    ]

    pub reached_more : AreReachedBelow context operators rules wanted (at + 1) new
    reached_more = record {
      count = ap length next ∙ (length-append marks (has_wanted rows rules wanted found ∷ []) ∙ ap (λ n. n + 1) before.count);
      each = λ n l. (marked_to n l, marked_from n l);
    }

  pub none_reached : (marks : List Bool) → marks ≡ [] → AreReachedBelow context operators rules wanted 0 marks
  none_reached marks e = record { count = ap length e; each = λ n l. absurd (omega arith) }
