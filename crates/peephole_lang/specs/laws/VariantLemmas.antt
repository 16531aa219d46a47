-- Which variant a text is of: at most one, the one that is found.
use Rattle.std.proofs.Common.{◌≡◌, ◌≢◌, ℕ, zero, suc, ◌+◌, ◌<◌, ◌≤◌, Bool, true, false, cond, eqb, List, [], ◌∷◌, ◌++◌}
use Rattle.std.proofs.Common.{length, get_or, Option, Some, None, IsSome, refl, sym, ap, ◌∙◌, subst, inl, inr, arith}
use Rattle.std.specs.Prelude.{slice_get, is_some, codes}
use Rattle.std.specs.Option.{option_map, unwrap_or}
use Rattle.std.specs.List.{Contains}
use Rattle.std.specs.List.Sorted.{IsNonDecreasingBy}
use Rattle.std.specs.Ordering.{is_eq, ordering_index}
use Rattle.std.specs.declared.cmp.Ordering.{Ordering}
use Rattle.std.specs.declared.cmp.Ordering.TheVariants.{Less, Equal, Greater}
use Rattle.std.proofs.lemmas.Bool.{cases_order}
use Rattle.std.proofs.lemmas.Option.{same_Some, slice_get-get_or}
use Rattle.std.proofs.lemmas.List.Sorted.{IsNonDecreasingBy-from_all_adjacent}
use Rattle.peephole_nodes.specs.declared.payload.PayloadKind.{PayloadKind}
use Rattle.peephole_nodes.specs.declared.payload.PayloadKind.TheVariants as kind
use Rattle.peephole_lang.specs.declared.names.TheConstants.{BY_FRONT}
use Rattle.peephole_nodes.specs.Variants.{Variant, variants, variant_at}
use Rattle.peephole_lang.specs.Names.{rest_after, behind_name, found_or, find_in}
use Rattle.peephole_lang.specs.Fronts.{front_order}
use Rattle.peephole_nodes.specs.Fronts.{dot_of, variant_front_of, front_at}
use Rattle.peephole_lang.specs.laws.FrontLemmas.{standing_is, may_follow, equal_is, above}
use Rattle.peephole_lang.specs.laws.TableLemmas.{place_is, has_payload, dot_with_payload, StandsAt, is_listed, rises}

-- the text of the payload, where the text is of the variant
abbrev pub fit : Variant → List ℕ → Option (List ℕ)
fit v text = behind_name v.payload (rest_after v.name text)

-- ---- a text is of a variant where the variant's front stands `Equal` to it

-- what stands behind a second front
behind : List ℕ → Option (List ℕ) → Option (List ℕ)
behind more None = None
behind more (Some text) = rest_after more text

behind_same : (same : Bool) (more : List ℕ) (x y : Option (List ℕ)) → x ≡ behind more y → cond same x None ≡ behind more (cond same y None)
unfolding behind
behind_same true more x y e = e
behind_same false more x y e = refl

after_both : (front more text : List ℕ) → rest_after (front ++ more) text ≡ behind more (rest_after front text)
unfolding behind
after_both [] more text = refl
after_both (c ∷ front) more [] = refl
after_both (c ∷ front) more (d ∷ text) = behind_same (eqb c d) more _ _ (after_both front more text)

all_may_follow : (rest : Option (List ℕ)) → is_some rest ≡ may_follow true rest
unfolding may_follow
all_may_follow None = refl
all_may_follow (Some []) = refl
all_may_follow (Some (c ∷ rest)) = refl

fits_by_kind : (k : PayloadKind) (rest : Option (List ℕ)) → is_some (behind_name k rest) ≡ may_follow (has_payload k) (behind (dot_of k) rest)
unfolding behind may_follow has_payload
fits_by_kind kind.Nothing None = refl
fits_by_kind kind.Nothing (Some []) = refl
fits_by_kind kind.Nothing (Some (c ∷ rest)) = refl
fits_by_kind _ None = refl
fits_by_kind _ (Some rest) = all_may_follow (rest_after (codes ".") rest)

pub fits_where_equal : (k : ℕ) (v : Variant) (text : List ℕ) → variant_at k ≡ Some v → is_some (fit v text) ≡ is_eq (front_order (variant_front_of v) text)
fits_where_equal k v text at =
    fits_by_kind v.payload (rest_after v.name text)
    ∙ ap (may_follow (has_payload v.payload)) (sym (after_both v.name (dot_of v.payload) text))
    ∙ ap (λ ends. may_follow ends (rest_after (variant_front_of v) text)) (sym (dot_with_payload k v at))
    ∙ sym (equal_is 0 (variant_front_of v) text)
    ∙ ap is_eq (sym (standing_is (variant_front_of v) text))

rest_by_kind : (k : PayloadKind) (rest : Option (List ℕ)) (payload_text : List ℕ)
    → behind_name k rest ≡ Some payload_text → behind (dot_of k) rest ≡ Some payload_text
unfolding behind
rest_by_kind kind.Nothing None payload_text e = e
rest_by_kind kind.Nothing (Some []) payload_text e = e
rest_by_kind kind.Nothing (Some (c ∷ rest)) payload_text e = absurd cc
rest_by_kind _ None payload_text e = e
rest_by_kind _ (Some rest) payload_text e = e

-- the text of the payload stands behind the variant's front
pub behind_front : (v : Variant) (text payload_text : List ℕ) → fit v text ≡ Some payload_text → rest_after (variant_front_of v) text ≡ Some payload_text
behind_front v text payload_text e = after_both v.name (dot_of v.payload) text ∙ rest_by_kind v.payload (rest_after v.name text) payload_text e

-- ---- no two fronts stand `Equal` to a text

is_equal : (o : Ordering) → is_eq o ≡ true → o ≡ Equal
is_equal Less e = absurd cc
is_equal Equal e = refl
is_equal Greater e = absurd cc

rank_rises : (o p : Ordering) → (o ≢ Less → p ≡ Greater) → ordering_index o ≤ ordering_index p
rank_rises Less p up = omega arith
rank_rises Equal p up = rw (up (λ e. absurd cc)) (omega arith)
rank_rises Greater p up = rw (up (λ e. absurd cc)) (omega arith)

next_above : (text : List ℕ) (k d : ℕ) → k + 1 < length BY_FRONT
    → front_order (front_at (get_or BY_FRONT k d)) text ≢ Less → front_order (front_at (get_or BY_FRONT (k + 1) d)) text ≡ Greater
next_above text k d lt stays =
    standing_is _ text ∙ above 0 _ _ text (rises k d lt) (λ less. stays (standing_is _ text ∙ less))

-- along the places by front, the standings rise
pub standings_rise : (text : List ℕ) → IsNonDecreasingBy (λ place. ordering_index (front_order (front_at place) text)) BY_FRONT
standings_rise text =
    IsNonDecreasingBy-from_all_adjacent (λ place. ordering_index (front_order (front_at place) text)) BY_FRONT
    (λ k d lt. rank_rises _ _ (next_above text k d lt))

equal_not_less : (o : Ordering) → o ≡ Equal → o ≢ Less
equal_not_less o equal less = let clash : Equal ≡ Less = sym equal ∙ less in absurd cc

-- where the front at that index stands against the text
abbrev pub standing_at : List ℕ → ℕ → Ordering
standing_at text i = front_order (front_at (get_or BY_FRONT i 0)) text

later_is_greater : (text : List ℕ) (i j : ℕ) → i < j → j < length BY_FRONT → standing_at text i ≡ Equal → standing_at text j ≡ Equal → ⊥
later_is_greater text i j lt within first second =
    let next = next_above text i 0 (omega arith) (equal_not_less _ first) in
    let far = standings_rise text (i + 1) j 0 (omega arith) within in
    let from : 2 ≤ ordering_index (standing_at text j) = subst (λ o. ordering_index o ≤ ordering_index (standing_at text j)) next far in
    let to : ordering_index (standing_at text j) ≡ 1 = ap ordering_index second in
    absurd (omega arith)

one_index : (text : List ℕ) (i j : ℕ) → i < length BY_FRONT → j < length BY_FRONT → standing_at text i ≡ Equal → standing_at text j ≡ Equal → i ≡ j
one_index text i j li lj first second = elim (cases_order i j) [
  | inl same ↦ same
  | inr differs ↦ elim differs [
    | inl lower ↦ absurd (later_is_greater text i j lower lj first second)
    | inr higher ↦ absurd (later_is_greater text j i higher li second first)
  ]
]

-- ---- at most one variant fits a text

own_front : (k : ℕ) (v : Variant) → variant_at k ≡ Some v → front_at v.place ≡ variant_front_of v
own_front k v at = ap front_at (place_is k v at) ∙ ap (λ found. unwrap_or (option_map variant_front_of found) []) at

-- where the variant's place stands among the places by front, and that its front stands `Equal` to the text there
abbrev pub StandsEqual : Variant → List ℕ → Type 0
StandsEqual v text = (s : StandsAt v.place BY_FRONT) × (standing_at text s.0 ≡ Equal)

pub stands_equal : (k : ℕ) (v : Variant) (text : List ℕ) → variant_at k ≡ Some v → IsSome (fit v text) → StandsEqual v text
stands_equal k v text at fits =
    let s = is_listed k v at in
    let front : front_at (get_or BY_FRONT s.0 0) ≡ variant_front_of v = ap front_at s.2 ∙ own_front k v at in
    (s, ap (λ f. front_order f text) front ∙ is_equal _ (sym (fits_where_equal k v text at) ∙ fits))

one_at : (i j : ℕ) (v w : Variant) (text : List ℕ) → variant_at i ≡ Some v → variant_at j ≡ Some w → IsSome (fit v text) → IsSome (fit w text) → v ≡ w
one_at i j v w text at_v at_w fits_v fits_w =
    let p = stands_equal i v text at_v fits_v in
    let q = stands_equal j w text at_w fits_w in
    let same : p.0.0 ≡ q.0.0 = one_index text p.0.0 q.0.0 p.0.1 q.0.1 p.1 q.1 in
    let place : i ≡ j = sym (place_is i v at_v) ∙ sym p.0.2 ∙ ap (λ k. get_or BY_FRONT k 0) same ∙ q.0.2 ∙ place_is j w at_w in
    same_Some v w (sym at_v ∙ ap variant_at place ∙ at_w)

pub contained_at : (vs : List Variant) (v : Variant) → (c : Contains vs v) → slice_get vs c.0 ≡ Some v
contained_at vs v c = slice_get-get_or vs c.0 v c.1 ∙ ap (λ w. Some w) c.2

pub one_variant : (v w : Variant) (text : List ℕ) → Contains variants v → Contains variants w → IsSome (behind_name v.payload (rest_after v.name text))
    → IsSome (behind_name w.payload (rest_after w.name text)) → v ≡ w
one_variant v w text of_v of_w fits_v fits_w = one_at of_v.0 of_w.0 v w text (contained_at variants v of_v) (contained_at variants w of_w) fits_v fits_w

-- ---- the variant that is found

-- of these variants, the text fits that one alone
abbrev FitsAlone : List Variant → Variant → List ℕ → Type 0
FitsAlone vs v text = (k : ℕ) (w : Variant) → slice_get vs k ≡ Some w → IsSome (fit w text) → w ≡ v

found_first : (o : Option (List ℕ)) (vs : List Variant) (k : ℕ) (first v : Variant) (text rest : List ℕ) → fit first text ≡ o
    → FitsAlone (first ∷ vs) v text → fit v text ≡ Some rest → slice_get (first ∷ vs) k ≡ Some v
    → ((k : ℕ) → slice_get vs k ≡ Some v → find_in vs text ≡ Some (v, rest)) → found_or first o (find_in vs text) ≡ Some (v, rest)
found_first (Some r) vs k first v text rest is alone fits at more =
    let same : first ≡ v = alone zero first refl (ap is_some is) in
    let rest_is : r ≡ rest = same_Some r rest (sym is ∙ ap (λ w. fit w text) same ∙ fits) in
    let at_v : ◌≡◌ {A = Option (Variant × List ℕ)} (Some (first, r)) (Some (v, r)) = ap (λ w. let x : Option (Variant × List ℕ) = Some (w, r) in x) same in
    at_v ∙ ap (λ t. let x : Option (Variant × List ℕ) = Some (v, t) in x) rest_is
found_first None vs zero first v text rest is alone fits at more =
    let clash : None ≡ Some rest = sym is ∙ ap (λ w. fit w text) (same_Some first v at) ∙ fits in
    absurd cc
found_first None vs (suc k) first v text rest is alone fits at more = more k at

found_alone : (vs : List Variant) (k : ℕ) (v : Variant) (text rest : List ℕ) → FitsAlone vs v text → fit v text ≡ Some rest → slice_get vs k ≡ Some v
    → find_in vs text ≡ Some (v, rest)
found_alone [] k v text rest alone fits at = absurd cc
found_alone (first ∷ vs) k v text rest alone fits at =
    found_first (fit first text) vs k first v text rest refl alone fits at (λ k at. found_alone vs k v text rest (λ j w at. alone (suc j) w at) fits at)

pub found_at : (k : ℕ) (v : Variant) (text rest : List ℕ) → variant_at k ≡ Some v → fit v text ≡ Some rest → find_in variants text ≡ Some (v, rest)
found_at k v text rest at fits = found_alone variants k v text rest (λ j w at_w fits_w. one_at j k w v text at_w at fits_w (ap is_some fits)) fits at

-- the text fits the variant that is found, and what stands behind is the text of its payload
abbrev pub Found : List Variant → List ℕ → Variant × List ℕ → Type 0
Found vs text x = (k : ℕ) × (slice_get vs k ≡ Some x.0) × (fit x.0 text ≡ Some x.1)

found_or_later : (o : Option (List ℕ)) (first : Variant) (vs : List Variant) (text : List ℕ) (x : Variant × List ℕ) → fit first text ≡ o
    → found_or first o (find_in vs text) ≡ Some x
    → (find_in vs text ≡ Some x → Found vs text x) → Found (first ∷ vs) text x
found_or_later (Some r) first vs text x is e later =
    let same : (first, r) ≡ x = same_Some (first, r) x e in
    (zero, ap (λ y. Some y.0) same, ap (λ y. fit y.0 text) (sym same) ∙ is ∙ ap (λ y. Some y.1) same)
found_or_later None first vs text x is e later = let f = later e in (suc f.0, f.1, f.2)

found_fits : (vs : List Variant) (text : List ℕ) (x : Variant × List ℕ) → find_in vs text ≡ Some x → Found vs text x
found_fits [] text x e = absurd cc
found_fits (first ∷ vs) text x e = found_or_later (fit first text) first vs text x refl e (found_fits vs text x)

pub found_is : (text : List ℕ) (x : Variant × List ℕ) → find_in variants text ≡ Some x → Found variants text x
found_is text x e = found_fits variants text x e

-- a text that fits no variant is of none
none_found : (vs : List Variant) (text : List ℕ) → ((k : ℕ) (v : Variant) → slice_get vs k ≡ Some v → fit v text ≡ None) → find_in vs text ≡ None
none_found [] text none = refl
none_found (v ∷ vs) text none = ap (λ o. found_or v o (find_in vs text)) (none zero v refl) ∙ none_found vs text (λ k. none (suc k))

pub not_found : (text : List ℕ) → ((k : ℕ) (v : Variant) → variant_at k ≡ Some v → fit v text ≡ None) → find_in variants text ≡ None
not_found text none = none_found variants text none
