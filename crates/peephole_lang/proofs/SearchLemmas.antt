-- What the search among the places by front finds.
use Rattle.std.proofs.Common.{◌≡◌, ℕ, ◌<◌, true, List, ◌++◌, length, get_or, [], ◌≢◌, Option, Some, None, Result}
use Rattle.std.proofs.Common.{Ok, Err, IsSome, refl, sym, ap, ◌∙◌, inl, inr, arith}
use Rattle.std.specs.Prelude.{is_some, MatchOption}
use Rattle.std.specs.Str.Pattern.{FindsTextPrefix, StripsPrefix}
use denote.Ref.{Bor}
use Rattle.std.specs.Option.{option_map, unwrap_or}
use Rattle.std.specs.Result.{result_ok}
use Rattle.std.specs.List.Sorted.{IsSearchInRange, IsBinarySearchResult}
use Rattle.std.specs.Ordering.{is_eq}
use Rattle.std.specs.declared.cmp.Ordering.TheVariants.{Less, Equal, Greater}
use Rattle.std.proofs.lemmas.Bool.{cases_lt}
use Rattle.std.proofs.lemmas.Option.{same_Some, MatchOption-at_some}
use Rattle.peephole_lang.specs.declared.names.TheConstants.{BY_FRONT}
use Rattle.peephole_lang.specs.declared.variants.VariantRow.{VariantRow}
use Rattle.peephole_nodes.specs.Variants.{Variant, variants, variant_at}
use Rattle.peephole_lang.specs.Names.{rest_after, find_in}
use Rattle.peephole_lang.specs.VariantRows.{variant_row, found, place_found}
use Rattle.peephole_lang.specs.Fronts.{front_order}
use Rattle.peephole_nodes.specs.Fronts.{variant_front_of, front_at}
use Rattle.peephole_lang.specs.laws.TableLemmas.{place_is, is_known}
use Rattle.peephole_lang.specs.laws.FrontLemmas.{after_is, after_none}
use Rattle.peephole_lang.specs.laws.VariantLemmas.{fit, fits_where_equal, standings_rise, standing_at, stands_equal, found_at, found_is}
use Rattle.peephole_lang.specs.laws.VariantLemmas.{not_found, behind_front}

-- ---- a place that is found

pub front_known : (place : ℕ) (v : Variant) → variant_at place ≡ Some v → front_at place ≡ variant_front_of v
front_known place v at = ap (λ known. unwrap_or (option_map variant_front_of known) []) at

fits_at : (o : Option (List ℕ)) (place : ℕ) (v : Variant) (text : List ℕ) → variant_at place ≡ Some v → fit v text ≡ o → is_some o ≡ true
    → Some place ≡ place_found (find_in variants text)
fits_at None place v text at is some = absurd cc
fits_at (Some rest) place v text at is some = sym (ap place_found (found_at place v text rest at is) ∙ ap (λ p. Some p) (place_is place v at))

stands_at : (o : Option Variant) (place : ℕ) (text : List ℕ) → variant_at place ≡ o → is_some o ≡ true → front_order (front_at place) text ≡ Equal
    → Some place ≡ place_found (find_in variants text)
stands_at None place text at some equal = absurd cc
stands_at (Some v) place text at some equal =
    let equal_there : front_order (variant_front_of v) text ≡ Equal = ap (λ front. front_order front text) (sym (front_known place v at)) ∙ equal in
    let fits : is_some (fit v text) ≡ true = fits_where_equal place v text at ∙ ap is_eq equal_there in
    fits_at (fit v text) place v text at refl fits

-- what a binary search among the places says
abbrev pub Searched : List ℕ → Result ℕ ℕ → Type 0
Searched text = IsBinarySearchResult (λ place. front_order (front_at place) text) BY_FRONT

-- the search ends where a front stands `Equal` to the text
pub searched_some : (text : List ℕ) (r : Result ℕ ℕ) → IsSearchInRange r (length BY_FRONT) → Searched text r → (i d : ℕ)
    → result_ok r ≡ Some i → Some (get_or BY_FRONT i d) ≡ place_found (find_in variants text)
searched_some text (Ok at) bound position i d e =
    ap (λ k. let x : Option ℕ = Some (get_or BY_FRONT k d) in x) (sym (same_Some at i e))
    ∙ stands_at (variant_at (get_or BY_FRONT at d)) (get_or BY_FRONT at d) text refl (is_known at d bound) (position d)
searched_some text (Err at) bound position i d e = absurd cc

not_less : Less ≡ Equal → ⊥
not_less e = absurd cc

not_greater : Greater ≡ Equal → ⊥
not_greater e = absurd cc

-- and else no front does
none_equal : (text : List ℕ) (at : ℕ) → Searched text (Err at) → (i : ℕ) → i < length BY_FRONT → standing_at text i ≢ Equal
none_equal text at position i lt equal =
    let parted = position (standings_rise text) in
    elim (cases_lt i at) [
      | inl below ↦ not_less (sym (parted.0 i 0 (omega arith) below) ∙ equal)
      | inr above ↦ not_greater (sym (parted.1 i 0 above lt) ∙ equal)
    ]

fits_none : (o : Option (List ℕ)) (text : List ℕ) (at k : ℕ) (v : Variant) → Searched text (Err at) → variant_at k ≡ Some v
    → fit v text ≡ o → fit v text ≡ None
fits_none None text at k v position known is = is
fits_none (Some rest) text at k v position known is =
    let s = stands_equal k v text known (ap is_some is) in
    absurd (none_equal text at position s.0.0 s.0.1 s.1)

pub searched_none : (text : List ℕ) (r : Result ℕ ℕ) → Searched text r → result_ok r ≡ None
    → None ≡ place_found (find_in variants text)
searched_none text (Ok at) position e = absurd cc
searched_none text (Err at) position e = ap place_found (sym (not_found text (λ k v known. fits_none (fit v text) text at k v position known refl)))

-- ---- the variant at the place that is found

-- nothing was found
pub no_place : (text : List ℕ) → None ≡ place_found (find_in variants text) → None ≡ found (find_in variants text)
no_place text e = by_found (find_in variants text) e
  where
    by_found : (x : Option (Variant × List ℕ)) → None ≡ place_found x → None ≡ found x
    by_found None e = refl
    by_found (Some x) e = absurd cc

-- what is found with that place: its variant, and what stands behind its front
abbrev pub FoundAt : ℕ → List ℕ → Type 0
FoundAt place text = (x : Variant × List ℕ) × (find_in variants text ≡ Some x) × (variant_at place ≡ Some x.0)
    × (rest_after (front_at place) text ≡ Some x.1)

pub at_place : (place : ℕ) (text : List ℕ) → Some place ≡ place_found (find_in variants text) → FoundAt place text
at_place place text e = by_found (find_in variants text) refl e
  where
    by_found : (o : Option (Variant × List ℕ)) → find_in variants text ≡ o → Some place ≡ place_found o → FoundAt place text
    by_found None is e = absurd cc
    by_found (Some x) is e =
        let f = found_is text x is in
        let same : f.0 ≡ place = sym (place_is f.0 x.0 f.1) ∙ sym (same_Some place x.0.place e) in
        let at : variant_at place ≡ Some x.0 = ap variant_at (sym same) ∙ f.1 in
        (x, is, at, ap (λ front. rest_after front text) (front_known place x.0 at) ∙ behind_front x.0 text x.1 f.2)

-- the place has a variant
pub has_variant_row : (place : ℕ) (text : List ℕ) (r : Option VariantRow) → FoundAt place text → r ≡ option_map variant_row (variant_at place) → IsSome r
has_variant_row place text r f is = ap is_some (is ∙ ap (option_map variant_row) f.2)

-- what `strip_prefix` gives of a text and a front
abbrev pub Stripped : List ℕ → List ℕ → Option (Bor (List ℕ)) → Type 0
Stripped front text r = MatchOption r (FindsTextPrefix front text None) (λ x. StripsPrefix (FindsTextPrefix front) text x.now)

-- the text begins with the place's front
pub has_front : (place : ℕ) (text front : List ℕ) (r : Option (Bor (List ℕ))) → FoundAt place text → front ≡ front_at place → Stripped front text r →
    IsSome r
has_front place text front None f is lacks =
    let clash : None ≡ Some f.0.1 = sym (after_none front text lacks) ∙ ap (λ front. rest_after front text) is ∙ f.3 in
    absurd cc
has_front place text front (Some x) f is strips = refl

-- the variant that was found, and the text behind the front
pub variant_and_text : (place : ℕ) (text front : List ℕ) (variant : VariantRow) (r : Option (Bor (List ℕ))) (rest : Bor (List ℕ)) → FoundAt place text
    → Some variant ≡ option_map variant_row (variant_at place) → front ≡ front_at place → Stripped front text r → r ≡ Some rest
    → ◌≡◌ {A = Option (VariantRow × List ℕ)} (Some (variant, rest.now)) (found (find_in variants text))
variant_and_text place text front variant r rest f is_variant is_front strips is_rest =
    let same_variant : variant ≡ variant_row f.0.0 = same_Some _ _ (is_variant ∙ ap (option_map variant_row) f.2) in
    let s = MatchOption-at_some (FindsTextPrefix front text None) (λ x. StripsPrefix (FindsTextPrefix front) text x.now) rest is_rest strips in
    let parts : text ≡ front ++ rest.now = s.1.1 ∙ ap (λ t. front ++ t) (sym s.2) in
    let same_rest : rest.now ≡ f.0.1 = same_Some _ _ (sym (after_is front text rest.now parts) ∙ ap (λ front. rest_after front text) is_front
    ∙ f.3) in
    ap (λ e. let x : Option (VariantRow × List ℕ) = Some (e, rest.now) in x) same_variant
    ∙ ap (λ t. let x : Option (VariantRow × List ℕ) = Some (variant_row f.0.0, t) in x) same_rest
    ∙ ap found (sym f.1)
