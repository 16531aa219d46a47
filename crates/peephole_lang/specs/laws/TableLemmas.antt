-- The code's table is the variants, and the order of the fronts: by computation over the rows.
use Rattle.std.proofs.Common.{◌≡◌, ℕ, zero, suc, ◌+◌, ◌<◌, Bool, true, false, cond, eqb, List, [], ◌∷◌}
use Rattle.std.proofs.Common.{length, get_or, map, Some, refl, sym, ap, ◌∙◌, add-one, arith}
use Rattle.std.specs.Prelude.{slice_get, not, is_some, ◌&&◌}
use Rattle.std.proofs.lemmas.Bool.{eqb-true, and_parts}
use Rattle.std.proofs.lemmas.Option.{same_Some}
use Rattle.peephole_nodes.specs.declared.payload.PayloadKind.{PayloadKind}
use Rattle.peephole_nodes.specs.declared.payload.PayloadKind.TheVariants as kind
use Rattle.peephole_lang.specs.declared.variants.TheConstants.{VARIANTS}
use Rattle.peephole_lang.specs.declared.names.TheConstants.{BY_FRONT}
use Rattle.peephole_nodes.specs.Variants.{Variant, variants, variant_at}
use Rattle.peephole_lang.specs.VariantRows.{variant_row}
use Rattle.peephole_nodes.specs.Fronts.{variant_front_of, front_at}
use Rattle.peephole_lang.specs.laws.FrontLemmas.{last_byte, is_below}

both : {a b : Bool} → cond a b false ≡ true → (a ≡ true) × (b ≡ true)
both {a = true} {b} e = (refl, e)
both {a = false} {b} e = absurd cc

-- ---- what a test says of each row of a list, it says of one

unfoldable pub all_of : (Variant → Bool) → List Variant → Bool
all_of f [] = true
all_of f (v ∷ vs) = f v && all_of f vs

pub one_of : (f : Variant → Bool) (vs : List Variant) (i : ℕ) (v : Variant) → all_of f vs ≡ true → slice_get vs i ≡ Some v → f v ≡ true
unfolding all_of
one_of f [] i v all at = absurd cc
one_of f (w ∷ vs) zero v all at = let same : w ≡ v = cc in rw (← same) (and_parts (f w) (all_of f vs) all).0
one_of f (w ∷ vs) (suc i) v all at = one_of f vs i v (and_parts (f w) (all_of f vs) all).1 at

-- ---- the code's table

pub same_rows : VARIANTS ≡ map variant_row variants
unfolding variants
same_rows = refl

-- ---- a variant's place is where it stands

placed_from : ℕ → List Variant → Bool
placed_from n [] = true
placed_from n (v ∷ vs) = cond (eqb v.place n) (placed_from (suc n) vs) false

all_placed : placed_from 0 variants ≡ true
unfolding placed_from variants
all_placed = refl

placed_in : (n : ℕ) (vs : List Variant) (k : ℕ) (v : Variant) → placed_from n vs ≡ true → slice_get vs k ≡ Some v → v.place ≡ n + k
unfolding placed_from
placed_in n [] k v all e = absurd cc
placed_in n (first ∷ vs) zero v all e = ap (λ w. w.place) (sym (same_Some first v e)) ∙ eqb-true _ _ (both all).0 ∙ omega arith
placed_in n (first ∷ vs) (suc k) v all e = placed_in (suc n) vs k v (both all).1 e ∙ omega arith

pub place_is : (k : ℕ) (v : Variant) → variant_at k ≡ Some v → v.place ≡ k
place_is k v e = placed_in 0 variants k v all_placed e ∙ omega arith

-- ---- a front ends in a dot just where a payload follows

unfoldable pub has_payload : PayloadKind → Bool
has_payload kind.Nothing = false
has_payload _ = true

agree : Bool → Bool → Bool
agree a b = cond a b (not b)

agree-true : (a b : Bool) → agree a b ≡ true → a ≡ b
unfolding agree
agree-true true true e = refl
agree-true true false e = absurd cc
agree-true false true e = absurd cc
agree-true false false e = refl

all_dotted : all_of (λ v. agree (eqb (last_byte 0 (variant_front_of v)) 46) (has_payload v.payload)) variants ≡ true
unfolding all_of agree has_payload last_byte variants
all_dotted = refl

pub dot_with_payload : (k : ℕ) (v : Variant) → variant_at k ≡ Some v → eqb (last_byte 0 (variant_front_of v)) 46 ≡ has_payload v.payload
dot_with_payload k v e = agree-true _ _ (one_of _ variants k v all_dotted e)

-- ---- each variant's place is among the places by front

holds_place : ℕ → List ℕ → Bool
holds_place n [] = false
holds_place n (p ∷ places) = cond (eqb p n) true (holds_place n places)

all_listed : all_of (λ v. holds_place v.place BY_FRONT) variants ≡ true
unfolding all_of holds_place variants
all_listed = refl

-- the number stands in the list at some index
abbrev pub StandsAt : ℕ → List ℕ → Type 0
StandsAt n places = (i : ℕ) × (i < length places) × (get_or places i 0 ≡ n)

one_more : (p n : ℕ) (places : List ℕ) → StandsAt n places → StandsAt n (p ∷ places)
one_more p n places s = (suc s.0, omega (arith, s.1), s.2)

stands_first : (same : Bool) (p n : ℕ) (places : List ℕ) → eqb p n ≡ same → cond same true (holds_place n places) ≡ true
    → (holds_place n places ≡ true → StandsAt n places) → StandsAt n (p ∷ places)
stands_first true p n places is e more = (zero, omega arith, eqb-true p n is)
stands_first false p n places is e more = one_more p n places (more e)

stands_at : (n : ℕ) (places : List ℕ) → holds_place n places ≡ true → StandsAt n places
unfolding holds_place
stands_at n [] e = absurd cc
stands_at n (p ∷ places) e = stands_first (eqb p n) p n places refl e (stands_at n places)

pub is_listed : (k : ℕ) (v : Variant) → variant_at k ≡ Some v → StandsAt v.place BY_FRONT
is_listed k v e = stands_at v.place BY_FRONT (one_of _ variants k v all_listed e)

-- ---- each place by front is a variant's

known : List ℕ → Bool
known [] = true
known (p ∷ places) = cond (is_some (variant_at p)) (known places) false

all_known : known BY_FRONT ≡ true
unfolding known variants
all_known = refl

known_in : (places : List ℕ) (i d : ℕ) → known places ≡ true → i < length places → is_some (variant_at (get_or places i d)) ≡ true
unfolding known
known_in [] i d all lt = absurd (omega arith)
known_in (p ∷ places) zero d all lt = (both all).0
known_in (p ∷ places) (suc i) d all lt = known_in places i d (both all).1 (omega arith)

pub is_known : (i d : ℕ) → i < length BY_FRONT → is_some (variant_at (get_or BY_FRONT i d)) ≡ true
is_known i d lt = known_in BY_FRONT i d all_known lt

-- ---- the fronts rise

rising : List ℕ → Bool
rising [] = true
rising (p ∷ []) = true
rising (p ∷ q ∷ places) = cond (is_below 0 (front_at p) (front_at q)) (rising (q ∷ places)) false

all_rising : rising BY_FRONT ≡ true
unfolding rising is_below variants
all_rising = refl

rising_in : (places : List ℕ) (k d : ℕ) → rising places ≡ true → k + 1 < length places
    → is_below 0 (front_at (get_or places k d)) (front_at (get_or places (suc k) d)) ≡ true
unfolding rising
rising_in [] k d all lt = absurd (omega arith)
rising_in (p ∷ []) k d all lt = absurd (omega arith)
rising_in (p ∷ q ∷ places) zero d all lt = (both all).0
rising_in (p ∷ q ∷ places) (suc k) d all lt = rising_in (q ∷ places) k d (both all).1 (omega arith)

pub rises : (k d : ℕ) → k + 1 < length BY_FRONT → is_below 0 (front_at (get_or BY_FRONT k d)) (front_at (get_or BY_FRONT (k + 1) d)) ≡ true
rises k d lt = rw add-one (rising_in BY_FRONT k d all_rising lt)
