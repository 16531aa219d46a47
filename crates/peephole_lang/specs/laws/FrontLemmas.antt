-- How a front stands against a text, byte by byte.
use Rattle.std.proofs.Common.{◌≡◌, ◌≢◌, ℕ, ◌-◌, ◌<◌, Bool, true, false, cond, eqb, ltb, List, [], ◌∷◌, ◌++◌, length}
use Rattle.std.proofs.Common.{take, Option, Some, None, refl, sym, ap, ap₂, ◌∙◌, inl, inr, arith}
use Rattle.std.specs.Prelude.{codes, ◌&&◌}
use Rattle.std.specs.List.{starts_with, ends_with}
use Rattle.std.specs.Cmp.Lexicographic.{slice_cmp}
use Rattle.std.specs.Ordering.{nat_cmp, ordering_then, is_eq}
use Rattle.std.specs.declared.cmp.Ordering.{Ordering}
use Rattle.std.specs.declared.cmp.Ordering.TheVariants.{Less, Equal, Greater}
use Rattle.std.proofs.lemmas.Bool.{eq-eqb, ne_eqb, eqb-true, lt-ltb, le-ltb, ltb-true, cases_order, cases_eq, cases_lt}
use Rattle.std.proofs.lemmas.Slice.Eq.{ends_is}
use Rattle.std.proofs.lemmas.Bool.Decides.{Decides-eqb}
use Rattle.peephole_lang.specs.Names.{rest_after}
use Rattle.peephole_lang.specs.Fronts.{front_order}

-- the last byte of a front, or the one before it where it is empty
unfoldable pub last_byte : ℕ → List ℕ → ℕ
last_byte before [] = before
last_byte before (c ∷ front) = last_byte c front

-- how a front stands against a text, given the byte before it
unfoldable pub against : ℕ → List ℕ → List ℕ → Ordering
against before [] [] = Equal
against before [] (d ∷ text) = cond (eqb before 46) Equal Less
against before (c ∷ front) [] = Greater
against before (c ∷ front) (d ∷ text) = ordering_then (nat_cmp c d) (against c front text)

-- ---- what stands behind a front

after_append : (front rest : List ℕ) → rest_after front (front ++ rest) ≡ Some rest
after_append [] rest = refl
after_append (c ∷ front) rest = rw (eq-eqb c c refl) (after_append front rest)

pub after_is : (front text rest : List ℕ) → text ≡ front ++ rest → rest_after front text ≡ Some rest
after_is front text rest e = rw e (after_append front rest)

pub after_none : (front text : List ℕ) → ((rest : List ℕ) → text ≢ front ++ rest) → rest_after front text ≡ None
after_none [] text lacks = absurd (lacks text refl)
after_none (c ∷ front) [] lacks = refl
after_none (c ∷ front) (d ∷ text) lacks =
    elim (cases_eq c d) [
      | inl same ↦ rw (eq-eqb c d same) (after_none front text (λ rest e. lacks rest (ap₂ (λ x y. x ∷ y) (sym same) e)))
      | inr other ↦ rw (ne_eqb c d other) refl
    ]

-- ---- the same as what the code goes by

same_order : (ends lower same starts : Bool) (o p : Ordering) → (lower ≡ true → same ≡ false) → cond (ends && starts) Equal o ≡ p
    → cond (ends && (same && starts)) Equal (ordering_then (cond lower Less (cond same Equal Greater)) o)
    ≡ ordering_then (cond lower Less (cond same Equal Greater)) p
same_order true true true starts o p apart e = let clash : true ≡ false = apart refl in absurd cc
same_order true true false starts o p apart e = refl
same_order true false true starts o p apart e = e
same_order true false false starts o p apart e = refl
same_order false true true starts o p apart e = let clash : true ≡ false = apart refl in absurd cc
same_order false true false starts o p apart e = refl
same_order false false true starts o p apart e = e
same_order false false false starts o p apart e = refl

below_differs : (c d : ℕ) → ltb c d ≡ true → eqb c d ≡ false
below_differs c d lower = ne_eqb c d (λ same. let lt : c < d = ltb-true c d lower in absurd (omega arith))

stands : (before : ℕ) (front text : List ℕ) (ends : Bool) → ends ≡ eqb (last_byte before front) 46
    → cond (ends && starts_with eqb text front) Equal (slice_cmp nat_cmp front text) ≡ against before front text
unfolding last_byte against
stands before [] [] true e = refl
stands before [] [] false e = refl
stands before [] (d ∷ text) true e = rw (← e) refl
stands before [] (d ∷ text) false e = rw (← e) refl
stands before (c ∷ front) [] true e = refl
stands before (c ∷ front) [] false e = refl
stands before (c ∷ front) (d ∷ text) ends e =
    same_order ends (ltb c d) (eqb c d) (starts_with eqb text front) (slice_cmp nat_cmp front text) (against c front text) (below_differs c d)
    (stands c front text ends e)

last_pushed : (before : ℕ) (front : List ℕ) (c : ℕ) → last_byte before (front ++ c ∷ []) ≡ c
unfolding last_byte
last_pushed before [] c = refl
last_pushed before (b ∷ front) c = last_pushed b front c

-- a front that ends in a dot is one with a dot behind it
parts_at_dot : (before : ℕ) (front : List ℕ) → before ≢ 46 → last_byte before front ≡ 46 → (rest : List ℕ) × (front ≡ rest ++ 46 ∷ [])
unfolding last_byte
parts_at_dot before [] other e = absurd (other e)
parts_at_dot before (c ∷ []) other e = ([], ap (λ x. x ∷ []) e)
parts_at_dot before (c ∷ b ∷ front) other e = elim (cases_eq c 46) [
  | inl same ↦ let p = parts_at_dot 0 (b ∷ front) (λ z. absurd (omega arith)) e in (c ∷ p.0, ap (λ xs. c ∷ xs) p.1)
  | inr differs ↦ let p = parts_at_dot c (b ∷ front) differs e in (c ∷ p.0, ap (λ xs. c ∷ xs) p.1)
]

same_truth : (a b : Bool) → (a ≡ true → b ≡ true) → (b ≡ true → a ≡ true) → a ≡ b
same_truth true true f g = refl
same_truth true false f g = sym (f refl)
same_truth false true f g = g refl
same_truth false false f g = refl

pub ends_in_dot : (front : List ℕ) → ends_with eqb front (codes ".") ≡ eqb (last_byte 0 front) 46
ends_in_dot front =
    let decides = ends_is Decides-eqb front (codes ".") (ends_with eqb front (codes ".")) refl in
    same_truth _ _
    (λ ends. eq-eqb _ _ (ap (last_byte 0) (decides.0 ends) ∙ last_pushed 0 _ 46))
    (λ last. let p = parts_at_dot 0 front (λ z. absurd (omega arith)) (eqb-true _ _ last) in decides.1 p.0 p.1)

pub standing_is : (front text : List ℕ) → front_order front text ≡ against 0 front text
standing_is front text = stands 0 front text (ends_with eqb front (codes ".")) (ends_in_dot front)

-- what the test of a front's end says
abbrev EndTested : List ℕ → Bool → Type 0
EndTested front r = (r ≡ true → front ≡ take (length front - 1) front ++ 46 ∷ []) × ((rest : List ℕ) → front ≡ rest ++ 46 ∷ [] → r ≡ true)

dot_tested : (front : List ℕ) (r : Bool) → EndTested front r → r ≡ ends_with eqb front (codes ".")
dot_tested front r h =
    let decides = ends_is Decides-eqb front (codes ".") (ends_with eqb front (codes ".")) refl in
    same_truth _ _ (λ ends. decides.1 _ (h.0 ends)) (λ ends. h.1 _ (decides.0 ends))

-- what the two tests of the code say
module _ (front text : List ℕ) (ends : Bool) (tested : EndTested front ends) where
  pub front_equal : (starts : Bool) → starts ≡ starts_with eqb text front → ends ≡ true → starts ≡ true → Equal ≡ front_order front text
  front_equal starts e is_end is_start = rw (← dot_tested front ends tested, ← e, is_end, is_start) refl

  pub stands_without_dot : ends ≡ false → slice_cmp nat_cmp front text ≡ front_order front text
  stands_without_dot is_end = rw (← dot_tested front ends tested, is_end) refl

  pub stands_elsewhere : (starts : Bool) → starts ≡ starts_with eqb text front → starts ≡ false → slice_cmp nat_cmp front text ≡ front_order front text
  stands_elsewhere starts e is_start = rw (← e, is_start) (either (ends_with eqb front (codes ".")))
    where
      either : (b : Bool) → slice_cmp nat_cmp front text ≡ cond (b && false) Equal (slice_cmp nat_cmp front text)
      either true = refl
      either false = refl

-- ---- which texts a front is `Equal` to

-- whether that may stand behind a front
unfoldable pub may_follow : Bool → Option (List ℕ) → Bool
may_follow ends None = false
may_follow ends (Some []) = true
may_follow ends (Some (c ∷ rest)) = ends

pub equal_is : (before : ℕ) (front text : List ℕ) → is_eq (against before front text) ≡ may_follow (eqb (last_byte before front) 46) (rest_after front text)
unfolding last_byte against may_follow
equal_is before [] [] = refl
equal_is before [] (d ∷ text) = by_dot (eqb before 46)
  where
    by_dot : (ends : Bool) → is_eq (cond ends Equal Less) ≡ ends
    by_dot true = refl
    by_dot false = refl
equal_is before (c ∷ front) [] = refl
equal_is before (c ∷ front) (d ∷ text) = elim (cases_order c d) [
  | inl same ↦ rw (eq-eqb c d same, le-ltb c d (omega arith)) (equal_is c front text)
  | inr differs ↦ elim differs [
    | inl lower ↦ rw (lt-ltb c d lower, ne_eqb c d (λ same. absurd (omega arith))) refl
    | inr higher ↦ rw (le-ltb c d (omega arith), ne_eqb c d (λ same. absurd (omega arith))) refl
  ]
]

-- ---- fronts in order

-- every text of the first front is below every text of the second
unfoldable pub is_below : ℕ → List ℕ → List ℕ → Bool
is_below before [] [] = false
is_below before [] (d ∷ other) = cond (eqb before 46) false true
is_below before (c ∷ front) [] = false
is_below before (c ∷ front) (d ∷ other) = cond (eqb c d) (is_below c front other) (ltb c d)

ends_below : (before : ℕ) (ends : Bool) → cond ends false true ≡ true → cond ends Equal Less ≢ Less → ⊥
ends_below before true e stays = absurd cc
ends_below before false e stays = stays refl

first_lower : (c t : ℕ) (o : Ordering) → c < t → ordering_then (nat_cmp c t) o ≡ Less
first_lower c t o lt = rw (lt-ltb c t lt) refl

first_higher : (c t : ℕ) (o : Ordering) → t < c → ordering_then (nat_cmp c t) o ≡ Greater
first_higher c t o lt = rw (le-ltb c t (omega arith), ne_eqb c t (λ same. absurd (omega arith))) refl

first_same : (c t : ℕ) (o : Ordering) → c ≡ t → ordering_then (nat_cmp c t) o ≡ o
first_same c t o same = rw (le-ltb c t (omega arith), eq-eqb c t same) refl

-- where a text isn't above a front, a higher front is above the text
pub above : (before : ℕ) (front other text : List ℕ) → is_below before front other ≡ true → against before front text ≢ Less
    → against before other text ≡ Greater
unfolding against is_below
above before [] [] text e stays = absurd cc
above before [] (d ∷ other) [] e stays = refl
above before [] (d ∷ other) (t ∷ text) e stays = absurd (ends_below before (eqb before 46) e stays)
above before (c ∷ front) [] text e stays = absurd cc
above before (c ∷ front) (d ∷ other) [] e stays = refl
above before (c ∷ front) (d ∷ other) (t ∷ text) e stays = elim (cases_eq c d) [
  | inl same ↦ rw (← same) (elim (cases_order c t) [
    | inl equal ↦
        let below : is_below c front other ≡ true = rw (eq-eqb c d same) at e in
        first_same c t _ equal ∙ above c front other text below (λ less. stays (first_same c t _ equal ∙ less))
    | inr differs ↦ elim differs [
      | inl lower ↦ absurd (stays (first_lower c t _ lower))
      | inr higher ↦ first_higher c t _ higher
    ]
  ])
  | inr differs ↦
      let lower : c < d = ltb-true c d (rw (ne_eqb c d differs) at e) in
      elim (cases_lt t d) [
        | inl lt ↦ first_higher d t _ lt
        | inr le ↦ absurd (stays (first_lower c t _ (omega arith)))
      ]
]
