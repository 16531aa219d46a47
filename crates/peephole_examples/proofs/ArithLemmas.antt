-- What stands behind the beginning of a text.
use Rattle.std.proofs.Common.{◌≡◌, ◌≢◌, ℕ, List, [], ◌∷◌, ◌++◌, Some, None, refl, sym, ap₂, inl, inr}
use Rattle.std.proofs.lemmas.Bool.{eq-eqb, ne_eqb, cases_eq}
use Rattle.peephole_lang.specs.Names.{rest_after}

after_append : (front rest : List ℕ) → rest_after front (front ++ rest) ≡ Some rest
after_append [] rest = refl
after_append (c ∷ front) rest = rw (eq-eqb c c refl) (after_append front rest)

pub after_is : (front text rest : List ℕ) → text ≡ front ++ rest → rest_after front text ≡ Some rest
after_is front text rest e = rw e (after_append front rest)

pub after_none : (front text : List ℕ) → ((rest : List ℕ) → text ≢ front ++ rest) → rest_after front text ≡ None
after_none [] text lacks = absurd (lacks text refl)
after_none (c ∷ front) [] lacks = refl
after_none (c ∷ front) (d ∷ text) lacks =
    elim (cases_eq c d) [
      | inl same ↦ rw (eq-eqb c d same) (after_none front text (λ rest e. lacks rest (ap₂ (λ x y. x ∷ y) (sym same) e)))
      | inr other ↦ rw (ne_eqb c d other) refl
    ]
