-- Lines of things, one behind another.
use Rattle.std.proofs.Common.{◌≡◌, ℕ, ◌+◌, ◌<◌, List, [], ◌∷◌, ◌++◌, length, take, get_or, Option, sym, ap, ◌∙◌, subst, append_assoc, append-nil}
use Rattle.std.proofs.lemmas.List.{take_more}
use Rattle.std.specs.Io.KnownBytes.{Appends}
use Rattle.module_commands.proofs.TurnLemmas.{appends_more}

module _ {X : Type 0} (line : X → List ℕ) (lines : List X → List ℕ) (none : lines [] ≡ []) (some : (x : X) (xs : List X) →
    lines (x ∷ xs) ≡ line x ++ lines xs) where
  line_more : (xs : List X) (x : X) → lines (xs ++ x ∷ []) ≡ lines xs ++ line x
  line_more [] x = some x [] ∙ (ap (λ (l : List ℕ). line x ++ l) none ∙ (append-nil (line x) ∙ sym (ap (λ (l : List ℕ). l ++ line x) none)))
  line_more (y ∷ ys) x =
      some y (ys ++ x ∷ []) ∙ (ap (λ (l : List ℕ). line y ++ l) (line_more ys x)
      ∙ (sym (append_assoc (line y) (lines ys) (line x)) ∙ sym (ap (λ (l : List ℕ). l ++ line x) (some y ys))))

  -- one line more is written
  pub line_next : (a b c : Option (List ℕ)) (xs : List X) (k : ℕ) (d : X) → k < length xs → Appends a b (lines (take k xs)) →
      Appends b c (line (get_or xs k d)) → Appends a c (lines (take (k + 1) xs))
  line_next a b c xs k d l front own =
      subst (Appends a c) (sym (ap lines (take_more xs k d l) ∙ line_more (take k xs) (get_or xs k d)))
      (appends_more a b c (lines (take k xs)) (line (get_or xs k d)) front own)
