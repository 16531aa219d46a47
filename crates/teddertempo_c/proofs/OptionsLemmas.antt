-- The rules that pass a test, one after another, and how large a new module may be.
use Rattle.std.proofs.Common.{◌≡◌, ℕ, zero, suc, ◌+◌, ◌<◌, ◌≤◌, Bool, true, false, List, [], ◌∷◌, ◌++◌, length, min, take, get_or}
use Rattle.std.proofs.Common.{refl, sym, ap, ◌∙◌, append-nil, arith}
use Rattle.std.specs.Prelude.{cond, eqb, if◌then◌else◌}
use Rattle.std.specs.List.{filter}
use Rattle.std.proofs.lemmas.List.{take_more}
use Rattle.std.proofs.lemmas.List.Elements.{filter-append}
use Rattle.std.proofs.Math.Nat.{le_refl, min-le_left}
use Rattle.teddertempo_c.specs.Options.{has_flag, most_of}
use Rattle.teddertempo_c.specs.declared.options.TheConstants.{NO_GROWTH}

-- an item of a list, whatever would stand for it behind its end
pub any_other : {A : Type 0} (xs : List A) (i : ℕ) (d e : A) → i < length xs → get_or xs i d ≡ get_or xs i e
any_other [] i d e l = absurd (omega (arith, l))
any_other (x ∷ xs) zero d e l = refl
any_other (x ∷ xs) (suc i) d e l = any_other xs i d e (omega (arith, l))

module _ {A : Type 0} (p : A → Bool) (xs : List A) (i : ℕ) (x : A) (is : x ≡ get_or xs i x) (l : i < length xs) where
  filter_more : filter p (take (i + 1) xs) ≡ filter p (take i xs) ++ cond (p x) (x ∷ []) []
  filter_more =
      ap (filter p) (take_more xs i x l) ∙ filter-append p (take i xs) (get_or xs i x ∷ [])
      ∙ ap (λ (y : A). filter p (take i xs) ++ filter p (y ∷ [])) (sym is)

  pub filter_without : p x ≡ false → filter p (take (i + 1) xs) ≡ filter p (take i xs)
  filter_without e = filter_more ∙ ap (λ b. filter p (take i xs) ++ cond b (x ∷ []) []) e ∙ append-nil (filter p (take i xs))

  pub filter_next : (ys : List A) → p x ≡ true → ys ≡ filter p (take i xs) → ys ++ x ∷ [] ≡ filter p (take (i + 1) xs)
  filter_next ys e so_far = ap (λ zs. zs ++ x ∷ []) so_far ∙ sym (filter_more ∙ ap (λ b. filter p (take i xs) ++ cond b (x ∷ []) []) e)

-- ---- how large a new module may be

pub most_le : (growth flags size room : ℕ) → most_of growth flags size room ≤ room
most_le growth flags size room = by (has_flag flags NO_GROWTH) (eqb growth 0)
  where
    by : (none any : Bool) → (if none then min room size else (if any then room else min room (size + growth))) ≤ room
    by true any = min-le_left room size
    by false true = le_refl room
    by false false = min-le_left room (size + growth)
