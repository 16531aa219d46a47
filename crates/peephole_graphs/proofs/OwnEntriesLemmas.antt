-- The own entries of a block's operators: with one more, and in a copy.
use Rattle.std.proofs.Common.{◌≡◌, ℕ, zero, suc, ◌-◌, List, [], ◌∷◌, ◌++◌, length, Option, None, Some, refl, ap, ap₂, ◌∙◌, arith}
use Rattle.std.specs.Prelude.{◌==◌, nat_le, slice_get, if◌then◌else◌}
use Rattle.std.specs.List.{AllZip}
use Rattle.std.proofs.lemmas.Bool.Decides.{nat_tests}
use Rattle.std.proofs.lemmas.Bool.{cond_both}
use Rattle.std.proofs.lemmas.List.Elements.{same_from_all_zip}
use Rattle.peephole_graphs.specs.declared.own_entries.OwnEntries.{OwnEntries}
use Rattle.peephole_graphs.specs.OwnEntries.{own_entry_in}

-- the list with one more
pub slice_get_push : {A : Type 0} (xs : List A) (x : A) (i : ℕ) → slice_get (xs ++ x ∷ []) i ≡ (if length xs == i then Some x else slice_get xs i)
slice_get_push [] x zero = refl
slice_get_push [] x (suc i) = grind (arith, nat_tests)
slice_get_push (y ∷ ys) x zero = grind (arith, nat_tests)
slice_get_push (y ∷ ys) x (suc i) = grind (arith, nat_tests, slice_get_push ys x i)

abbrev found : ℕ → List ℕ → ℕ → Option ℕ
found first entries k = if nat_le first k then slice_get entries (k - first) else None

pub found_nothing : (own : OwnEntries) → own.entries.items ≡ [] → (k : ℕ) → own_entry_in own k ≡ None
found_nothing own e k = ap (λ (x : List ℕ). found own.first x k) e ∙
    cond_both (nat_le own.first k) None None (λ (o : Option ℕ). o ≡ None) (λ t. refl) (λ t. refl)

pub copied_entries : (own copy : OwnEntries) → copy.first ≡ own.first → AllZip (λ (x y : ℕ). y ≡ x) own.entries.items copy.entries.items →
    (k : ℕ) → own_entry_in copy k ≡ own_entry_in own k
copied_entries own copy e h k = ap₂ (λ first entries. found first entries k) e
    (same_from_all_zip (λ x y. y ≡ x) own.entries.items copy.entries.items h (λ x y e. e))
