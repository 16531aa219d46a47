-- A test that passes on each element of a list.
use Rattle.std.proofs.Common.{◌≡◌, ℕ, zero, suc, Bool, true, List, [], ◌∷◌, Some, subst}
use Rattle.std.specs.Prelude.{◌&&◌, slice_get}
use Rattle.std.proofs.lemmas.Bool.{and_parts}

abbrev pub passes : {A : Type 0} → (A → Bool) → List A → Bool
passes f [] = true
passes f (x ∷ xs) = f x && passes f xs

pub passes_at : {A : Type 0} (f : A → Bool) (xs : List A) → passes f xs ≡ true → (i : ℕ) (x : A) → slice_get xs i ≡ Some x → f x ≡ true
passes_at f [] e i x k = absurd cc
passes_at f (y ∷ ys) e zero x k =
    let is : y ≡ x = cc in
    subst (λ z. f z ≡ true) is (and_parts (f y) (passes f ys) e).0
passes_at f (y ∷ ys) e (suc i) x k = passes_at f ys (and_parts (f y) (passes f ys) e).1 i x k
