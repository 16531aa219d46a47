-- Lists: what the lemmas of std leave open, and which numbers a list has.
use Rattle.std.proofs.Common.{◌≡◌, ℕ, ◌<◌, true, List, [], ◌∷◌, ◌++◌, map, refl, sym, ap, ap₂, ◌∙◌, subst, ⊎_elim}
use Rattle.std.specs.Prelude.{◌⊎◌, ◌||◌, ◌==◌, reverse, slice_get, Some}
use Rattle.std.specs.List.{All, flat_map, sum, sum_by}
use Rattle.std.proofs.Math.Bool.{or_assoc, or_comm, or-false}
use Rattle.std.proofs.lemmas.Bool.{eq-eqb, eqb-true, or_cases, or_left, or_right, false≢true}
use Rattle.std.proofs.lemmas.List.{reverse-append}
use Rattle.std.proofs.lemmas.List.Elements.{All-nil, All-cons, All-head, All-tail, All-append, All-get_or}
use Rattle.std.proofs.lemmas.List.Folds.{flat_map-map}
use Rattle.std.proofs.lemmas.List.Sums.{sum-map}
use Rattle.std.proofs.lemmas.List.Sorted.{All-permutation, IsPermutation-reverse, sum_by-IsPermutation}
use Rattle.std.proofs.lemmas.Option.{get_or_from_slice_get, slice_get_within}
use Rattle.peephole_graphs.specs.Forest.{has}

pub all_reverse : {A : Type 0} (P : A → Type 0) (xs : List A) → All P xs → All P (reverse xs)
all_reverse P xs h = All-permutation P xs (reverse xs) (IsPermutation-reverse xs) h

pub all_left : {A : Type 0} (P : A → Type 0) (xs ys : List A) → All P (xs ++ ys) → All P xs
all_left P [] ys h = All-nil P
all_left P (x ∷ xs) ys h = All-cons P x xs (All-head P x (xs ++ ys) h) (all_left P xs ys (All-tail P x (xs ++ ys) h))

pub all_right : {A : Type 0} (P : A → Type 0) (xs ys : List A) → All P (xs ++ ys) → All P ys
all_right P [] ys h = h
all_right P (x ∷ xs) ys h = all_right P xs ys (All-tail P x (xs ++ ys) h)

pub all_flat_map : (f : ℕ → List ℕ) (n : ℕ) (is : List ℕ) → ((i : ℕ) → All (λ j. j < n) (f i)) → All (λ j. j < n) (flat_map f is)
all_flat_map f n [] h = All-nil (λ j. j < n)
all_flat_map f n (i ∷ is) h = All-append (λ j. j < n) (f i) (flat_map f is) (h i) (all_flat_map f n is h)

pub all_slice_get : {A : Type 0} (P : A → Type 0) (xs : List A) (i : ℕ) (x : A) → slice_get xs i ≡ Some x → All P xs → P x
all_slice_get P xs i x s h = subst P (get_or_from_slice_get xs i x x s) (All-get_or P xs i x (slice_get_within xs i x s) h)

pub sum_by-reverse : (f : ℕ → ℕ) (is : List ℕ) → sum_by f (reverse is) ≡ sum_by f is
sum_by-reverse f is = sum_by-IsPermutation f is (reverse is) (IsPermutation-reverse is)

-- ---- functions that are the same below `n`

pub map_same : {A : Type 0} (f g : ℕ → A) (is : List ℕ) (n : ℕ) → All (λ i. i < n) is → ((i : ℕ) → i < n → f i ≡ g i) → map f is ≡ map g is
map_same f g [] n h e = refl
map_same f g (i ∷ is) n h e = ap₂ (λ x y. x ∷ y) (e i (All-head (λ i. i < n) i is h)) (map_same f g is n (All-tail (λ i. i < n) i is h) e)

pub flat_map_same : (f g : ℕ → List ℕ) (is : List ℕ) (n : ℕ) → All (λ i. i < n) is → ((i : ℕ) → i < n → f i ≡ g i) → flat_map f is ≡ flat_map g is
flat_map_same f g is n h e = sym (flat_map-map (λ x. x) f is) ∙ (ap (flat_map (λ x. x)) (map_same f g is n h e) ∙ flat_map-map (λ x. x) g is)

pub sum_by_same : (f g : ℕ → ℕ) (is : List ℕ) (n : ℕ) → All (λ i. i < n) is → ((i : ℕ) → i < n → f i ≡ g i) → sum_by f is ≡ sum_by g is
sum_by_same f g is n h e = sym (sum-map f is) ∙ (ap sum (map_same f g is n h e) ∙ sum-map g is)

-- one fact of numbers below `n` from another
pub all_within : (n : ℕ) (Q R : ℕ → Type 0) (is : List ℕ) → ((k : ℕ) → k < n → Q k → R k) → All (λ k. k < n) is → All Q is → All R is
all_within n Q R [] f h q = All-nil R
all_within n Q R (i ∷ is) f h q = All-cons R i is (f i (All-head (λ k. k < n) i is h) (All-head Q i is q))
    (all_within n Q R is f (All-tail (λ k. k < n) i is h) (All-tail Q i is q))

-- ---- `has`

pub has_append : (j : ℕ) (is js : List ℕ) → has j (is ++ js) ≡ (has j is || has j js)
has_append j [] js = refl
has_append j (i ∷ is) js = ap (λ x. (i == j) || x) (has_append j is js) ∙ sym (or_assoc (i == j) (has j is) (has j js))

pub has_reverse : (j : ℕ) (is : List ℕ) → has j (reverse is) ≡ has j is
has_reverse j [] = refl
has_reverse j (i ∷ is) = ap (has j) (reverse-append (i ∷ []) is) ∙ (has_append j (reverse is) (i ∷ []) ∙
    (ap₂ (λ a b. a || b) (has_reverse j is) (or-false (i == j)) ∙ or_comm (has j is) (i == j)))

pub has_either : (j : ℕ) (is js : List ℕ) → has j (is ++ js) ≡ true → (has j is ≡ true) ⊎ (has j js ≡ true)
has_either j is js h = or_cases (has j is) (has j js) (sym (has_append j is js) ∙ h)

pub has_each : (P : ℕ → Type 0) (is : List ℕ) → All P is → (j : ℕ) → has j is ≡ true → P j
has_each P [] h j w = absurd (false≢true w)
has_each P (i ∷ is) h j w = ⊎_elim (λ e. subst P (eqb-true i j e) (All-head P i is h)) (λ e. has_each P is (All-tail P i is h) j e)
    (or_cases (i == j) (has j is) w)

pub all_has : (P : ℕ → Type 0) (is : List ℕ) → ((i : ℕ) → has i is ≡ true → P i) → All P is
all_has P [] h = All-nil P
all_has P (i ∷ is) h = All-cons P i is (h i (or_left (i == i) (has i is) (eq-eqb i i refl))) (all_has P is (λ j w. h j (or_right (i == j) (has j is) w)))

pub has_itself : (is : List ℕ) → All (λ i. has i is ≡ true) is
has_itself is = all_has (λ i. has i is ≡ true) is (λ i w. w)
