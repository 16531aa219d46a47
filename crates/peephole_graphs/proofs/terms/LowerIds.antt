-- Ids made smaller one by one.
use Rattle.std.proofs.Common.{◌≡◌, ℕ, zero, suc, ◌+◌, ◌-◌, ◌<◌, ◌≤◌, List, [], ◌∷◌, ◌++◌, length, get_or, take, drop, set, map, refl, sym, ap, ◌∙◌, arith}
use Rattle.std.specs.List.{All}
use Rattle.std.proofs.lemmas.List.{append-nil, get_or-map, take_all, drop_all, length-append, length-map, length-take, length-drop, get_or_default}
use Rattle.std.proofs.lemmas.List.Edits.{map_over_more}
use Rattle.std.proofs.lemmas.Simd.{map-map}
use Rattle.peephole_nodes.specs.declared.id.Id.{Id}
use Rattle.peephole_lang.specs.Term.{numbers_of}

abbrev pub lower_id : ℕ → Id → Id
lower_id by id = record { 0 = id.0 - by }

lowered_numbers : (by : ℕ) (ids : List Id) → numbers_of (map (lower_id by) ids) ≡ map (λ i. i - by) (numbers_of ids)
lowered_numbers by ids = map-map (λ (id : Id). id.0) (lower_id by) ids ∙ sym (map-map (λ i. i - by) (λ (id : Id). id.0) ids)

all_ids : (by : ℕ) (ids : List Id) → All (λ i. by ≤ i) (numbers_of ids) → (i : ℕ) → i < length ids → (d : Id) → by ≤ (get_or ids i d).0
all_ids by ids a i l d = rw (get_or-map (λ (id : Id). id.0) ids i d d.0 l) at (a i d.0 (omega (arith, length-map ids (λ (id : Id). id.0))))

-- the next one is as it was
next_is : (f : Id → Id) (xs : List Id) (i : ℕ) → i < length xs → (d : Id) → get_or (map f (take i xs) ++ drop i xs) i d ≡ get_or xs i d
next_is f [] i l d = absurd (omega arith)
next_is f (x ∷ xs) zero l d = refl
next_is f (x ∷ xs) (suc i) l d = next_is f xs i (omega arith) d

pub next_large : (by : ℕ) (xs ys : List Id) (i : ℕ) (d : Id) → All (λ i. by ≤ i) (numbers_of xs) → i < length xs →
    ys ≡ map (lower_id by) (take i xs) ++ drop i xs → by ≤ (get_or ys i d).0
next_large by xs ys i d a l e =
    let n = ap (λ (z : Id). z.0) (ap (λ (z : List Id). get_or z i d) e ∙ next_is (lower_id by) xs i l d) in
    let large = all_ids by xs a i l d in
    omega arith

count_is : (by : ℕ) (xs ys : List Id) (i : ℕ) → i < length xs → ys ≡ map (lower_id by) (take i xs) ++ drop i xs → length ys ≡ length xs
count_is by xs ys i l e =
    let lowered = map (lower_id by) (take i xs) in
    rw e (omega (arith, length-append lowered (drop i xs), length-map (take i xs) (lower_id by), length-take i xs, length-drop i xs))

pub lowered_more : (by : ℕ) (xs ys : List Id) (i : ℕ) (d : Id) → i < length xs → ys ≡ map (lower_id by) (take i xs) ++ drop i xs →
    set ys i (lower_id by (get_or ys i d)) ≡ map (lower_id by) (take (i + 1) xs) ++ drop (i + 1) xs
lowered_more by xs ys i d l e =
    let x = get_or ys i d in
    let n = count_is by xs ys i l e in
    map_over_more (lower_id by) xs ys i x l e (get_or_default ys i d x (omega arith))

pub lowered_all : (by : ℕ) (xs ys : List Id) (i : ℕ) → length xs ≤ i → ys ≡ map (lower_id by) (take i xs) ++ drop i xs →
    numbers_of ys ≡ map (λ i. i - by) (numbers_of xs)
lowered_all by xs ys i l e = rw (e, drop_all i xs l, take_all i xs l, append-nil (map (lower_id by) xs)) (lowered_numbers by xs)
