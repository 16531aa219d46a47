-- Numbers where structural operators were put in between, and where blocks part and end there.
use Rattle.std.proofs.Common.{◌≡◌, ℕ, zero, suc, ◌-◌, ◌+◌, ◌<◌, ◌≤◌, Bool, List, [], ◌∷◌, ◌++◌, length, drop, Option, Some, None, refl, sym}
use Rattle.std.proofs.Common.{ap, ◌∙◌, arith, inl, inr}
use Rattle.std.specs.Prelude.{nat_lt, slice_get, option_map, if◌then◌else◌}
use Rattle.std.proofs.lemmas.Bool.{lt-ltb, le-ltb, cases_lt}
use Rattle.std.proofs.lemmas.List.{drop-append-le, length-drop}
use Rattle.wasm_code.specs.declared.operator.Operator.{Operator}
use Rattle.wasm_equivalence.specs.control.Function.{Label, Reached, Done, At}
use Rattle.wasm_equivalence.specs.control.Blocks.{Nesting, opens, closes, stays, parts, nesting, closing_at, closing, other_part_at, other_part}

-- ---- numbers

-- the number of a structural operator, where m were put in before the one with number n
abbrev pub moved : (n m i : ℕ) → ℕ
moved n m i = if nat_lt i n then i else i + m

-- the same of a piece: the n-th begins where it did
abbrev pub moved_piece : (n m k : ℕ) → ℕ
moved_piece n m k = if nat_lt n k then k + m else k

abbrev pub moved_label : (n m : ℕ) → Label → Label
moved_label n m l = record { opener = moved n m l.opener; height = l.height }

abbrev pub moved_labels : (n m : ℕ) → List Label → List Label
moved_labels n m [] = []
moved_labels n m (l ∷ ls) = moved_label n m l ∷ moved_labels n m ls

abbrev pub moved_reached : (n m : ℕ) → Reached → Reached
moved_reached n m (At k labels stack s) = At (moved_piece n m k) (moved_labels n m labels) stack s
moved_reached n m (Done o) = Done o

pub moved_before : (n m i : ℕ) → i < n → moved n m i ≡ i
moved_before n m i l = ap (λ (b : Bool). if b then i else i + m) (lt-ltb i n l)

pub moved_behind : (n m i : ℕ) → n ≤ i → moved n m i ≡ i + m
moved_behind n m i l = ap (λ (b : Bool). if b then i else i + m) (le-ltb i n l)

pub piece_before : (n m k : ℕ) → k ≤ n → moved_piece n m k ≡ k
piece_before n m k l = ap (λ (b : Bool). if b then k + m else k) (le-ltb n k l)

pub piece_behind : (n m k : ℕ) → n < k → moved_piece n m k ≡ k + m
piece_behind n m k l = ap (λ (b : Bool). if b then k + m else k) (lt-ltb n k l)

pub next_piece : (n m i : ℕ) → suc (moved n m i) ≡ moved_piece n m (suc i)
next_piece n m i = elim (cases_lt i n) [
  | inl l ↦ ap suc (moved_before n m i l) ∙ sym (piece_before n m (suc i) (omega arith))
  | inr l ↦ ap suc (moved_behind n m i l) ∙ (omega arith ∙ sym (piece_behind n m (suc i) (omega arith)))
]

-- ---- lists

pub get_before : {X : Type 0} (xs ys : List X) (i : ℕ) → i < length xs → slice_get (xs ++ ys) i ≡ slice_get xs i
get_before [] ys i l = absurd (omega arith)
get_before (x ∷ xs) ys zero l = refl
get_before (x ∷ xs) ys (suc i) l = get_before xs ys i (omega arith)

pub get_behind : {X : Type 0} (xs ys : List X) (i j : ℕ) → j ≡ length xs + i → slice_get (xs ++ ys) j ≡ slice_get ys i
get_behind [] ys i j e = ap (slice_get ys) (let x : j ≡ i = omega arith in x)
get_behind (x ∷ xs) ys i zero e = absurd (omega arith)
get_behind (x ∷ xs) ys i (suc j) e = get_behind xs ys i j (omega arith)

pub drop_behind : {X : Type 0} (xs ys : List X) (i j : ℕ) → j ≡ length xs + i → drop j (xs ++ ys) ≡ drop i ys
drop_behind [] ys i j e = ap (λ k. drop k ys) (let x : j ≡ i = omega arith in x)
drop_behind (x ∷ xs) ys i zero e = absurd (omega arith)
drop_behind (x ∷ xs) ys i (suc j) e = drop_behind xs ys i j (omega arith)

-- ---- where blocks end

closing_at_least : (d k : ℕ) (os : List Operator) → k ≤ closing d k os
closing_at_least d k [] = omega arith
closing_at_least d k (o ∷ os) = go (nesting o) d (λ e. closing_at_least e (suc k) os)
  where
    go : (x : Nesting) (d : ℕ) → ((e : ℕ) → suc k ≤ closing e (suc k) os) → k ≤ closing_at x d k (λ e. closing e (suc k) os)
    go closes zero h = omega arith
    go closes (suc d) h = let l = h d in omega arith
    go opens d h = let l = h (suc d) in omega arith
    go parts d h = let l = h d in omega arith
    go stays d h = let l = h d in omega arith

closing_shift : (m d k j : ℕ) (os : List Operator) → j ≡ k + m → closing d j os ≡ closing d k os + m
closing_shift m d k j [] e = e
closing_shift m d k j (o ∷ os) e = go (nesting o) d (λ x. closing_shift m x (suc k) (suc j) os (omega arith))
  where
    go : (x : Nesting) (d : ℕ) → ((x : ℕ) → closing x (suc j) os ≡ closing x (suc k) os + m) →
        closing_at x d j (λ x. closing x (suc j) os) ≡ closing_at x d k (λ x. closing x (suc k) os) + m
    go closes zero h = e
    go closes (suc d) h = h d
    go opens d h = h (suc d)
    go parts d h = h d
    go stays d h = h d

-- a number from there on, or none
abbrev AtLeast : ℕ → Option ℕ → Type 0
AtLeast k None = Unit {0}
AtLeast k (Some i) = k ≤ i

at_least_more : (k : ℕ) (o : Option ℕ) → AtLeast (suc k) o → AtLeast k o
at_least_more k None h = tt
at_least_more k (Some i) h = omega arith

part_at_least : (d k : ℕ) (os : List Operator) → AtLeast k (other_part d k os)
part_at_least d k [] = tt
part_at_least d k (o ∷ os) = go (nesting o) d (λ e. at_least_more k (other_part e (suc k) os) (part_at_least e (suc k) os))
  where
    go : (x : Nesting) (d : ℕ) → ((e : ℕ) → AtLeast k (other_part e (suc k) os)) → AtLeast k (other_part_at x d k (λ e. other_part e (suc k) os))
    go closes zero h = tt
    go closes (suc d) h = h d
    go opens d h = h (suc d)
    go parts zero h = omega arith
    go parts (suc d) h = h (suc d)
    go stays d h = h d

abbrev shifted : ℕ → Option ℕ → Option ℕ
shifted m o = option_map (λ i. i + m) o

part_shift : (m d k j : ℕ) (os : List Operator) → j ≡ k + m → other_part d j os ≡ shifted m (other_part d k os)
part_shift m d k j [] e = refl
part_shift m d k j (o ∷ os) e = go (nesting o) d (λ x. part_shift m x (suc k) (suc j) os (omega arith))
  where
    go : (x : Nesting) (d : ℕ) → ((x : ℕ) → other_part x (suc j) os ≡ shifted m (other_part x (suc k) os)) →
        other_part_at x d j (λ x. other_part x (suc j) os) ≡ shifted m (other_part_at x d k (λ x. other_part x (suc k) os))
    go closes zero h = refl
    go closes (suc d) h = h d
    go opens d h = h (suc d)
    go parts zero h = ap Some e
    go parts (suc d) h = h (suc d)
    go stays d h = h d

shifted_moved : (n m k : ℕ) → n ≤ k → (o : Option ℕ) → AtLeast k o → shifted m o ≡ option_map (moved n m) o
shifted_moved n m k l None h = refl
shifted_moved n m k l (Some i) h = ap Some (sym (moved_behind n m i (omega arith)))

pub get_moved : (xs middle ys : List Operator) (n m : ℕ) → length xs ≡ n → length middle ≡ m → (i : ℕ) →
    slice_get (xs ++ (middle ++ ys)) (moved n m i) ≡ slice_get (xs ++ ys) i
get_moved xs middle ys n m n_is m_is i = elim (cases_lt i n) [
  | inl l ↦ ap (slice_get (xs ++ (middle ++ ys))) (moved_before n m i l) ∙
      (get_before xs (middle ++ ys) i (omega arith) ∙ sym (get_before xs ys i (omega arith)))
  | inr l ↦ ap (slice_get (xs ++ (middle ++ ys))) (moved_behind n m i l) ∙
      (get_behind xs (middle ++ ys) (i - n + m) (i + m) (omega arith) ∙
      (get_behind middle ys (i - n) (i - n + m) (omega arith) ∙ sym (get_behind xs ys (i - n) i (omega arith))))
]

-- ---- operators put in between

module _ (xs middle ys : List Operator) (n m : ℕ) (n_is : length xs ≡ n) (m_is : length middle ≡ m)
    (closed : (d k j : ℕ) → j ≡ k + m → closing d k (middle ++ ys) ≡ closing d j ys)
    (parted : (d k j : ℕ) → j ≡ k + m → other_part d k (middle ++ ys) ≡ other_part d j ys) where
  abbrev pub before : List Operator
  before = xs ++ ys

  abbrev pub after : List Operator
  after = xs ++ (middle ++ ys)

  -- ends, from an operator of the front on
  closing_front : (zs : List Operator) (d k : ℕ) → k + length zs ≡ n → closing d k (zs ++ (middle ++ ys)) ≡ moved n m (closing d k (zs ++ ys))
  closing_front [] d k e =
      let l = closing_at_least d k ys in
      closed d k (k + m) refl ∙ (closing_shift m d k (k + m) ys refl ∙ sym (moved_behind n m (closing d k ys) (omega arith)))
  closing_front (o ∷ zs) d k e = go (nesting o) d (λ x. closing_front zs x (suc k) (omega arith))
    where
      go : (x : Nesting) (d : ℕ) → ((x : ℕ) → closing x (suc k) (zs ++ (middle ++ ys)) ≡ moved n m (closing x (suc k) (zs ++ ys))) →
          closing_at x d k (λ x. closing x (suc k) (zs ++ (middle ++ ys))) ≡ moved n m (closing_at x d k (λ x. closing x (suc k) (zs ++ ys)))
      go closes zero h = sym (moved_before n m k (omega arith))
      go closes (suc d) h = h d
      go opens d h = h (suc d)
      go parts d h = h d
      go stays d h = h d

  part_front : (zs : List Operator) (d k : ℕ) → k + length zs ≡ n →
      other_part d k (zs ++ (middle ++ ys)) ≡ option_map (moved n m) (other_part d k (zs ++ ys))
  part_front [] d k e =
      parted d k (k + m) refl ∙ (part_shift m d k (k + m) ys refl ∙ shifted_moved n m k (omega arith) (other_part d k ys) (part_at_least d k ys))
  part_front (o ∷ zs) d k e = go (nesting o) d (λ x. part_front zs x (suc k) (omega arith))
    where
      go : (x : Nesting) (d : ℕ) → ((x : ℕ) → other_part x (suc k) (zs ++ (middle ++ ys)) ≡ option_map (moved n m) (other_part x (suc k) (zs ++ ys))) →
          other_part_at x d k (λ x. other_part x (suc k) (zs ++ (middle ++ ys))) ≡
          option_map (moved n m) (other_part_at x d k (λ x. other_part x (suc k) (zs ++ ys)))
      go closes zero h = refl
      go closes (suc d) h = h d
      go opens d h = h (suc d)
      go parts zero h = ap Some (sym (moved_before n m k (omega arith)))
      go parts (suc d) h = h (suc d)
      go stays d h = h d

  -- what stands behind an operator of the front, or of the back
  record FrontOf (i : ℕ) : Type 0 where
    zs : List Operator
    long : suc i + length zs ≡ n
    before_is : drop (suc i) before ≡ zs ++ ys
    after_is : drop (suc i) after ≡ zs ++ (middle ++ ys)

  front_of : (i : ℕ) → i < n → FrontOf i
  front_of i l =
      let count = length-drop (suc i) xs in
      record {
        zs = drop (suc i) xs;
        long = omega arith;
        before_is = drop-append-le (suc i) xs ys (omega arith);
        after_is = drop-append-le (suc i) xs (middle ++ ys) (omega arith);
      }

  back_of : (i : ℕ) → n ≤ i → drop (suc (i + m)) after ≡ drop (suc i) before
  back_of i l =
      drop_behind xs (middle ++ ys) (suc (i - n) + m) (suc (i + m)) (omega arith) ∙
      (drop_behind middle ys (suc (i - n)) (suc (i - n) + m) (omega arith) ∙ sym (drop_behind xs ys (suc (i - n)) (suc i) (omega arith)))

  pub end_moved : (i : ℕ) → closing zero (suc (moved n m i)) (drop (suc (moved n m i)) after) ≡ moved n m (closing zero (suc i) (drop (suc i) before))
  end_moved i = elim (cases_lt i n) [
    | inl l ↦ let f = front_of i l in
        ap (λ j. closing zero (suc j) (drop (suc j) after)) (moved_before n m i l) ∙
        (ap (closing zero (suc i)) f.after_is ∙ (closing_front f.zs zero (suc i) f.long ∙ ap (λ os. moved n m (closing zero (suc i) os)) (sym f.before_is)))
    | inr l ↦ let a = closing_at_least zero (suc i) (drop (suc i) before) in
        ap (λ j. closing zero (suc j) (drop (suc j) after)) (moved_behind n m i l) ∙
        (ap (closing zero (suc (i + m))) (back_of i l) ∙
        (closing_shift m zero (suc i) (suc (i + m)) (drop (suc i) before) (omega arith) ∙
        sym (moved_behind n m (closing zero (suc i) (drop (suc i) before)) (omega arith))))
  ]

  pub part_moved : (i : ℕ) → other_part zero (suc (moved n m i)) (drop (suc (moved n m i)) after) ≡
      option_map (moved n m) (other_part zero (suc i) (drop (suc i) before))
  part_moved i = elim (cases_lt i n) [
    | inl l ↦ let f = front_of i l in
        ap (λ j. other_part zero (suc j) (drop (suc j) after)) (moved_before n m i l) ∙
        (ap (other_part zero (suc i)) f.after_is ∙
        (part_front f.zs zero (suc i) f.long ∙ ap (λ os. option_map (moved n m) (other_part zero (suc i) os)) (sym f.before_is)))
    | inr l ↦
        ap (λ j. other_part zero (suc j) (drop (suc j) after)) (moved_behind n m i l) ∙
        (ap (other_part zero (suc (i + m))) (back_of i l) ∙
        (part_shift m zero (suc i) (suc (i + m)) (drop (suc i) before) (omega arith) ∙
        shifted_moved n m (suc i) (omega arith) (other_part zero (suc i) (drop (suc i) before)) (part_at_least zero (suc i) (drop (suc i) before))))
  ]
