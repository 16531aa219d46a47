-- The order of floats, as their bits: of one and itself, of floats with turned signs, and its parts.
use Rattle.std.proofs.Common.{◌≡◌, ℕ, ℤ, zero, suc, ◌+◌, ◌^◌, ◌<◌, ◌≤◌, Bool, true, false, refl, sym, ap, ap₂, ◌∙◌, arith}
use Rattle.std.specs.Prelude.{pos, negsuc, neg_ℤ, not, ◌&&◌, ◌||◌, if◌then◌else◌, nat_lt, nat_le, int_lt, int_le}
use Rattle.std.proofs.Math.Bool.{and_comm, and_self}
use Rattle.std.proofs.lemmas.Bool.{lt-ltb, le-ltb, ltb-true, ltb-false}
use mir.Val.{bits}
use Rattle.wasm_execution.specs.declared.integer.IntegerType.{IntegerType}
use Rattle.wasm_execution.specs.Lanes.{magnitude, infinity, ordered, rank, float_lt, float_le, float_eq}
use Rattle.wasm_execution.specs.Values.{width_of}
use Rattle.rewrite_rules.proofs.identities.ComparisonNumbers.{int_le_is}
use Rattle.rewrite_rules.proofs.identities.FloatNumbers.{sign, neg, neg_off, neg_on, by_sign, magnitude_of_neg}
use Rattle.rewrite_rules.proofs.identities.FloatTestWords.{Test, holds, equal, unequal, less, greater, at_most, at_least}

-- ---- integers

next_lt : (n m : ℕ) → nat_lt (suc n) (suc m) ≡ nat_lt n m
next_lt n m = go (nat_lt n m) refl
  where
    go : (b : Bool) → nat_lt n m ≡ b → nat_lt (suc n) (suc m) ≡ b
    go true e = let l = ltb-true n m e in lt-ltb (suc n) (suc m) (omega arith)
    go false e = let l = ltb-false n m e in le-ltb (suc n) (suc m) (omega arith)

int_lt_neg : (a b : ℤ) → int_lt (neg_ℤ a) (neg_ℤ b) ≡ int_lt b a
int_lt_neg (pos zero) (pos zero) = refl
int_lt_neg (pos zero) (pos (suc m)) = sym (le-ltb (suc m) 0 (omega arith))
int_lt_neg (pos (suc n)) (pos zero) = sym (lt-ltb 0 (suc n) (omega arith))
int_lt_neg (pos (suc n)) (pos (suc m)) = sym (next_lt m n)
int_lt_neg (pos zero) (negsuc m) = lt-ltb 0 (suc m) (omega arith)
int_lt_neg (pos (suc n)) (negsuc m) = refl
int_lt_neg (negsuc n) (pos zero) = le-ltb (suc n) 0 (omega arith)
int_lt_neg (negsuc n) (pos (suc m)) = refl
int_lt_neg (negsuc n) (negsuc m) = next_lt n m

int_le_neg : (a b : ℤ) → int_le (neg_ℤ a) (neg_ℤ b) ≡ int_le b a
int_le_neg a b = int_le_is (neg_ℤ a) (neg_ℤ b) ∙ (ap not (int_lt_neg b a) ∙ sym (int_le_is b a))

neg_back : (n : ℕ) → neg_ℤ (neg_ℤ (pos n)) ≡ pos n
neg_back zero = refl
neg_back (suc n) = refl

not_itself : (a : ℤ) → int_lt a a ≡ false
not_itself (pos n) = le-ltb n n (omega arith)
not_itself (negsuc n) = le-ltb n n (omega arith)

not_back : (a b : ℤ) → int_lt a b ≡ true → int_lt b a ≡ false
not_back (pos n) (pos m) e = let l = ltb-true n m e in le-ltb m n (omega arith)
not_back (pos n) (negsuc m) e = absurd cc
not_back (negsuc n) (pos m) e = refl
not_back (negsuc n) (negsuc m) e = let l = ltb-true m n e in le-ltb n m (omega arith)

int_parts : (a b : ℤ) → int_le a b ≡ (int_lt a b || (int_le a b && int_le b a))
int_parts a b = go (int_lt a b) refl
  where
    less_too : (p : Bool) → p ≡ true → p ≡ (true || (p && int_le b a))
    less_too p e = e

    beside : (p : Bool) → p ≡ (p && not false)
    beside true = refl
    beside false = refl

    go : (p : Bool) → int_lt a b ≡ p → int_le a b ≡ (p || (int_le a b && int_le b a))
    go true e = less_too (int_le a b) (int_le_is a b ∙ ap not (not_back a b e))
    go false e = beside (int_le a b) ∙ ap (λ r. int_le a b && r) (sym (int_le_is b a ∙ ap not e))

-- ---- ranks

-- no NaNs in either order
ordered_turned : (t : IntegerType) (n m : ℕ) → ordered (width_of t) n m ≡ ordered (width_of t) m n
ordered_turned t n m =
    let w = width_of t in
    and_comm (nat_le (magnitude w n) (infinity w)) (nat_le (magnitude w m) (infinity w))

rank_off : (t : IntegerType) (n : ℕ) → n < sign t → rank (width_of t) n ≡ pos (magnitude (width_of t) n)
rank_off t n l =
    let m = magnitude (width_of t) n in
    ap (λ b. if b then pos m else neg_ℤ (pos m)) (lt-ltb n (sign t) l)

rank_on : (t : IntegerType) (n : ℕ) → sign t ≤ n → rank (width_of t) n ≡ neg_ℤ (pos (magnitude (width_of t) n))
rank_on t n l =
    let m = magnitude (width_of t) n in
    ap (λ b. if b then pos m else neg_ℤ (pos m)) (le-ltb n (sign t) l)

rank_of_neg : (t : IntegerType) (n : ℕ) → n < 2 ^ bits (width_of t) → rank (width_of t) (neg t n) ≡ neg_ℤ (rank (width_of t) n)
rank_of_neg t n h = by_sign t (λ n. n < 2 ^ bits (width_of t) → rank (width_of t) (neg t n) ≡ neg_ℤ (rank (width_of t) n))
    (λ n l h. let is = neg_off t n l in
    rank_on t (neg t n) (omega arith) ∙ (ap (λ m. neg_ℤ (pos m)) (magnitude_of_neg t n h) ∙ sym (ap neg_ℤ (rank_off t n l))))
    (λ n l h. let is = neg_on t n l in
    rank_off t (neg t (n + sign t)) (omega arith) ∙ (ap pos (magnitude_of_neg t (n + sign t) h)
    ∙ sym (ap neg_ℤ (rank_on t (n + sign t) (omega arith)) ∙ neg_back (magnitude (width_of t) (n + sign t))))) n h h

-- ---- turned signs

module _ (t : IntegerType) (n m : ℕ) (k : n < 2 ^ bits (width_of t)) (l : m < 2 ^ bits (width_of t)) where
  ordered_of_neg : ordered (width_of t) (neg t n) (neg t m) ≡ ordered (width_of t) m n
  ordered_of_neg =
      let w = width_of t in
      ap₂ (λ x y. nat_le x (infinity w) && nat_le y (infinity w)) (magnitude_of_neg t n k) (magnitude_of_neg t m l) ∙ ordered_turned t n m

  pub lt_of_neg : float_lt (width_of t) (neg t n) (neg t m) ≡ float_lt (width_of t) m n
  lt_of_neg =
      ap₂ (λ o p. o && p) ordered_of_neg
      (ap₂ int_lt (rank_of_neg t n k) (rank_of_neg t m l) ∙ int_lt_neg (rank (width_of t) n) (rank (width_of t) m))

  le_of_neg : float_le (width_of t) (neg t n) (neg t m) ≡ float_le (width_of t) m n
  le_of_neg =
      ap₂ (λ o p. o && p) ordered_of_neg
      (ap₂ int_le (rank_of_neg t n k) (rank_of_neg t m l) ∙ int_le_neg (rank (width_of t) n) (rank (width_of t) m))

eq_of_neg : (t : IntegerType) (n m : ℕ) → n < 2 ^ bits (width_of t) → m < 2 ^ bits (width_of t) →
    float_eq (width_of t) (neg t n) (neg t m) ≡ float_eq (width_of t) m n
eq_of_neg t n m k l = ap₂ (λ o p. o && p) (le_of_neg t n m k l) (le_of_neg t m n l k)

pub holds_of_neg : (f : Test) (t : IntegerType) (n m : ℕ) → n < 2 ^ bits (width_of t) → m < 2 ^ bits (width_of t) →
    holds (width_of t) f (neg t n) (neg t m) ≡ holds (width_of t) f m n
holds_of_neg equal t n m k l = eq_of_neg t n m k l
holds_of_neg unequal t n m k l = ap not (eq_of_neg t n m k l)
holds_of_neg less t n m k l = lt_of_neg t n m k l
holds_of_neg greater t n m k l = lt_of_neg t m n l k
holds_of_neg at_most t n m k l = le_of_neg t n m k l
holds_of_neg at_least t n m k l = le_of_neg t m n l k

-- ---- one float, and the parts of an order

pub eq_turned : (t : IntegerType) (n m : ℕ) → float_eq (width_of t) n m ≡ float_eq (width_of t) m n
eq_turned t n m = and_comm (float_le (width_of t) n m) (float_le (width_of t) m n)

pub not_less : (t : IntegerType) (n : ℕ) → float_lt (width_of t) n n ≡ false
not_less t n = ap (λ p. ordered (width_of t) n n && p) (not_itself (rank (width_of t) n)) ∙ go (ordered (width_of t) n n)
  where
    go : (o : Bool) → (o && false) ≡ false
    go true = refl
    go false = refl

pub equal_itself : (t : IntegerType) (n : ℕ) → float_eq (width_of t) n n ≡ float_le (width_of t) n n
equal_itself t n = and_self (float_le (width_of t) n n)

pub le_parts : (t : IntegerType) (n m : ℕ) → float_le (width_of t) n m ≡ (float_lt (width_of t) n m || float_eq (width_of t) n m)
le_parts t n m =
    let w = width_of t in
    let a = rank w n in
    let b = rank w m in
    go (ordered w n m) (int_le a b) (int_lt a b) (int_le b a) (int_parts a b)
    ∙ ap (λ o. (ordered w n m && int_lt a b) || ((ordered w n m && int_le a b) && (o && int_le b a))) (ordered_turned t n m)
  where
    go : (o e l r : Bool) → e ≡ (l || (e && r)) → (o && e) ≡ ((o && l) || ((o && e) && (o && r)))
    go true e l r h = h
    go false e l r h = refl

pub ge_parts : (t : IntegerType) (n m : ℕ) → float_le (width_of t) m n ≡ (float_lt (width_of t) m n || float_eq (width_of t) n m)
ge_parts t n m = le_parts t m n ∙ ap (λ e. float_lt (width_of t) m n || e) (eq_turned t m n)

-- equality as the opposite of its opposite
pub eq_is : (t : IntegerType) (n m : ℕ) → float_eq (width_of t) n m ≡ not (not (float_eq (width_of t) n m))
eq_is t n m = go (float_eq (width_of t) n m)
  where
    go : (b : Bool) → b ≡ not (not b)
    go true = refl
    go false = refl
