-- Expressions on vectors whose operators go lane by lane: what holds of the numbers in a lane holds of the vectors.
use Rattle.std.proofs.Common.{◌≡◌, ℕ, zero, suc, ◌+◌, ◌*◌, ◌/◌, ◌%◌, ◌^◌, ◌<◌, refl, sym, ap, ap₂, ◌∙◌, subst, arith}
use Rattle.std.specs.Prelude.{bit_and, bit_or, bit_xor}
use Rattle.std.proofs.Math.Nat.{mod-eq_of_lt, mod-lt, zero-div, mul-zero, mul-suc}
use Rattle.std.proofs.lemmas.Nat.{pow_pos, pow-add, div-mul-add, mod-mul-add, mul-add-lt, div_below, div-add-mod', and_le_l, or_lt, xor_lt}
use Rattle.std.proofs.lemmas.Nat.{and_block, or_block, xor_block}
use Rattle.wasm_execution.specs.Lanes.{each_lane, each_pair}

-- which one of three vectors
pub data Place : Type 0 where
  first second third : Place

-- an expression: a vector, the same number in each lane, operators on lanes, those on bits, and what is left in 128 bits
pub data Laned : Type 0 where
  given : Place → Laned
  all : ℕ → Laned
  each : (ℕ → ℕ) → Laned → Laned
  pair : (ℕ → ℕ → ℕ) → Laned → Laned → Laned
  both either differ : Laned → Laned → Laned
  cut : Laned → Laned

module _ (b : ℕ) where
  -- the vector of so many lanes, of which nothing is cut
  abbrev vector : (count : ℕ) → (v : Place → ℕ) → Laned → ℕ
  vector c v (given i) = v i
  vector c v (all n) = each_lane b (λ k. n) c 0
  vector c v (each f p) = each_lane b f c (vector c v p)
  vector c v (pair f p q) = each_pair b f c (vector c v p) (vector c v q)
  vector c v (both p q) = bit_and (vector c v p) (vector c v q)
  vector c v (either p q) = bit_or (vector c v p) (vector c v q)
  vector c v (differ p q) = bit_xor (vector c v p) (vector c v q)
  vector c v (cut p) = vector c v p

  -- the number in a lane, by those of the vectors
  abbrev pub lane : (v : Place → ℕ) → Laned → ℕ
  lane v (given i) = v i
  lane v (all n) = n % 2 ^ b
  lane v (each f p) = f (lane v p) % 2 ^ b
  lane v (pair f p q) = f (lane v p) (lane v q) % 2 ^ b
  lane v (both p q) = bit_and (lane v p) (lane v q)
  lane v (either p q) = bit_or (lane v p) (lane v q)
  lane v (differ p q) = bit_xor (lane v p) (lane v q)
  lane v (cut p) = lane v p

  -- the vector, with what is left of it where it is cut
  abbrev pub number : (count : ℕ) → (v : Place → ℕ) → Laned → ℕ
  number c v (given i) = v i
  number c v (all n) = each_lane b (λ k. n) c 0
  number c v (each f p) = each_lane b f c (number c v p)
  number c v (pair f p q) = each_pair b f c (number c v p) (number c v q)
  number c v (both p q) = bit_and (number c v p) (number c v q)
  number c v (either p q) = bit_or (number c v p) (number c v q)
  number c v (differ p q) = bit_xor (number c v p) (number c v q)
  number c v (cut p) = number c v p % 2 ^ 128

  -- ---- what fits

  abbrev below : ℕ → (Place → ℕ) → Type 0
  below k v = (i : Place) → v i < 2 ^ k

  pub lane_fits : (n : ℕ) → n % 2 ^ b < 2 ^ b
  lane_fits n = mod-lt n (pow_pos b)

  and_lt : (k n m : ℕ) → n < 2 ^ k → bit_and n m < 2 ^ k
  and_lt k n m h = let l = and_le_l n m in omega arith

  more_lanes : (c : ℕ) → 2 ^ (b * suc c) ≡ 2 ^ b * 2 ^ (b * c)
  more_lanes c = ap (λ x. 2 ^ x) (mul-suc b c) ∙ (pow-add 2 (b * c) b ∙ omega arith)

  one_more : (c n r : ℕ) → n < 2 ^ (b * c) → r < 2 ^ b → n * 2 ^ b + r < 2 ^ (b * suc c)
  one_more c n r h l = subst (λ x. n * 2 ^ b + r < x) (sym (more_lanes c)) (mul-add-lt n (2 ^ b) r (2 ^ (b * c)) h l)

  one_less : (c n : ℕ) → n < 2 ^ (b * suc c) → n / 2 ^ b < 2 ^ (b * c)
  one_less c n h = div_below n (2 ^ b) (2 ^ (b * c)) (pow_pos b) (subst (λ x. n < x) (more_lanes c ∙ omega arith) h)

  pub lanes_fit : (f : ℕ → ℕ) (c n : ℕ) → each_lane b f c n < 2 ^ (b * c)
  unfolding each_lane
  lanes_fit f zero n = pow_pos (b * zero)
  lanes_fit f (suc c) n = one_more c (each_lane b f c (n / 2 ^ b)) (f (n % 2 ^ b) % 2 ^ b) (lanes_fit f c (n / 2 ^ b)) (lane_fits (f (n % 2 ^ b)))

  pub pairs_fit : (f : ℕ → ℕ → ℕ) (c n m : ℕ) → each_pair b f c n m < 2 ^ (b * c)
  unfolding each_pair
  pairs_fit f zero n m = pow_pos (b * zero)
  pairs_fit f (suc c) n m =
      one_more c (each_pair b f c (n / 2 ^ b) (m / 2 ^ b)) (f (n % 2 ^ b) (m % 2 ^ b) % 2 ^ b) (pairs_fit f c (n / 2 ^ b) (m / 2 ^ b))
      (lane_fits (f (n % 2 ^ b) (m % 2 ^ b)))

  vector_fits : (c : ℕ) (v : Place → ℕ) → below (b * c) v → (p : Laned) → vector c v p < 2 ^ (b * c)
  vector_fits c v h (given i) = h i
  vector_fits c v h (all n) = lanes_fit (λ k. n) c 0
  vector_fits c v h (each f p) = lanes_fit f c (vector c v p)
  vector_fits c v h (pair f p q) = pairs_fit f c (vector c v p) (vector c v q)
  vector_fits c v h (both p q) = and_lt (b * c) (vector c v p) (vector c v q) (vector_fits c v h p)
  vector_fits c v h (either p q) = or_lt (b * c) (vector c v p) (vector c v q) (vector_fits c v h p) (vector_fits c v h q)
  vector_fits c v h (differ p q) = xor_lt (b * c) (vector c v p) (vector c v q) (vector_fits c v h p) (vector_fits c v h q)
  vector_fits c v h (cut p) = vector_fits c v h p

  lane_within : (v : Place → ℕ) → below b v → (p : Laned) → lane v p < 2 ^ b
  lane_within v h (given i) = h i
  lane_within v h (all n) = lane_fits n
  lane_within v h (each f p) = lane_fits (f (lane v p))
  lane_within v h (pair f p q) = lane_fits (f (lane v p) (lane v q))
  lane_within v h (both p q) = and_lt b (lane v p) (lane v q) (lane_within v h p)
  lane_within v h (either p q) = or_lt b (lane v p) (lane v q) (lane_within v h p) (lane_within v h q)
  lane_within v h (differ p q) = xor_lt b (lane v p) (lane v q) (lane_within v h p) (lane_within v h q)
  lane_within v h (cut p) = lane_within v h p

  -- ---- the lowest lane, and the others

  module _ (v : Place → ℕ) where
    abbrev low : Place → ℕ
    low i = v i % 2 ^ b

    abbrev high : Place → ℕ
    high i = v i / 2 ^ b

    low_fits : below b low
    low_fits i = lane_fits (v i)

    -- an operator on bits goes lane by lane
    blocks : (g : ℕ → ℕ → ℕ) → ((a d r s : ℕ) → r < 2 ^ b → s < 2 ^ b → g (a * 2 ^ b + r) (d * 2 ^ b + s) ≡ g a d * 2 ^ b + g r s) →
        (n m a d r s : ℕ) → n ≡ a * 2 ^ b + r → m ≡ d * 2 ^ b + s → r < 2 ^ b → s < 2 ^ b → g n m ≡ g a d * 2 ^ b + g r s
    blocks g block n m a d r s e k l t = ap₂ g e k ∙ block a d r s l t

    split : (c : ℕ) (p : Laned) → vector (suc c) v p ≡ vector c high p * 2 ^ b + lane low p
    unfolding each_lane each_pair
    split c (given i) = sym (div-add-mod' (v i) (2 ^ b))
    split c (all n) = ap (λ x. each_lane b (λ k. n) c x * 2 ^ b + n % 2 ^ b) (zero-div (2 ^ b))
    split c (each f p) =
        let l = lane_within low low_fits p in
        ap (each_lane b f (suc c)) (split c p)
        ∙ ap₂ (λ x y. each_lane b f c x * 2 ^ b + f y % 2 ^ b) (div-mul-add (vector c high p) (2 ^ b) (lane low p) l)
        (mod-mul-add (vector c high p) (2 ^ b) (lane low p) l)
    split c (pair f p q) =
        let l = lane_within low low_fits p in
        let k = lane_within low low_fits q in
        let a = vector c high p in
        let d = vector c high q in
        ap₂ (each_pair b f (suc c)) (split c p) (split c q)
        ∙ (ap₂ (λ x y. each_pair b f c x y * 2 ^ b + f ((a * 2 ^ b + lane low p) % 2 ^ b) ((d * 2 ^ b + lane low q) % 2 ^ b) % 2 ^ b)
        (div-mul-add a (2 ^ b) (lane low p) l) (div-mul-add d (2 ^ b) (lane low q) k)
        ∙ ap₂ (λ x y. each_pair b f c a d * 2 ^ b + f x y % 2 ^ b) (mod-mul-add a (2 ^ b) (lane low p) l) (mod-mul-add d (2 ^ b) (lane low q) k))
    split c (both p q) =
        blocks bit_and (λ a d r s. and_block b a d r s) (vector (suc c) v p) (vector (suc c) v q) (vector c high p) (vector c high q) (lane low p) (lane low q)
        (split c p) (split c q) (lane_within low low_fits p) (lane_within low low_fits q)
    split c (either p q) =
        blocks bit_or (λ a d r s. or_block b a d r s) (vector (suc c) v p) (vector (suc c) v q) (vector c high p) (vector c high q) (lane low p) (lane low q)
        (split c p) (split c q) (lane_within low low_fits p) (lane_within low low_fits q)
    split c (differ p q) =
        blocks bit_xor (λ a d r s. xor_block b a d r s) (vector (suc c) v p) (vector (suc c) v q) (vector c high p) (vector c high q) (lane low p) (lane low q)
        (split c p) (split c q) (lane_within low low_fits p) (lane_within low low_fits q)
    split c (cut p) = split c p

  -- ---- the same in each lane

  -- The two have the same number in a lane, whatever is in the lanes of the vectors.
  abbrev pub SameLanes : Laned → Laned → Type 0
  SameLanes p q = (v : Place → ℕ) → ((i : Place) → v i < 2 ^ b) → lane v p ≡ lane v q

  only_zero : (n : ℕ) → n < 2 ^ (b * zero) → n ≡ 0
  only_zero n h = let l : n < 2 ^ 0 = subst (λ x. n < 2 ^ x) (mul-zero b) h in omega arith

  same_vectors : (p q : Laned) → SameLanes p q → (c : ℕ) (v : Place → ℕ) → below (b * c) v → vector c v p ≡ vector c v q
  same_vectors p q k zero v h = only_zero (vector zero v p) (vector_fits zero v h p) ∙ sym (only_zero (vector zero v q) (vector_fits zero v h q))
  same_vectors p q k (suc c) v h =
      split v c p ∙ (ap₂ (λ x y. x * 2 ^ b + y) (same_vectors p q k c (high v) (λ i. one_less c (v i) (h i))) (k (low v) (low_fits v)) ∙ sym (split v c q))

  -- ---- what is left in 128 bits is all

  module _ (c : ℕ) (whole : b * c ≡ 128) (v : Place → ℕ) (h : (i : Place) → v i < 2 ^ 128) where
    fits : below (b * c) v
    fits i = subst (λ x. v i < 2 ^ x) (sym whole) (h i)

    all_left : (p : Laned) → number c v p ≡ vector c v p
    all_left (given i) = refl
    all_left (all n) = refl
    all_left (each f p) = ap (each_lane b f c) (all_left p)
    all_left (pair f p q) = ap₂ (each_pair b f c) (all_left p) (all_left q)
    all_left (both p q) = ap₂ bit_and (all_left p) (all_left q)
    all_left (either p q) = ap₂ bit_or (all_left p) (all_left q)
    all_left (differ p q) = ap₂ bit_xor (all_left p) (all_left q)
    all_left (cut p) = ap (λ n. n % 2 ^ 128) (all_left p) ∙ mod-eq_of_lt (subst (λ x. vector c v p < 2 ^ x) whole (vector_fits c v fits p))

    pub same_numbers : (p q : Laned) → SameLanes p q → number c v p ≡ number c v q
    same_numbers p q k = all_left p ∙ (same_vectors p q k c v fits ∙ sym (all_left q))
