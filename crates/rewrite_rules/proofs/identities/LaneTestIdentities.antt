-- Tests of lanes, and the smaller and the greater of two: sides that have the same number in each lane.
use Rattle.std.proofs.Common.{◌≡◌, ℕ, ℤ, ◌-◌, ◌%◌, ◌^◌, ◌<◌, Bool, true, false, refl, sym, ap, ap₂, ◌∙◌, arith}
use Rattle.std.specs.Prelude.{pos, negsuc, not, ◌==◌, nat_lt, nat_le, int_lt, bit_and, bit_or, bit_xor, if◌then◌else◌}
use Rattle.std.specs.Int.{cast_signed, cast_unsigned}
use Rattle.std.specs.Int.Bits.{xor_self, xor_zero_r, or_zero_r, or_zero_l, and_zero_r}
use Rattle.std.proofs.lemmas.Bool.{ltb-true, ltb-false}
use Rattle.std.proofs.lemmas.Int.{of_z-to_z}
use Rattle.std.proofs.lemmas.Nat.{pow_pos, and_mask}
use Rattle.std.proofs.Math.Nat.{mod-eq_of_lt, zero-mod}
use mir.Val.{bits}
use Rattle.wasm_execution.specs.Lanes.{Shape, mask}
use Rattle.wasm_execution.specs.ExactRow.{signed_lt, signed_le}
use Rattle.rewrite_rules.proofs.identities.ComparisonNumbers.{not_twice, le_is, lt_is, int_le_is, int_lt_is}
use Rattle.rewrite_rules.proofs.identities.ComparisonIdentities.{eq_comm}
use Rattle.rewrite_rules.proofs.identities.LaneNumbers.{first, second, Laned, all, pair, both, either, differ, cut}
use Rattle.rewrite_rules.proofs.identities.VectorIdentities.{x, y}
use Rattle.rewrite_rules.proofs.identities.LaneIdentities.{Whole, Sides, bound}

-- ---- tests

-- a test of two numbers in lanes of a shape
abbrev pub Test : Type 0
Test = Shape → ℕ → ℕ → Bool

abbrev pub eq : Test
eq s n m = n == m

abbrev pub ne : Test
ne s n m = not (n == m)

abbrev pub lt_s : Test
lt_s s n m = signed_lt s n m

abbrev pub lt_u : Test
lt_u s n m = nat_lt n m

abbrev pub gt_s : Test
gt_s s n m = signed_lt s m n

abbrev pub gt_u : Test
gt_u s n m = nat_lt m n

abbrev pub le_s : Test
le_s s n m = signed_le s n m

abbrev pub le_u : Test
le_u s n m = nat_le n m

abbrev pub ge_s : Test
ge_s s n m = signed_le s m n

abbrev pub ge_u : Test
ge_u s n m = nat_le m n

-- lanes of ones where it holds
abbrev pub tested : Test → Whole → Laned → Laned → Laned
tested f w p q = cut (pair (λ n m. mask w.shape.width (f w.shape n m)) p q)

abbrev full : Whole → Laned
full w = all (bound w - 1)

abbrev pub no : Whole → Laned → Laned
no w p = cut (differ (full w) p)

-- ---- turned

-- the test of the operands in the other order
abbrev pub AreTurned : Test → Test → Type 0
AreTurned f g = (s : Shape) (n m : ℕ) → f s n m ≡ g s m n

pub eq_turned : AreTurned eq eq
eq_turned s n m = eq_comm n m

pub ne_turned : AreTurned ne ne
ne_turned s n m = ap not (eq_comm n m)

abbrev pub turned : (f g : Test) → AreTurned f g → (w : Whole) → Sides w
turned f g k w = record {
  left = tested f w x y;
  right = tested g w y x;
  same = λ v l. ap (λ t. mask w.shape.width t % bound w) (k w.shape (v first) (v second));
}

-- ---- opposites

-- the test that holds where the other one doesn't
abbrev pub AreOpposite : Test → Test → Type 0
AreOpposite f g = (s : Shape) (n m : ℕ) → f s n m ≡ not (g s n m)

pub eq_opposite : AreOpposite eq ne
eq_opposite s n m = not_twice (n == m)

pub lt_s_opposite : AreOpposite lt_s ge_s
lt_s_opposite s n m = int_lt_is (cast_signed s.width n) (cast_signed s.width m)

pub lt_u_opposite : AreOpposite lt_u ge_u
lt_u_opposite s n m = lt_is n m

pub le_s_opposite : AreOpposite le_s gt_s
le_s_opposite s n m = int_le_is (cast_signed s.width n) (cast_signed s.width m)

pub le_u_opposite : AreOpposite le_u gt_u
le_u_opposite s n m = le_is n m

-- the same of the operands in the other order
pub other_way : (f g : Test) → AreOpposite f g → AreOpposite (λ s n m. f s m n) (λ s n m. g s m n)
other_way f g k s n m = k s m n

pub mask_of_not : (w : Whole) (t : Bool) → mask w.shape.width (not t) % bound w ≡ bit_xor ((bound w - 1) % bound w) (mask w.shape.width t % bound w)
mask_of_not w true = zero-mod (bound w) ∙ sym (xor_self ((bound w - 1) % bound w))
mask_of_not w false = sym (ap (bit_xor ((bound w - 1) % bound w)) (zero-mod (bound w)) ∙ xor_zero_r ((bound w - 1) % bound w))

abbrev pub opposite : (f g : Test) → AreOpposite f g → (w : Whole) → Sides w
opposite f g k w = record {
  left = tested f w x y;
  right = no w (tested g w x y);
  same = λ v l. ap (λ t. mask w.shape.width t % bound w) (k w.shape (v first) (v second)) ∙ mask_of_not w (g w.shape (v first) (v second));
}

-- ---- the smaller and the greater one

-- the first where the test holds, else the second
abbrev pub picked : Test → Whole → Laned → Laned → Laned
picked f w p q = cut (pair (λ n m. if f w.shape n m then n else m) p q)

-- the other way round
abbrev pub passed : Test → Whole → Laned → Laned → Laned
passed f w p q = cut (pair (λ n m. if f w.shape n m then m else n) p q)

-- numbers are the same where both are below the other, and where neither is
abbrev pub IsOrder : Test → Type 0
IsOrder f = (s : Shape) (n m : ℕ) → n < 2 ^ bits s.width → m < 2 ^ bits s.width → (c : Bool) → f s n m ≡ c → f s m n ≡ c → n ≡ m

order_of_numbers : (n m : ℕ) (c : Bool) → nat_lt n m ≡ c → nat_lt m n ≡ c → n ≡ m
order_of_numbers n m true a b = let i = ltb-true n m a in let j = ltb-true m n b in absurd (omega arith)
order_of_numbers n m false a b = let i = ltb-false n m a in let j = ltb-false m n b in omega arith

signed_numbers : (n m : ℤ) (c : Bool) → int_lt n m ≡ c → int_lt m n ≡ c → n ≡ m
signed_numbers (pos n) (pos m) c a b = ap pos (order_of_numbers n m c a b)
signed_numbers (pos n) (negsuc m) true a b = absurd cc
signed_numbers (pos n) (negsuc m) false a b = absurd cc
signed_numbers (negsuc n) (pos m) true a b = absurd cc
signed_numbers (negsuc n) (pos m) false a b = absurd cc
signed_numbers (negsuc n) (negsuc m) c a b = ap negsuc (order_of_numbers n m c b a)

pub unsigned_order : IsOrder lt_u
unsigned_order s n m h l c a b = order_of_numbers n m c a b

pub signed_order : IsOrder lt_s
signed_order s n m h l c a b =
    sym (of_z-to_z s.width n h) ∙ (ap (cast_unsigned s.width) (signed_numbers (cast_signed s.width n) (cast_signed s.width m) c a b) ∙ of_z-to_z s.width m l)

-- a choice between numbers that are the same where the two conditions are
choice_turns : (n m : ℕ) (a b : Bool) → ((c : Bool) → a ≡ c → b ≡ c → n ≡ m) → (if a then n else m) ≡ (if b then m else n)
choice_turns n m true true k = k true refl refl
choice_turns n m true false k = refl
choice_turns n m false true k = refl
choice_turns n m false false k = sym (k false refl refl)

pub picks_turned : (f : Test) → IsOrder f → (w : Whole) (n m : ℕ) → n < bound w → m < bound w →
    (if f w.shape n m then n else m) ≡ (if f w.shape m n then m else n)
picks_turned f o w n m h l = choice_turns n m (f w.shape n m) (f w.shape m n) (o w.shape n m h l)

pub passes_turned : (f : Test) → IsOrder f → (w : Whole) (n m : ℕ) → n < bound w → m < bound w →
    (if f w.shape n m then m else n) ≡ (if f w.shape m n then n else m)
passes_turned f o w n m h l = choice_turns m n (f w.shape n m) (f w.shape m n) (λ c a b. sym (o w.shape n m h l c a b))

abbrev pub smaller_turns : (f : Test) → IsOrder f → (w : Whole) → Sides w
smaller_turns f o w = record {
  left = picked f w x y;
  right = picked f w y x;
  same = λ v l. ap (λ n. n % bound w) (picks_turned f o w (v first) (v second) (l first) (l second));
}

abbrev pub greater_turns : (f : Test) → IsOrder f → (w : Whole) → Sides w
greater_turns f o w = record {
  left = passed f w x y;
  right = passed f w y x;
  same = λ v l. ap (λ n. n % bound w) (passes_turned f o w (v first) (v second) (l first) (l second));
}

-- of a number and itself
pub same_choice : (c : Bool) (n : ℕ) → (if c then n else n) ≡ n
same_choice true n = refl
same_choice false n = refl

abbrev pub smaller_of_same : Test → (w : Whole) → Sides w
smaller_of_same f w = record {
  left = x;
  right = picked f w x x;
  same = λ v l. sym (ap (λ n. n % bound w) (same_choice (f w.shape (v first) (v first)) (v first)) ∙ mod-eq_of_lt (l first));
}

abbrev pub greater_of_same : Test → (w : Whole) → Sides w
greater_of_same f w = record {
  left = x;
  right = passed f w x x;
  same = λ v l. sym (ap (λ n. n % bound w) (same_choice (f w.shape (v first) (v first)) (v first)) ∙ mod-eq_of_lt (l first));
}

-- ---- as a selection by the lanes of a test

abbrev pub chosen : Whole → Laned → Laned → Laned → Laned
chosen w p q r = cut (either (both p r) (both q (differ (full w) r)))

in_full : (w : Whole) (n : ℕ) → bit_and n ((bound w - 1) % bound w) ≡ n % bound w
in_full w n =
    let p = pow_pos (bits w.shape.width) in
    ap (bit_and n) (mod-eq_of_lt (omega arith)) ∙ and_mask n (bits w.shape.width)

pub choice_by_mask : (w : Whole) (t : Bool) (n m : ℕ) → (if t then n else m) % bound w
    ≡ bit_or (bit_and n (mask w.shape.width t % bound w)) (bit_and m (bit_xor ((bound w - 1) % bound w) (mask w.shape.width t % bound w)))
choice_by_mask w true n m =
    let F = (bound w - 1) % bound w in
    sym (ap (λ k. bit_or (bit_and n F) (bit_and m k)) (xor_self F) ∙ (ap (bit_or (bit_and n F)) (and_zero_r m) ∙ (or_zero_r (bit_and n F) ∙ in_full w n)))
choice_by_mask w false n m =
    let F = (bound w - 1) % bound w in
    sym (ap (λ k. bit_or (bit_and n k) (bit_and m (bit_xor F k))) (zero-mod (bound w))
    ∙ (ap₂ (λ k j. bit_or k (bit_and m j)) (and_zero_r n) (xor_zero_r F) ∙ (or_zero_l (bit_and m F) ∙ in_full w m)))

abbrev pub smaller_is_chosen : Test → (w : Whole) → Sides w
smaller_is_chosen f w = record {
  left = picked f w x y;
  right = chosen w x y (tested f w x y);
  same = λ v l. choice_by_mask w (f w.shape (v first) (v second)) (v first) (v second);
}

-- the greater one by the test of the operands in the other order
abbrev pub greater_is_chosen : (f : Test) → IsOrder f → (w : Whole) → Sides w
greater_is_chosen f o w = record {
  left = passed f w x y;
  right = chosen w x y (tested (λ s n m. f s m n) w x y);
  same = λ v l.
      ap (λ n. n % bound w) (passes_turned f o w (v first) (v second) (l first) (l second))
      ∙ choice_by_mask w (f w.shape (v second) (v first)) (v first) (v second);
}
