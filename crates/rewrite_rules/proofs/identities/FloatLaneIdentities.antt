-- Tests of floats in lanes, and their pseudo-minimum and -maximum: sides that have the same number in each lane.
use Rattle.std.proofs.Common.{◌≡◌, ℕ, ◌%◌, ◌<◌, Bool, true, false, sym, ap, ◌∙◌}
use Rattle.std.specs.Prelude.{not, if◌then◌else◌}
use Rattle.std.proofs.Math.Bool.{and_comm}
use Rattle.std.proofs.Math.Nat.{mod-eq_of_lt, mod-mod}
use mir.Val.{bits}
use Rattle.wasm_execution.specs.declared.integer.IntegerType.TheVariants as integer
use Rattle.wasm_execution.specs.Lanes.{negated, float_lt, float_le, float_eq}
use Rattle.rewrite_rules.proofs.identities.ComparisonNumbers.{not_twice}
use Rattle.rewrite_rules.proofs.identities.LaneNumbers.{first, second, Laned, each, cut, SameLanes}
use Rattle.rewrite_rules.proofs.identities.VectorIdentities.{Right, by_lanes, x, y}
use Rattle.rewrite_rules.proofs.identities.LaneIdentities.{Whole, Sides, bound, words, doubles}
use Rattle.rewrite_rules.proofs.identities.FloatOrders.{lt_of_neg}
use Rattle.rewrite_rules.proofs.identities.LaneSignIdentities.{turned_back}
use Rattle.rewrite_rules.proofs.identities.LaneTestIdentities.{Test, AreTurned, AreOpposite, tested, passed, chosen, choice_by_mask}

-- ---- tests

abbrev pub eq : Test
eq s n m = float_eq s.width n m

abbrev pub ne : Test
ne s n m = not (float_eq s.width n m)

abbrev pub lt : Test
lt s n m = float_lt s.width n m

abbrev pub gt : Test
gt s n m = float_lt s.width m n

abbrev pub le : Test
le s n m = float_le s.width n m

abbrev pub ge : Test
ge s n m = float_le s.width m n

pub eq_turned : AreTurned eq eq
eq_turned s n m = and_comm (float_le s.width n m) (float_le s.width m n)

pub ne_turned : AreTurned ne ne
ne_turned s n m = ap not (eq_turned s n m)

pub eq_opposite : AreOpposite eq ne
eq_opposite s n m = not_twice (float_eq s.width n m)

-- ---- the pseudo-minimum and the pseudo-maximum as a selection by the lanes of a test

-- the second one where it is less
abbrev pub minimum_is_chosen : (w : Whole) → Sides w
minimum_is_chosen w = record {
  left = passed gt w x y;
  right = chosen w y x (tested lt w y x);
  same = λ v l. choice_by_mask w (lt w.shape (v second) (v first)) (v second) (v first);
}

-- the second one where the first one is less
abbrev pub maximum_is_chosen : (w : Whole) → Sides w
maximum_is_chosen w = record {
  left = passed lt w x y;
  right = chosen w y x (tested lt w x y);
  same = λ v l. choice_by_mask w (lt w.shape (v first) (v second)) (v second) (v first);
}

-- ---- each of them as the other one of negatives

-- the float in a lane with its sign turned
abbrev turned_sign : Whole → ℕ → ℕ
turned_sign w n = negated w.shape.width n % bound w

abbrev neg : Whole → Laned → Laned
neg w p = cut (each (negated w.shape.width) p)

-- floats fill the lanes: with their signs turned they are in the other order
pub record Floats : Type 0 where
  pub whole : Whole
  pub reversed : (n m : ℕ) → n < bound whole → m < bound whole →
      float_lt whole.shape.width (turned_sign whole n) (turned_sign whole m) ≡ float_lt whole.shape.width m n

abbrev pub of_words : Floats
of_words = record { whole = words; reversed = lt_of_neg integer.I32 }

abbrev pub of_doubles : Floats
of_doubles = record { whole = doubles; reversed = lt_of_neg integer.I64 }

-- one of two, by a test, and the negative of one of their negatives, by another one
abbrev one_of : Test → Whole → Laned
one_of f w = passed f w x y

abbrev by_negatives : Test → Whole → Laned
by_negatives f w = neg w (passed f w (neg w x) (neg w y))

-- they are the same where the other test of negatives is the test
same_by_negatives : (f g : Test) (w : Whole) →
    ((n m : ℕ) → n < bound w → m < bound w → g w.shape (turned_sign w n) (turned_sign w m) ≡ f w.shape n m) →
    SameLanes (bits w.shape.width) (one_of f w) (by_negatives g w)
same_by_negatives f g w k v l =
    let n = v first in
    let m = v second in
    sym (ap (λ c. turned_sign w ((if c then turned_sign w m else turned_sign w n) % bound w)) (k n m (l first) (l second))
    ∙ go n m (l first) (l second) (f w.shape n m))
  where
    back : (n : ℕ) → n < bound w → turned_sign w (turned_sign w n % bound w) ≡ n % bound w
    back n h = ap (turned_sign w) (mod-mod (negated w.shape.width n) (bound w)) ∙ (turned_back w n h ∙ sym (mod-eq_of_lt h))

    go : (n m : ℕ) → n < bound w → m < bound w → (c : Bool) →
        turned_sign w ((if c then turned_sign w m else turned_sign w n) % bound w) ≡ (if c then m else n) % bound w
    go n m h i true = back m i
    go n m h i false = back n h

minimum_is_same : (s : Floats) → SameLanes (bits s.whole.shape.width) (one_of gt s.whole) (by_negatives lt s.whole)
minimum_is_same s = same_by_negatives gt lt s.whole s.reversed

maximum_is_same : (s : Floats) → SameLanes (bits s.whole.shape.width) (one_of lt s.whole) (by_negatives gt s.whole)
maximum_is_same s = same_by_negatives lt gt s.whole (λ n m h i. s.reversed m n i h)

-- a line on the lanes of floats
abbrev RightFor : Floats → Laned → Laned → Type 0
RightFor s p q = Right (bits s.whole.shape.width) s.whole.shape.count p q

forth : (s : Floats) (p q : Laned) → SameLanes (bits s.whole.shape.width) p q → RightFor s p q
forth s p q k = by_lanes (bits s.whole.shape.width) s.whole.shape.count s.whole.fills p q k

back : (s : Floats) (p q : Laned) → SameLanes (bits s.whole.shape.width) p q → RightFor s q p
back s p q k = by_lanes (bits s.whole.shape.width) s.whole.shape.count s.whole.fills q p (λ v l. sym (k v l))

pub minimum_of_negatives : (s : Floats) → RightFor s (one_of gt s.whole) (by_negatives lt s.whole)
minimum_of_negatives s = forth s (one_of gt s.whole) (by_negatives lt s.whole) (minimum_is_same s)

pub maximum_of_negatives : (s : Floats) → RightFor s (one_of lt s.whole) (by_negatives gt s.whole)
maximum_of_negatives s = forth s (one_of lt s.whole) (by_negatives gt s.whole) (maximum_is_same s)

pub drop_negatives_of_maximum : (s : Floats) → RightFor s (by_negatives lt s.whole) (one_of gt s.whole)
drop_negatives_of_maximum s = back s (one_of gt s.whole) (by_negatives lt s.whole) (minimum_is_same s)

pub drop_negatives_of_minimum : (s : Floats) → RightFor s (by_negatives gt s.whole) (one_of lt s.whole)
drop_negatives_of_minimum s = back s (one_of lt s.whole) (by_negatives gt s.whole) (maximum_is_same s)
