-- Lines on comparisons of floats are right.
use Rattle.std.proofs.Common.{◌≡◌, ℕ, ◌^◌, ◌<◌, Bool, true, false, [], ◌∷◌, refl, sym, ap, ap₂, ◌∙◌}
use Rattle.std.specs.Prelude.{not, ◌&&◌, ◌||◌, None}
use Rattle.wasm_code.specs.Table.{table, row_at}
use Rattle.wasm_execution.specs.declared.integer.IntegerType.{IntegerType}
use Rattle.wasm_execution.specs.declared.integer.IntegerType.TheVariants as integer
use Rattle.wasm_execution.specs.declared.operation.Binary.{Binary}
use Rattle.wasm_execution.specs.declared.operation.Binary.TheVariants.{And, Or}
use Rattle.wasm_execution.specs.declared.operation.Operation.TheVariants as operation
use Rattle.wasm_execution.specs.ExactRow.{exact_row}
use Rattle.wasm_execution.specs.IntegerRow.{integer_row}
use mir.Val.{bits}
use Rattle.wasm_execution.specs.Values.{width_of, IsOfType}
use Rattle.rewrite_rules.specs.declared.pattern.Operator.TheVariants.{Whole, Exact}
use Rattle.rewrite_rules.specs.Exact.{exact_operator}
use Rattle.rewrite_rules.specs.Line.{IsRight}
use Rattle.rewrite_rules.specs.Numbers.{value_on, or_zero}
use Rattle.rewrite_rules.proofs.identities.FloatWords.{float_of, neg_row}
use Rattle.rewrite_rules.proofs.identities.FloatTestWords as line
use Rattle.rewrite_rules.proofs.identities.FloatTestWords.{Test, equal, unequal, less, greater, at_most, at_least, holds, test_row}
use Rattle.rewrite_rules.proofs.identities.FloatNumbers as number
use Rattle.rewrite_rules.proofs.identities.FloatOrders as order
use Rattle.rewrite_rules.proofs.identities.ComparisonIdentities.{not_truth}
use Rattle.rewrite_rules.proofs.identities.WidthLemmas.{ok, truth}

-- ---- values

test_value : (t : IntegerType) (f : Test) (n m : ℕ) → value_on (Exact (test_row t f) None) (n ∷ m ∷ []) ≡ truth (holds (width_of t) f n m)
unfolding exact_operator exact_row integer_row row_at table
test_value integer.I32 equal n m = refl
test_value integer.I32 unequal n m = refl
test_value integer.I32 less n m = refl
test_value integer.I32 greater n m = refl
test_value integer.I32 at_most n m = refl
test_value integer.I32 at_least n m = refl
test_value integer.I64 equal n m = refl
test_value integer.I64 unequal n m = refl
test_value integer.I64 less n m = refl
test_value integer.I64 greater n m = refl
test_value integer.I64 at_most n m = refl
test_value integer.I64 at_least n m = refl

neg_value : (t : IntegerType) (n : ℕ) → value_on (Exact (neg_row t) None) (n ∷ []) ≡ ok (number.neg t n)
unfolding exact_operator exact_row integer_row row_at table
neg_value integer.I32 n = refl
neg_value integer.I64 n = refl

-- a float's number is below 2 ^ 32, or 2 ^ 64
below : (t : IntegerType) (n : ℕ) → IsOfType (float_of t) n → n < 2 ^ bits (width_of t)
below integer.I32 n h = h
below integer.I64 n h = h

-- ---- the other way round, and the opposite

-- a comparison that holds where another one holds of other operands
same_tests : (t : IntegerType) (f g : Test) (n m k l : ℕ) → holds (width_of t) f n m ≡ holds (width_of t) g k l →
    value_on (Exact (test_row t f) None) (n ∷ m ∷ []) ≡ value_on (Exact (test_row t g) None) (k ∷ l ∷ [])
same_tests t f g n m k l e = test_value t f n m ∙ (ap truth e ∙ sym (test_value t g k l))

pub turns : (f g : Test) → ((t : IntegerType) (n m : ℕ) → holds (width_of t) f n m ≡ holds (width_of t) g m n) → (t : IntegerType) → IsRight (line.turn f g t)
turns f g k t h c us vs a e = same_tests t f g (h 0) (h 1) (h 1) (h 0) (k t (h 0) (h 1))

-- the test of a comparison
zero_value : (t : IntegerType) (f : Test) (n m : ℕ) →
    value_on (Whole (operation.Eqz integer.I32)) (or_zero (value_on (Exact (test_row t f) None) (n ∷ m ∷ [])) ∷ []) ≡ truth (not (holds (width_of t) f n m))
zero_value t f n m =
    ap (λ r. value_on (Whole (operation.Eqz integer.I32)) (or_zero r ∷ [])) (test_value t f n m) ∙ not_truth (holds (width_of t) f n m)

pub negates : (f g : Test) → ((t : IntegerType) (n m : ℕ) → holds (width_of t) f n m ≡ not (holds (width_of t) g n m)) → (t : IntegerType) →
    IsRight (line.negate f g t)
negates f g k t h c us vs a e = test_value t f (h 0) (h 1) ∙ (ap truth (k t (h 0) (h 1)) ∙ sym (zero_value t g (h 0) (h 1)))

-- ---- a float and itself

pub never : (f : Test) → ((t : IntegerType) (n : ℕ) → holds (width_of t) f n n ≡ false) → IsRight (line.never f)
never f k h c us vs a e = test_value integer.I32 f (h 0) (h 0) ∙ ap truth (k integer.I32 (h 0))

pub never_wide : (f : Test) → ((t : IntegerType) (n : ℕ) → holds (width_of t) f n n ≡ false) → IsRight (line.never_wide f)
never_wide f k h c us vs a e = test_value integer.I64 f (h 1) (h 1) ∙ ap truth (k integer.I64 (h 1))

pub on_self : (f g : Test) → ((t : IntegerType) (n : ℕ) → holds (width_of t) f n n ≡ holds (width_of t) g n n) → (t : IntegerType) →
    IsRight (line.on_self f g t)
on_self f g k t h c us vs a e = same_tests t f g (h 0) (h 0) (h 0) (h 0) (k t (h 0))

-- ---- turned signs

pub turns_signs : (f : Test) → (t : IntegerType) → IsRight (line.turn_signs f t)
turns_signs f t h c us vs a e =
    ap₂ (λ p q. value_on (Exact (test_row t f) None) (or_zero p ∷ or_zero q ∷ [])) (neg_value t (h 0)) (neg_value t (h 1))
    ∙ same_tests t f f (number.neg t (h 0)) (number.neg t (h 1)) (h 1) (h 0)
    (order.holds_of_neg f t (h 0) (h 1) (below t (h 0) (a 0)) (below t (h 1) (a 1)))

-- ---- both orders, and both parts of one

-- an operator on two comparisons
of_two : (b : Binary) (t : IntegerType) (f g : Test) (n m : ℕ) (p : Bool) →
    value_on (Whole (operation.Binary integer.I32 b)) (or_zero (truth (holds (width_of t) f n m)) ∷ or_zero (truth (holds (width_of t) g n m)) ∷ []) ≡ truth p →
    value_on (Whole (operation.Binary integer.I32 b))
    (or_zero (value_on (Exact (test_row t f) None) (n ∷ m ∷ [])) ∷ or_zero (value_on (Exact (test_row t g) None) (n ∷ m ∷ [])) ∷ []) ≡ truth p
of_two b t f g n m p e =
    ap₂ (λ r s. value_on (Whole (operation.Binary integer.I32 b)) (or_zero r ∷ or_zero s ∷ [])) (test_value t f n m) (test_value t g n m) ∙ e

and_truth : (p q : Bool) → value_on (Whole (operation.Binary integer.I32 And)) (or_zero (truth p) ∷ or_zero (truth q) ∷ []) ≡ truth (p && q)
and_truth true true = refl
and_truth true false = refl
and_truth false true = refl
and_truth false false = refl

or_truth : (p q : Bool) → value_on (Whole (operation.Binary integer.I32 Or)) (or_zero (truth p) ∷ or_zero (truth q) ∷ []) ≡ truth (p || q)
or_truth true true = refl
or_truth true false = refl
or_truth false true = refl
or_truth false false = refl

pub both_orders : (t : IntegerType) → IsRight (line.both_orders t)
both_orders t h c us vs a e =
    let w = width_of t in
    test_value t equal (h 0) (h 1) ∙ sym (of_two And t at_most at_least (h 0) (h 1) (holds w equal (h 0) (h 1))
    (and_truth (holds w at_most (h 0) (h 1)) (holds w at_least (h 0) (h 1))))

pub both_parts : (f g : Test) → ((t : IntegerType) (n m : ℕ) → holds (width_of t) f n m ≡ (holds (width_of t) g n m || holds (width_of t) equal n m)) →
    (t : IntegerType) → IsRight (line.both_parts f g t)
both_parts f g k t h c us vs a e =
    let w = width_of t in
    test_value t f (h 0) (h 1) ∙ (ap truth (k t (h 0) (h 1))
    ∙ sym (of_two Or t g equal (h 0) (h 1) (holds w g (h 0) (h 1) || holds w equal (h 0) (h 1)) (or_truth (holds w g (h 0) (h 1)) (holds w equal (h 0) (h 1)))))
