-- The lines that rules share, by an operator and a width, and the words that they are written in.
use Rattle.std.specs.Prelude.{ℕ, List, [], ◌∷◌}
use Rattle.wasm_types.specs.declared.types.PrimitiveTypeInfo.TheVariants as primitive
use Rattle.wasm_execution.specs.declared.integer.IntegerType.{IntegerType}
use Rattle.wasm_execution.specs.declared.integer.IntegerType.TheVariants as integer
use Rattle.wasm_execution.specs.declared.operation.Binary.{Binary}
use Rattle.wasm_execution.specs.declared.operation.Binary.TheVariants.{Add, Sub, Mul, DivS, DivU, RemS, RemU, And, Or, Xor, Shl, ShrS, ShrU, Rotl, Rotr}
use Rattle.wasm_execution.specs.declared.operation.Unary.{Unary}
use Rattle.wasm_execution.specs.declared.operation.Unary.TheVariants.{Popcnt}
use Rattle.wasm_execution.specs.declared.operation.Comparison.{Comparison}
use Rattle.wasm_execution.specs.declared.operation.Comparison.TheVariants.{Eq, Ne, LtS, LtU, GeU}
use Rattle.wasm_execution.specs.declared.operation.Operation.{Operation}
use Rattle.wasm_execution.specs.declared.operation.Operation.TheVariants as operation
use Rattle.wasm_execution.specs.Values.{type_of}
use Rattle.rewrite_rules.specs.declared.pattern.Operator.TheVariants.{Whole, Select}
use Rattle.rewrite_rules.specs.declared.pattern.Number.{Number}
use Rattle.rewrite_rules.specs.declared.pattern.Number.TheVariants.{Literal, Ones, Bits, Sign, Slot, Turned, Next, Previous, Negated, Power, Place, Sum}
use Rattle.rewrite_rules.specs.Pattern.{Kind, fixed, any, Pattern, hole, constant, drawn, apply, none, ◌▹◌}
use Rattle.rewrite_rules.specs.Line.{Line, Condition, is_below_width, is_power, is_mask, are_turns}

-- ---- words

-- operands
abbrev pub x : Pattern
x = hole 0

abbrev pub y : Pattern
y = hole 1

abbrev pub z : Pattern
z = hole 2

-- an operator of a type on two operands, a comparison, and the test whether a number is 0
abbrev pub two : IntegerType → Binary → Pattern → Pattern → Pattern
two t f p q = apply (Whole (operation.Binary t f)) (p ▹ q ▹ none)

abbrev pub compared : IntegerType → Comparison → Pattern → Pattern → Pattern
compared t f p q = apply (Whole (operation.Compare t f)) (p ▹ q ▹ none)

abbrev pub is_zero : IntegerType → Pattern → Pattern
is_zero t p = apply (Whole (operation.Eqz t)) (p ▹ none)

-- the first where the last one isn't 0, else the second
abbrev pub chosen : Pattern → Pattern → Pattern → Pattern
chosen p q r = apply Select (p ▹ q ▹ r ▹ none)

-- constants of a type: a number, and all ones
abbrev pub lit : IntegerType → ℕ → Pattern
lit t n = constant t (Literal n)

abbrev pub all : IntegerType → Pattern
all t = constant t Ones

-- the number of the constant that was matched
abbrev pub c : Number
c = Slot 0

-- three holes of the type
abbrev pub of_type : IntegerType → List Kind
of_type t = fixed (type_of t) ∷ fixed (type_of t) ∷ fixed (type_of t) ∷ []

-- a line whose holes are of one type; and one that asks something of its constant
abbrev pub line : IntegerType → Pattern → Pattern → Line
line t p q = record { left = p; right = q; kinds = of_type t; conditions = [] }

abbrev pub line_if : IntegerType → Condition → Pattern → Pattern → Line
line_if t k p q = record { left = p; right = q; kinds = of_type t; conditions = k ∷ [] }

-- the line read from right to left
abbrev pub back : (IntegerType → Line) → IntegerType → Line
back l t = record { left = (l t).right; right = (l t).left; kinds = (l t).kinds; conditions = (l t).conditions }

-- ---- operands in another order, or grouped otherwise

-- the operands change places
abbrev pub swap : Binary → IntegerType → Line
swap f t = line t (two t f x y) (two t f y x)

-- the operands of a comparison change places, and the comparison is turned around
abbrev pub turn : (f g : Comparison) → IntegerType → Line
turn f g t = line t (compared t f x y) (compared t g y x)

-- of three operands the first two together, in the place of the last two
abbrev pub group_left : Binary → IntegerType → Line
group_left f t = line t (two t f x (two t f y z)) (two t f (two t f x y) z)

-- of three operands the first two exchanged, where the last two stand together
abbrev pub exchanged : Binary → IntegerType → Line
exchanged f t = line t (two t f x (two t f y z)) (two t f y (two t f x z))

-- over both parts of an operand
abbrev pub parted : (f g : Binary) → IntegerType → Line
parted f g t = line t (two t f (two t g x y) (constant t c)) (two t g (two t f x (constant t c)) (two t f y (constant t c)))

-- the complement of both as both complements
abbrev pub complement : (f g : Binary) → IntegerType → Line
complement f g t = line t (two t Xor (two t f x y) (all t)) (two t g (two t Xor x (all t)) (two t Xor y (all t)))

-- ---- a number that changes nothing, or that decides alone

-- the number is dropped behind the operand
abbrev pub drop_number : Binary → Number → IntegerType → Line
drop_number f n t = line t (two t f x (constant t n)) x

-- the number stays alone, or comes behind a drawn one
abbrev pub alone : Binary → Number → IntegerType → Line
alone f n t = line t (two t f x (constant t n)) (constant t n)

-- the same of a number in front of the operand
abbrev pub drop_front : Binary → Number → IntegerType → Line
drop_front f n t = line t (two t f (constant t n) x) x

abbrev pub alone_front : Binary → Number → IntegerType → Line
alone_front f n t = line t (two t f (constant t n) x) (constant t n)

abbrev pub behind_drawn : Binary → Number → IntegerType → Line
behind_drawn f n t = line t (constant t n) (two t f (drawn t) (constant t n))

-- ---- an operand twice

-- two become one, and two leave 0
abbrev pub double : Binary → IntegerType → Line
double f t = line t (two t f x x) x

abbrev pub cancelled : Binary → IntegerType → Line
cancelled f t = line t (two t f x x) (lit t 0)

-- the complement of the complement
abbrev pub twice_complement : IntegerType → Line
twice_complement t = line t x (two t Xor (two t Xor x (all t)) (all t))

-- the same, with all ones in front: of the first complement, of the second one, of both
abbrev pub first_in_front : IntegerType → Line
first_in_front t = line t (two t Xor (two t Xor (all t) x) (all t)) x

abbrev pub second_in_front : IntegerType → Line
second_in_front t = line t (two t Xor (all t) (two t Xor x (all t))) x

abbrev pub both_in_front : IntegerType → Line
both_in_front t = line t (two t Xor (all t) (two t Xor (all t) x)) x

-- times two, or one place to the left, is a sum
abbrev pub product_double : IntegerType → Line
product_double t = line t (two t Mul x (lit t 2)) (two t Add x x)

abbrev pub shift_double : IntegerType → Line
shift_double t = line t (two t Shl x (lit t 1)) (two t Add x x)

-- an operand once more, where both are taken together already: in front of that, where it is the first or the last one there, or behind it, as well
abbrev pub again : Binary → IntegerType → Line
again f t = line t (two t f x (two t f x y)) (two t f x y)

abbrev pub again_turned : Binary → IntegerType → Line
again_turned f t = line t (two t f x (two t f y x)) (two t f x y)

abbrev pub first_again : Binary → IntegerType → Line
first_again f t = line t (two t f (two t f x y) x) (two t f x y)

abbrev pub last_again : Binary → IntegerType → Line
last_again f t = line t (two t f (two t f x y) y) (two t f x y)

-- an operand that one operator takes back out of what another made of it: behind that, where it is the first or the last one there, or in front of it
abbrev pub absorbed : (f g : Binary) → IntegerType → Line
absorbed f g t = line t (two t f x (two t g x y)) x

abbrev pub absorbed_turned : (f g : Binary) → IntegerType → Line
absorbed_turned f g t = line t (two t f x (two t g y x)) x

abbrev pub absorbed_first : (f g : Binary) → IntegerType → Line
absorbed_first f g t = line t (two t f (two t g x y) x) x

abbrev pub absorbed_last : (f g : Binary) → IntegerType → Line
absorbed_last f g t = line t (two t f (two t g x y) y) y

-- ---- another operator with another constant

-- a shift to the left as a product with a power of two, and back
abbrev pub shift_product : IntegerType → Line
shift_product t = line_if t (is_below_width t 0) (two t Shl x (constant t c)) (two t Mul x (constant t (Power 0)))

abbrev pub product_shift : IntegerType → Line
product_shift t = line_if t (is_power t 0) (two t Mul x (constant t c)) (two t Shl x (constant t (Place 0)))

-- a shift to the right as a quotient, and back
abbrev pub shift_quotient : IntegerType → Line
shift_quotient t = line_if t (is_below_width t 0) (two t ShrU x (constant t c)) (two t DivU x (constant t (Power 0)))

abbrev pub quotient_shift : IntegerType → Line
quotient_shift t = line_if t (is_power t 0) (two t DivU x (constant t c)) (two t ShrU x (constant t (Place 0)))

-- the low bits as a remainder, and back
abbrev pub mask_remainder : IntegerType → Line
mask_remainder t = line_if t (is_mask t 0) (two t And x (constant t c)) (two t RemU x (constant t (Next 0)))

abbrev pub remainder_mask : IntegerType → Line
remainder_mask t = line_if t (is_power t 0) (two t RemU x (constant t c)) (two t And x (constant t (Previous 0)))

-- what is left by 1
abbrev pub remainder_by_one : IntegerType → Line
remainder_by_one t = line t (two t RemU x (lit t 1)) (lit t 0)

-- with sign, by 1 and by -1
abbrev pub signed_remainder : Number → IntegerType → Line
signed_remainder n t = line t (two t RemS x (constant t n)) (lit t 0)

-- a turn to one side as a turn to the other
abbrev pub turn_right : IntegerType → Line
turn_right t = line t (two t Rotl x (constant t c)) (two t Rotr x (constant t (Turned 0)))

abbrev pub turn_left : IntegerType → Line
turn_left t = line t (two t Rotr x (constant t c)) (two t Rotl x (constant t (Turned 0)))

-- a turn as two shifts, and two shifts that are a turn
abbrev pub both_shifts : (f g : Binary) → Number → IntegerType → Pattern
both_shifts f g n t = two t Or (two t f x (constant t c)) (two t g x (constant t n))

abbrev pub turn_shifts : (turn f g : Binary) → IntegerType → Line
turn_shifts turn f g t = line t (two t turn x (constant t c)) (both_shifts f g (Turned 0) t)

abbrev pub shifts_turn : (turn f g : Binary) → IntegerType → Line
shifts_turn turn f g t = line_if t (are_turns t 0 1) (both_shifts f g (Slot 1) t) (two t turn x (constant t c))

-- a difference as a sum with the negated number, and back
abbrev pub difference_sum : IntegerType → Line
difference_sum t = line t (two t Sub x (constant t c)) (two t Add x (constant t (Negated 0)))

abbrev pub sum_difference : IntegerType → Line
sum_difference t = line t (two t Add x (constant t c)) (two t Sub x (constant t (Negated 0)))

-- two constants that are added, as their sum
abbrev pub join_sum : IntegerType → Line
join_sum t = line t (two t Add (two t Add x (constant t c)) (constant t (Slot 1))) (two t Add x (constant t (Sum 0 1)))

-- times -1
abbrev pub negated_product : IntegerType → Line
negated_product t = line t (two t Mul x (all t)) (two t Sub (lit t 0) x)

-- what was taken away comes back
abbrev pub sum_back : IntegerType → Line
sum_back t = line t (two t Add (two t Sub x y) y) x

-- what was left comes away
abbrev pub difference_back : IntegerType → Line
difference_back t = line t (two t Sub x (two t Sub x y)) y

-- half a number with sign, as a shift behind its highest bit, the one at that place, was added
abbrev pub half : IntegerType → ℕ → Line
half t place = line t (two t DivS x (lit t 2)) (two t ShrS (two t Add x (two t ShrU x (lit t place))) (lit t 1))

-- the same of an i32, behind whether it is below 0
abbrev pub half_by_test : Line
half_by_test =
    line integer.I32 (two integer.I32 ShrS (two integer.I32 Add x (compared integer.I32 LtS x (lit integer.I32 0))) (lit integer.I32 1))
    (two integer.I32 DivS x (lit integer.I32 2))

-- ---- halves

-- an operator on one operand
abbrev pub one : Operation → Pattern → Pattern
one f p = apply (Whole f) (p ▹ none)

-- the low half of an i64, by all ones in it, wrapped and extended without sign, and with sign
abbrev pub low_mask : Line
low_mask = line integer.I64 (two integer.I64 And x (lit integer.I64 4294967295)) (one operation.ExtendI32U (one operation.WrapI64 x))

abbrev pub low_signed : Line
low_signed = line integer.I64 (one operation.Extend32S x) (one operation.ExtendI32S (one operation.WrapI64 x))

-- what is wrapped, with another high half
abbrev pub wrap_masked : Line
wrap_masked = line integer.I64 (one operation.WrapI64 x) (one operation.WrapI64 (two integer.I64 And x (lit integer.I64 4294967295)))

abbrev pub wrap_signed : Line
wrap_signed = line integer.I64 (one operation.WrapI64 x) (one operation.WrapI64 (one operation.Extend32S x))

-- ---- counts of bits

abbrev pub counted : Unary → IntegerType → Pattern → Pattern
counted f t p = one (operation.Unary t f) p

-- whether a number is 0, by the bits that are set, and by how many stand below the lowest one, or above the highest one
abbrev pub test_by_popcnt : IntegerType → Line
test_by_popcnt t = line t (is_zero t x) (is_zero t (counted Popcnt t x))

abbrev pub test_by_zeros : Unary → IntegerType → Line
test_by_zeros f t = line t (is_zero t x) (compared t Eq (counted f t x) (constant t Bits))

-- whether it is not 0
abbrev pub tests_by_zeros : Unary → IntegerType → Line
tests_by_zeros f t = line t (compared t Ne (counted f t x) (constant t Bits)) (is_zero integer.I32 (is_zero t x))

-- those that are set in a test, and in a comparison
abbrev pub counted_test : IntegerType → Line
counted_test t = line t (counted Popcnt integer.I32 (is_zero t x)) (is_zero t x)

abbrev pub counted_comparison : Comparison → IntegerType → Line
counted_comparison f t = line t (counted Popcnt integer.I32 (compared t f x y)) (compared t f x y)

-- those that are set, by those that are set in the complement
abbrev pub popcnt_of_complement : IntegerType → Line
popcnt_of_complement t = line t (counted Popcnt t x) (two t Sub (constant t Bits) (counted Popcnt t (two t Xor x (all t))))

-- ---- tests

-- a comparison as the test of the one that holds where it doesn't
abbrev pub negate : (f g : Comparison) → IntegerType → Line
negate f g t = line t (compared t f x y) (is_zero integer.I32 (compared t g x y))

-- a test as a comparison with 0, and back
abbrev pub test_comparison : IntegerType → Line
test_comparison t = line t (is_zero t x) (compared t Eq x (lit t 0))

abbrev pub comparison_test : IntegerType → Line
comparison_test t = line t (compared t Eq x (lit t 0)) (is_zero t x)

-- a comparison with 0 as two tests, and back
abbrev pub difference_tests : IntegerType → Line
difference_tests t = line t (compared t Ne x (lit t 0)) (is_zero integer.I32 (is_zero t x))

abbrev pub tests_difference : IntegerType → Line
tests_difference t = line t (is_zero integer.I32 (is_zero t x)) (compared t Ne x (lit t 0))

-- a test of a test of a test
abbrev pub tested_thrice : IntegerType → Line
tested_thrice t = line t (is_zero integer.I32 (is_zero integer.I32 (is_zero t x))) (is_zero t x)

-- a difference that is 0
abbrev pub tested_difference : IntegerType → Line
tested_difference t = line t (is_zero t (two t Sub x y)) (compared t Eq x y)

-- whether two operands are equal, or are not, by their difference, and by the bits in which they differ
abbrev pub difference_some : IntegerType → Line
difference_some t = line t (compared t Ne x y) (compared t Ne (two t Sub x y) (lit t 0))

abbrev pub bits_none : IntegerType → Line
bits_none t = line t (compared t Eq x y) (is_zero t (two t Xor x y))

abbrev pub bits_some : IntegerType → Line
bits_some t = line t (compared t Ne x y) (compared t Ne (two t Xor x y) (lit t 0))

-- a comparison of numbers, as one of numbers with their highest bit turned
abbrev pub sign_turned : (f g : Comparison) → IntegerType → Line
sign_turned f g t = line t (compared t f x y) (compared t g (two t Xor x (constant t Sign)) (two t Xor y (constant t Sign)))

-- the same, of the second one where the first one's was turned
abbrev pub sign_moved : (f g : Comparison) → IntegerType → Line
sign_moved f g t = line t (compared t f (two t Xor x (constant t Sign)) y) (compared t g x (two t Xor (constant t Sign) y))

-- below 1
abbrev pub is_below_one : IntegerType → Line
is_below_one t = line t (compared t LtU x (lit t 1)) (is_zero t x)

-- above 0
abbrev pub above_zero : IntegerType → Line
above_zero t = line t (compared t LtU (lit t 0) x) (compared t Ne x (lit t 0))

-- below a power of two, and not below one, by what is left above its place
abbrev pub below_power : IntegerType → Line
below_power t = line_if t (is_power t 0) (compared t LtU x (constant t c)) (is_zero t (two t ShrU x (constant t (Place 0))))

abbrev pub from_power : IntegerType → Line
from_power t = line_if t (is_power t 0) (compared t GeU x (constant t c)) (compared t Ne (two t ShrU x (constant t (Place 0))) (lit t 0))

-- the same, by the number before it
abbrev pub power_bound : (f g : Comparison) → IntegerType → Line
power_bound f g t = line_if t (is_power t 0) (compared t f x (constant t c)) (compared t g x (constant t (Previous 0)))

-- what is left above a place, as below the power of two there, and as not below it
abbrev pub shift_below : IntegerType → Line
shift_below t = line_if t (is_below_width t 0) (is_zero t (two t ShrU x (constant t c))) (compared t LtU x (constant t (Power 0)))

abbrev pub shift_from : IntegerType → Line
shift_from t = line_if t (is_below_width t 0) (compared t Ne (two t ShrU x (constant t c)) (lit t 0)) (compared t GeU x (constant t (Power 0)))

-- by a power of two less one, and by the power
abbrev pub mask_bound : (f g : Comparison) → IntegerType → Line
mask_bound f g t = line_if t (is_mask t 0) (compared t f x (constant t c)) (compared t g x (constant t (Next 0)))

-- ---- selects

-- the other way, by the condition's test
abbrev pub select_turned : Line
select_turned = record { left = chosen x y z; right = chosen y x (is_zero integer.I32 z); kinds = any ∷ any ∷ fixed primitive.I32 ∷ []; conditions = [] }

-- of two that are the same
abbrev pub select_same : Line
select_same = record { left = chosen x x z; right = x; kinds = any ∷ any ∷ fixed primitive.I32 ∷ []; conditions = [] }
