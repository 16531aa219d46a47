-- Lines with a number that changes nothing, or that decides alone, are right.
use Rattle.std.proofs.Common.{◌≡◌, ℕ, ℤ, suc, Bool, true, false, None, Some, refl, ◌+◌, ◌-◌, ◌*◌, ◌/◌, ◌^◌, ◌<◌, [], ◌∷◌, sym, ap, ◌∙◌, arith, add_comm}
use Rattle.std.specs.Prelude.{pos, negsuc, neg_ℤ, ◌==◌, ◌&&◌, if◌then◌else◌, bit_and, bit_or, bit_xor, int_div, Ok}
use Rattle.std.specs.Int.{w32, w64, cast_signed, cast_unsigned}
use Rattle.std.proofs.lemmas.Int.{of_z-to_z}
use Rattle.std.specs.Int.Bits.{or_zero_r, xor_zero_r, and_zero_r, xor_comm}
use Rattle.std.proofs.lemmas.Nat.{and_comm, or_comm}
use Rattle.std.proofs.Math.Nat.{mod-eq_of_lt, add-mod_right, mul-one, mul-zero, div-one, mul_comm}
use mir.Val.{bits}
use Rattle.wasm_execution.specs.declared.integer.IntegerType.{IntegerType}
use Rattle.wasm_execution.specs.declared.integer.IntegerType.TheVariants as integer
use Rattle.wasm_execution.specs.declared.operation.Binary.{Binary}
use Rattle.wasm_execution.specs.declared.operation.Binary.TheVariants.{Add, Sub, Mul, DivS, DivU, And, Or, Xor, Shl, ShrS, ShrU, Rotl, Rotr}
use Rattle.wasm_execution.specs.declared.operation.Operation.TheVariants as operation
use Rattle.wasm_execution.specs.Values.{width_of, Cause}
use Rattle.wasm_execution.specs.Integer.{unless_zero}
use Rattle.wasm_execution.specs.Computed.{kept}
use Rattle.rewrite_rules.specs.declared.pattern.Number.{Number}
use Rattle.rewrite_rules.specs.declared.pattern.Number.TheVariants.{Literal, Ones, Bits}
use Rattle.rewrite_rules.specs.declared.pattern.Operator.TheVariants.{Whole}
use Rattle.rewrite_rules.specs.Numbers.{or_cause, value_on, low, number_of, first_word}
use Rattle.rewrite_rules.specs.Line.{IsRight}
use Rattle.rewrite_rules.proofs.identities.Words as line
use Rattle.rewrite_rules.proofs.identities.NumberLemmas.{and_ones_is, or_ones_is, sign_shifted_by_zero, joined_with_itself, itself_joined}
use Rattle.rewrite_rules.proofs.identities.WidthLemmas.{small, low_lt, zero_low, lit_low, ones_low, ok, same}

-- ---- a number that changes nothing

-- behind each number of the type this one leaves it as it is
abbrev pub Neutral : Binary → Number → IntegerType → Type 0
Neutral f e t = (c : ℕ → ℕ) (n : ℕ) → n < 2 ^ bits (width_of t) → value_on (Whole (operation.Binary t f)) (n ∷ low t (number_of t c e) ∷ []) ≡ Ok n

-- so it may be dropped
pub drops : (f : Binary) (e : Number) → ((t : IntegerType) → Neutral f e t) → (t : IntegerType) → IsRight (line.drop_number f e t)
drops f e k t h c us vs a i = k t c (h 0) (small t (h 0) (a 0))

-- so it may in front of them, where the operator's operands may change places
abbrev pub Commutes : Binary → IntegerType → Type 0
Commutes f t = (n m : ℕ) → value_on (Whole (operation.Binary t f)) (n ∷ m ∷ []) ≡ value_on (Whole (operation.Binary t f)) (m ∷ n ∷ [])

pub drops_front : (f : Binary) (e : Number) → ((t : IntegerType) → Commutes f t) → ((t : IntegerType) → Neutral f e t) → (t : IntegerType) →
    IsRight (line.drop_front f e t)
drops_front f e s k t h c us vs a i = s t (low t (number_of t c e)) (h 0) ∙ k t c (h 0) (small t (h 0) (a 0))

pub add_commutes : (t : IntegerType) → Commutes Add t
add_commutes t n m = ap (λ k. ok (low t k)) (add_comm n m)

pub mul_commutes : (t : IntegerType) → Commutes Mul t
mul_commutes t n m = ap (λ k. ok (low t k)) (mul_comm n m)

pub and_commutes : (t : IntegerType) → Commutes And t
and_commutes t n m = ap (λ k. ok (low t k)) (and_comm n m)

pub or_commutes : (t : IntegerType) → Commutes Or t
or_commutes t n m = ap (λ k. ok (low t k)) (or_comm n m)

pub xor_commutes : (t : IntegerType) → Commutes Xor t
xor_commutes t n m = ap (λ k. ok (low t k)) (xor_comm n m)

pub add_0 : (t : IntegerType) → Neutral Add (Literal 0) t
add_0 t c n l = let e : n + 0 ≡ n = omega arith in same t _ n l (ap (λ k. n + k) (zero_low t) ∙ e)

pub sub_0 : (t : IntegerType) → Neutral Sub (Literal 0) t
sub_0 t c n l =
    let M = 2 ^ bits (width_of t) in
    let e : n + (M - 0) ≡ n + M = omega arith in
    ap (λ k. ok (low t (n + (M - k)))) (zero_low t) ∙ ap ok (ap (low t) e ∙ (add-mod_right n M ∙ mod-eq_of_lt l))

pub mul_1 : (t : IntegerType) → Neutral Mul (Literal 1) t
mul_1 t c n l = same t _ n l (ap (λ k. n * k) (lit_low t 1 (omega arith)) ∙ mul-one n)

pub or_0 : (t : IntegerType) → Neutral Or (Literal 0) t
or_0 t c n l = same t _ n l (ap (bit_or n) (zero_low t) ∙ or_zero_r n)

pub xor_0 : (t : IntegerType) → Neutral Xor (Literal 0) t
xor_0 t c n l = same t _ n l (ap (bit_xor n) (zero_low t) ∙ xor_zero_r n)

pub and_1 : (t : IntegerType) → Neutral And Ones t
and_1 t c n l = ap (λ k. ok (low t (bit_and n k))) (ones_low t) ∙ ap ok (and_ones_is (bits (width_of t)) n l)

pub shl_0 : (t : IntegerType) → Neutral Shl (Literal 0) t
shl_0 integer.I32 c n l = same integer.I32 (n * 1) n l (mul-one n)
shl_0 integer.I64 c n l = same integer.I64 (n * 1) n l (mul-one n)

pub shr_s_0 : (t : IntegerType) → Neutral ShrS (Literal 0) t
shr_s_0 integer.I32 c n l = same integer.I32 _ n l (sign_shifted_by_zero w32 n l)
shr_s_0 integer.I64 c n l = same integer.I64 _ n l (sign_shifted_by_zero w64 n l)

pub shr_u_0 : (t : IntegerType) → Neutral ShrU (Literal 0) t
shr_u_0 integer.I32 c n l = same integer.I32 (n / 1) n l (div-one n)
shr_u_0 integer.I64 c n l = same integer.I64 (n / 1) n l (div-one n)

pub rotl_0 : (t : IntegerType) → Neutral Rotl (Literal 0) t
rotl_0 integer.I32 c n l = same integer.I32 _ n l (joined_with_itself n (2 ^ 32) l)
rotl_0 integer.I64 c n l = same integer.I64 _ n l (joined_with_itself n (2 ^ 64) l)

pub rotr_0 : (t : IntegerType) → Neutral Rotr (Literal 0) t
rotr_0 integer.I32 c n l = same integer.I32 _ n l (itself_joined n (2 ^ 32) l)
rotr_0 integer.I64 c n l = same integer.I64 _ n l (itself_joined n (2 ^ 64) l)

-- by one
divided : (t : IntegerType) (d n : ℕ) (cause : Cause) → d ≡ 1 → or_cause (kept (width_of t) (unless_zero d n)) cause ≡ ok (low t n)
divided t d n cause e = ap (λ k. or_cause (kept (width_of t) (unless_zero k n)) cause) e

pub div_u_1 : (t : IntegerType) → Neutral DivU (Literal 1) t
div_u_1 t c n l =
    let one = lit_low t 1 (omega arith) in
    divided t (low t 1) (n / low t 1) _ one ∙ same t _ n l (ap (λ k. n / k) one ∙ div-one n)

-- of the quotient with sign, which is not too large
whole : (z : ℤ) → int_div z (pos 1) ≡ z
whole (pos a) = ap pos (div-one a)
whole (negsuc a) = ap (λ n. neg_ℤ (pos n)) (div-one (suc a))

pub not_large : (t : IntegerType) (b : Bool) (n : ℕ) (cause : Cause) →
    or_cause (kept (width_of t) (if (b && false) then None else Some n)) cause ≡ ok (low t n)
not_large t true n cause = refl
not_large t false n cause = refl

pub div_s_1 : (t : IntegerType) → Neutral DivS (Literal 1) t
div_s_1 integer.I32 c n l =
    not_large integer.I32 (n == 2 ^ 31) _ _
    ∙ same integer.I32 (cast_unsigned w32 (int_div (cast_signed w32 n) (pos 1))) n l (ap (cast_unsigned w32) (whole (cast_signed w32 n)) ∙ of_z-to_z w32 n l)
div_s_1 integer.I64 c n l =
    not_large integer.I64 (n == 2 ^ 63) _ _
    ∙ same integer.I64 (cast_unsigned w64 (int_div (cast_signed w64 n) (pos 1))) n l (ap (cast_unsigned w64) (whole (cast_signed w64 n)) ∙ of_z-to_z w64 n l)

-- all the way round
pub shl_n : (t : IntegerType) → Neutral Shl Bits t
shl_n integer.I32 c n l = same integer.I32 (n * 1) n l (mul-one n)
shl_n integer.I64 c n l = same integer.I64 (n * 1) n l (mul-one n)

pub shr_s_n : (t : IntegerType) → Neutral ShrS Bits t
shr_s_n integer.I32 c n l = same integer.I32 _ n l (sign_shifted_by_zero w32 n l)
shr_s_n integer.I64 c n l = same integer.I64 _ n l (sign_shifted_by_zero w64 n l)

pub shr_u_n : (t : IntegerType) → Neutral ShrU Bits t
shr_u_n integer.I32 c n l = same integer.I32 (n / 1) n l (div-one n)
shr_u_n integer.I64 c n l = same integer.I64 (n / 1) n l (div-one n)

pub rotl_n : (t : IntegerType) → Neutral Rotl Bits t
rotl_n integer.I32 c n l = same integer.I32 _ n l (joined_with_itself n (2 ^ 32) l)
rotl_n integer.I64 c n l = same integer.I64 _ n l (joined_with_itself n (2 ^ 64) l)

pub rotr_n : (t : IntegerType) → Neutral Rotr Bits t
rotr_n integer.I32 c n l = same integer.I32 _ n l (itself_joined n (2 ^ 32) l)
rotr_n integer.I64 c n l = same integer.I64 _ n l (itself_joined n (2 ^ 64) l)

-- ---- a number that decides alone

pub and_alone : (t : IntegerType) → IsRight (line.alone And (Literal 0) t)
and_alone t h c us vs a e = ap (λ k. ok (low t (bit_and (h 0) k))) (zero_low t) ∙ ap (λ k. ok (low t k)) (and_zero_r (h 0))

pub mul_alone : (t : IntegerType) → IsRight (line.alone Mul (Literal 0) t)
mul_alone t h c us vs a e = ap (λ k. ok (low t (h 0 * k))) (zero_low t) ∙ ap (λ k. ok (low t k)) (mul-zero (h 0))

pub or_alone : (t : IntegerType) → IsRight (line.alone Or Ones t)
or_alone t h c us vs a e =
    ap (λ k. ok (low t (bit_or (h 0) k))) (ones_low t)
    ∙ ap ok (or_ones_is (bits (width_of t)) (h 0) (small t (h 0) (a 0)) ∙ sym (ones_low t))

-- the same in front of an operand
pub and_front : (t : IntegerType) → IsRight (line.alone_front And (Literal 0) t)
and_front t h c us vs a e = and_commutes t (low t 0) (h 0) ∙ and_alone t h c us vs a e

pub mul_front : (t : IntegerType) → IsRight (line.alone_front Mul (Literal 0) t)
mul_front t h c us vs a e = mul_commutes t (low t 0) (h 0) ∙ mul_alone t h c us vs a e

pub or_front : (t : IntegerType) → IsRight (line.alone_front Or Ones t)
or_front t h c us vs a e = or_commutes t (low t (2 ^ bits (width_of t) - 1)) (h 0) ∙ or_alone t h c us vs a e

pub and_drawn : (t : IntegerType) → IsRight (line.behind_drawn And (Literal 0) t)
and_drawn t h c us vs a e =
    let w = low t (first_word vs) in
    sym (ap (λ k. ok (low t (bit_and w k))) (zero_low t) ∙ ap (λ k. ok (low t k)) (and_zero_r w))

pub mul_drawn : (t : IntegerType) → IsRight (line.behind_drawn Mul (Literal 0) t)
mul_drawn t h c us vs a e =
    let w = low t (first_word vs) in
    sym (ap (λ k. ok (low t (w * k))) (zero_low t) ∙ ap (λ k. ok (low t k)) (mul-zero w))

pub or_drawn : (t : IntegerType) → IsRight (line.behind_drawn Or Ones t)
or_drawn t h c us vs a e =
    let w = low t (first_word vs) in
    sym (ap (λ k. ok (low t (bit_or w k))) (ones_low t) ∙ ap ok (or_ones_is (bits (width_of t)) w (low_lt t (first_word vs)) ∙ sym (ones_low t)))
