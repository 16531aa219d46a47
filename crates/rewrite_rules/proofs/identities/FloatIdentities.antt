-- Lines on the signs and the bits of floats are right.
use Rattle.std.proofs.Common.{ap, ◌∙◌}
use Rattle.std.specs.Prelude.{bit_and, bit_or, bit_xor}
use Rattle.wasm_code.specs.Table.{table, row_at}
use Rattle.wasm_execution.specs.declared.integer.IntegerType.{IntegerType}
use Rattle.wasm_execution.specs.declared.integer.IntegerType.TheVariants as integer
use Rattle.wasm_execution.specs.ExactRow.{exact_row}
use Rattle.wasm_execution.specs.IntegerRow.{integer_row}
use Rattle.rewrite_rules.specs.Exact.{exact_operator}
use Rattle.rewrite_rules.specs.Line.{IsRight}
use Rattle.rewrite_rules.proofs.identities.FloatWords as line
use Rattle.rewrite_rules.proofs.identities.FloatNumbers as number
use Rattle.rewrite_rules.proofs.identities.WidthLemmas.{ok}

-- ---- twice, and back

pub neg_twice : (t : IntegerType) → IsRight (line.neg_twice t)
unfolding exact_operator exact_row integer_row row_at table
neg_twice integer.I32 h c us vs a e = ap ok (number.neg_twice integer.I32 (h 0) (a 0))
neg_twice integer.I64 h c us vs a e = ap ok (number.neg_twice integer.I64 (h 0) (a 0))

pub abs_of_neg : (t : IntegerType) → IsRight (line.abs_of_neg t)
unfolding exact_operator exact_row integer_row row_at table
abs_of_neg integer.I32 h c us vs a e = ap ok (number.abs_of_neg integer.I32 (h 0) (a 0))
abs_of_neg integer.I64 h c us vs a e = ap ok (number.abs_of_neg integer.I64 (h 0) (a 0))

pub abs_twice : (t : IntegerType) → IsRight (line.abs_twice t)
unfolding exact_operator exact_row integer_row row_at table
abs_twice integer.I32 h c us vs a e = ap ok (number.abs_twice integer.I32 (h 0))
abs_twice integer.I64 h c us vs a e = ap ok (number.abs_twice integer.I64 (h 0))

pub float_back : (t : IntegerType) → IsRight (line.float_back t)
unfolding exact_operator exact_row integer_row row_at table
float_back integer.I32 h c us vs a e = ap ok (number.twice_kept 32 (h 0) (a 0))
float_back integer.I64 h c us vs a e = ap ok (number.twice_kept 64 (h 0) (a 0))

pub bits_back : (t : IntegerType) → IsRight (line.bits_back t)
unfolding exact_operator exact_row integer_row row_at table
bits_back integer.I32 h c us vs a e = ap ok (number.twice_kept 32 (h 0) (a 0))
bits_back integer.I64 h c us vs a e = ap ok (number.twice_kept 64 (h 0) (a 0))

-- ---- by bits

pub neg_by_bits : (t : IntegerType) → IsRight (line.neg_by_bits t)
unfolding exact_operator exact_row integer_row row_at table
neg_by_bits integer.I32 h c us vs a e = ap ok (number.by_bits 32 (λ n. bit_xor n 2147483648) (h 0) (a 0))
neg_by_bits integer.I64 h c us vs a e = ap ok (number.by_bits 64 (λ n. bit_xor n 9223372036854775808) (h 0) (a 0))

pub abs_by_bits : (t : IntegerType) → IsRight (line.abs_by_bits t)
unfolding exact_operator exact_row integer_row row_at table
abs_by_bits integer.I32 h c us vs a e = ap ok (number.by_bits 32 (λ n. bit_and n 2147483647) (h 0) (a 0))
abs_by_bits integer.I64 h c us vs a e = ap ok (number.by_bits 64 (λ n. bit_and n 9223372036854775807) (h 0) (a 0))

pub neg_abs_by_bits : (t : IntegerType) → IsRight (line.neg_abs_by_bits t)
unfolding exact_operator exact_row integer_row row_at table
neg_abs_by_bits integer.I32 h c us vs a e =
    ap ok (number.neg_of_abs integer.I32 (h 0) (a 0) ∙ number.by_bits 32 (λ n. bit_or n 2147483648) (h 0) (a 0))
neg_abs_by_bits integer.I64 h c us vs a e =
    ap ok (number.neg_of_abs integer.I64 (h 0) (a 0) ∙ number.by_bits 64 (λ n. bit_or n 9223372036854775808) (h 0) (a 0))

pub bits_of_neg : (t : IntegerType) → IsRight (line.bits_of_neg t)
unfolding exact_operator exact_row integer_row row_at table
bits_of_neg integer.I32 h c us vs a e = ap ok (number.bits_of 32 (λ n. bit_xor n 2147483648) (h 0) (a 0))
bits_of_neg integer.I64 h c us vs a e = ap ok (number.bits_of 64 (λ n. bit_xor n 9223372036854775808) (h 0) (a 0))

pub bits_of_abs : (t : IntegerType) → IsRight (line.bits_of_abs t)
unfolding exact_operator exact_row integer_row row_at table
bits_of_abs integer.I32 h c us vs a e = ap ok (number.bits_of 32 (λ n. bit_and n 2147483647) (h 0) (a 0))
bits_of_abs integer.I64 h c us vs a e = ap ok (number.bits_of 64 (λ n. bit_and n 9223372036854775807) (h 0) (a 0))

-- ---- the sign of another

pub copysign_of_neg : (t : IntegerType) → IsRight (line.copysign_of_neg t)
unfolding exact_operator exact_row integer_row row_at table
copysign_of_neg integer.I32 h c us vs a e = ap ok (number.copy_of_neg integer.I32 (h 0) (h 1) (a 0))
copysign_of_neg integer.I64 h c us vs a e = ap ok (number.copy_of_neg integer.I64 (h 0) (h 1) (a 0))

pub copysign_of_abs : (t : IntegerType) → IsRight (line.copysign_of_abs t)
unfolding exact_operator exact_row integer_row row_at table
copysign_of_abs integer.I32 h c us vs a e = ap ok (number.copy_of_abs integer.I32 (h 0) (h 1))
copysign_of_abs integer.I64 h c us vs a e = ap ok (number.copy_of_abs integer.I64 (h 0) (h 1))

pub own_sign : (t : IntegerType) → IsRight (line.own_sign t)
unfolding exact_operator exact_row integer_row row_at table
own_sign integer.I32 h c us vs a e = ap ok (number.own_sign integer.I32 (h 0) (a 0))
own_sign integer.I64 h c us vs a e = ap ok (number.own_sign integer.I64 (h 0) (a 0))

pub abs_of_copysign : (t : IntegerType) → IsRight (line.abs_of_copysign t)
unfolding exact_operator exact_row integer_row row_at table
abs_of_copysign integer.I32 h c us vs a e = ap ok (number.abs_of_copy integer.I32 (h 0) (h 1) (a 1))
abs_of_copysign integer.I64 h c us vs a e = ap ok (number.abs_of_copy integer.I64 (h 0) (h 1) (a 1))

pub sign_again : (t : IntegerType) → IsRight (line.sign_again t)
unfolding exact_operator exact_row integer_row row_at table
sign_again integer.I32 h c us vs a e = ap ok (number.sign_again integer.I32 (h 0) (h 1) (h 2) (a 1) (a 2))
sign_again integer.I64 h c us vs a e = ap ok (number.sign_again integer.I64 (h 0) (h 1) (h 2) (a 1) (a 2))

pub sign_of_sign : (t : IntegerType) → IsRight (line.sign_of_sign t)
unfolding exact_operator exact_row integer_row row_at table
sign_of_sign integer.I32 h c us vs a e = ap ok (number.sign_of_sign integer.I32 (h 0) (h 1) (h 2) (a 2))
sign_of_sign integer.I64 h c us vs a e = ap ok (number.sign_of_sign integer.I64 (h 0) (h 1) (h 2) (a 2))

pub sign_of_neg : (t : IntegerType) → IsRight (line.sign_of_neg t)
unfolding exact_operator exact_row integer_row row_at table
sign_of_neg integer.I32 h c us vs a e = ap ok (number.sign_of_neg integer.I32 (h 0) (h 1) (a 1))
sign_of_neg integer.I64 h c us vs a e = ap ok (number.sign_of_neg integer.I64 (h 0) (h 1) (a 1))

pub sign_of_own_neg : (t : IntegerType) → IsRight (line.sign_of_own_neg t)
unfolding exact_operator exact_row integer_row row_at table
sign_of_own_neg integer.I32 h c us vs a e = ap ok (number.sign_of_own_neg integer.I32 (h 0) (a 0))
sign_of_own_neg integer.I64 h c us vs a e = ap ok (number.sign_of_own_neg integer.I64 (h 0) (a 0))

pub sign_of_own_abs : (t : IntegerType) → IsRight (line.sign_of_own_abs t)
unfolding exact_operator exact_row integer_row row_at table
sign_of_own_abs integer.I32 h c us vs a e = ap ok (number.sign_of_own_abs integer.I32 (h 0))
sign_of_own_abs integer.I64 h c us vs a e = ap ok (number.sign_of_own_abs integer.I64 (h 0))
