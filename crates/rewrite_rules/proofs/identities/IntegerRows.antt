-- The rows on integers are right.
use Rattle.std.proofs.Common.{◌%◌, ◌^◌, refl, sym, ap}
use Rattle.std.specs.Prelude.{not, take}
use Rattle.std.specs.Int.{w32, w64, cast_unsigned}
use Rattle.wasm_code.specs.Table.{table, row_at}
use Rattle.wasm_execution.specs.ExactRow.{exact_row}
use Rattle.wasm_execution.specs.IntegerRow.{integer_row}
use Rattle.wasm_execution.specs.declared.integer.IntegerType.{IntegerType}
use Rattle.wasm_execution.specs.declared.integer.IntegerType.TheVariants as integer
use Rattle.wasm_execution.specs.declared.operation.Binary.{Binary}
use Rattle.wasm_execution.specs.declared.operation.Binary.TheVariants.{Add, Sub, Mul, DivS, DivU, And, Or, Xor, Shl, ShrS, ShrU, Rotl, Rotr}
use Rattle.wasm_execution.specs.declared.operation.Unary.TheVariants.{Ctz}
use Rattle.wasm_execution.specs.declared.operation.Comparison.{Comparison}
use Rattle.wasm_execution.specs.declared.operation.Comparison.TheVariants.{Eq, Ne, LtS, LtU, GtS, GtU, LeS, LeU, GeS, GeU}
use Rattle.wasm_execution.specs.Operation.{comparison_of}
use Rattle.rewrite_rules.specs.declared.pattern.Number.{Number}
use Rattle.rewrite_rules.specs.declared.pattern.Number.TheVariants.{Literal, Ones, Bits}
use Rattle.rewrite_rules.specs.Exact.{exact_operator}
use Rattle.rewrite_rules.specs.Line.{IsRight}
use Rattle.rewrite_rules.specs.Table.{parts, rows_of, joined}
use Rattle.rewrite_rules.proofs.identities.Words as line
use Rattle.rewrite_rules.proofs.identities.RowLemmas.{AtRows, ◌▸◌, turned}
use Rattle.rewrite_rules.proofs.identities.ExtensionNumbers as number
use Rattle.rewrite_rules.proofs.identities.ComparisonNumbers as opposite
use Rattle.rewrite_rules.proofs.identities.SignNumbers as sign
use Rattle.rewrite_rules.proofs.identities.WidthLemmas.{ok}
use Rattle.rewrite_rules.proofs.identities.GroupIdentities as group
use Rattle.rewrite_rules.proofs.identities.NeutralIdentities as neutral
use Rattle.rewrite_rules.proofs.identities.AbsorptionIdentities as absorption
use Rattle.rewrite_rules.proofs.identities.ConstantIdentities as constant
use Rattle.rewrite_rules.proofs.identities.ComparisonIdentities as compare
use Rattle.rewrite_rules.proofs.identities.CountIdentities as count
use Rattle.rewrite_rules.proofs.identities.FloatTestWords.{equal}

-- a number that changes nothing is put behind an operand
puts : (f : Binary) (e : Number) → ((t : IntegerType) → neutral.Neutral f e t) → (t : IntegerType) → IsRight (line.back (line.drop_number f e) t)
puts f e k = turned (line.drop_number f e) (neutral.drops f e k)

-- the test of a comparison as the opposite one
drops_test : (f g : Comparison) → ((t : IntegerType) → opposite.AreOpposite t (comparison_of f) (comparison_of g)) → (t : IntegerType) →
    IsRight (line.back (line.negate f g) t)
drops_test f g o = turned (line.negate f g) (compare.negates f g o)

-- a comparison without sign as the one with it, with the highest bit turned
turns_round : (f g : Comparison) → ((t : IntegerType) → sign.AreTurned t (comparison_of f) (comparison_of g)) → (t : IntegerType) →
    IsRight (line.sign_turned g f t)
turns_round f g k = compare.turns_signs g f (λ t. sign.turned_round (comparison_of f) (comparison_of g) t (k t))

-- so with that bit of the first operand turned, as the one with that of the second one turned
moves_round : (f g : Comparison) → ((t : IntegerType) → sign.AreTurned t (comparison_of f) (comparison_of g)) → (t : IntegerType) →
    IsRight (line.sign_moved g f t)
moves_round f g k = compare.moves_sign g f (λ t. sign.turned_round (comparison_of f) (comparison_of g) t (k t))

-- row by row, in the order of the table, up to the last constant on integers
pub integer_rows_right : AtRows IsRight (rows_of (joined (take 21 parts)))
unfolding parts exact_operator exact_row integer_row row_at table
integer_rows_right =
    -- operands in another order
    group.add_swaps
    ▸ group.mul_swaps
    ▸ group.and_swaps
    ▸ group.or_swaps
    ▸ group.xor_swaps
    ▸ compare.turns Eq Eq (λ t n m. compare.eq_comm n m)
    ▸ compare.turns Ne Ne (λ t n m. ap not (compare.eq_comm n m))
    ▸ compare.turns LtS GtS (λ t n m. refl)
    ▸ compare.turns LtU GtU (λ t n m. refl)
    ▸ compare.turns LeS GeS (λ t n m. refl)
    ▸ compare.turns LeU GeU (λ t n m. refl)
    ▸ compare.turns GtS LtS (λ t n m. refl)
    ▸ compare.turns GtU LtU (λ t n m. refl)
    ▸ compare.turns GeS LeS (λ t n m. refl)
    ▸ compare.turns GeU LeU (λ t n m. refl)
    -- operands grouped otherwise
    ▸ group.add_groups
    ▸ group.mul_groups
    ▸ group.and_groups
    ▸ group.or_groups
    ▸ group.xor_groups
    ▸ turned (line.group_left Add) group.add_groups
    ▸ turned (line.group_left Mul) group.mul_groups
    ▸ turned (line.group_left And) group.and_groups
    ▸ turned (line.group_left Or) group.or_groups
    ▸ turned (line.group_left Xor) group.xor_groups
    -- an operation more that changes nothing
    ▸ puts Add (Literal 0) neutral.add_0
    ▸ puts Sub (Literal 0) neutral.sub_0
    ▸ puts Mul (Literal 1) neutral.mul_1
    ▸ puts Or (Literal 0) neutral.or_0
    ▸ puts Xor (Literal 0) neutral.xor_0
    ▸ puts And Ones neutral.and_1
    ▸ puts Shl (Literal 0) neutral.shl_0
    ▸ turned (line.double Or) group.or_twice
    ▸ turned (line.double And) group.and_twice
    ▸ group.complement_twice
    -- another form, with another constant or operator
    ▸ constant.shift_product
    ▸ constant.product_shift
    ▸ constant.difference_sum
    ▸ constant.sum_difference
    ▸ compare.test_comparison
    ▸ compare.comparison_test
    ▸ compare.select_turns
    ▸ tt
    ▸ tt
    ▸ tt
    ▸ tt
    -- a number that changes nothing, dropped or put
    ▸ neutral.drops Add (Literal 0) neutral.add_0
    ▸ neutral.drops Sub (Literal 0) neutral.sub_0
    ▸ neutral.drops Mul (Literal 1) neutral.mul_1
    ▸ neutral.drops Or (Literal 0) neutral.or_0
    ▸ neutral.drops Xor (Literal 0) neutral.xor_0
    ▸ neutral.drops And Ones neutral.and_1
    ▸ neutral.drops Shl (Literal 0) neutral.shl_0
    ▸ tt
    ▸ puts ShrS (Literal 0) neutral.shr_s_0
    ▸ puts ShrU (Literal 0) neutral.shr_u_0
    ▸ puts Rotl (Literal 0) neutral.rotl_0
    ▸ puts Rotr (Literal 0) neutral.rotr_0
    ▸ neutral.drops ShrS (Literal 0) neutral.shr_s_0
    ▸ neutral.drops ShrU (Literal 0) neutral.shr_u_0
    ▸ neutral.drops Rotl (Literal 0) neutral.rotl_0
    ▸ neutral.drops Rotr (Literal 0) neutral.rotr_0
    -- another operator with another constant
    ▸ constant.quotient_shift
    ▸ constant.shift_quotient
    ▸ constant.remainder_mask
    ▸ constant.mask_remainder
    ▸ constant.turn_right
    ▸ constant.turn_left
    ▸ constant.product_double
    ▸ constant.shift_double
    -- an operand that stands twice
    ▸ group.cancels_sub
    ▸ group.cancels_xor
    ▸ group.or_twice
    ▸ group.and_twice
    ▸ turned line.product_double constant.product_double
    ▸ turned line.shift_double constant.shift_double
    ▸ compare.select_drops
    -- a number that decides alone
    ▸ neutral.and_drawn
    ▸ neutral.mul_drawn
    ▸ neutral.or_drawn
    ▸ neutral.and_alone
    ▸ neutral.mul_alone
    ▸ neutral.or_alone
    -- a comparison as the test of its opposite, and something wider
    ▸ compare.negates Eq Ne opposite.eq_opposite
    ▸ compare.negates Ne Eq opposite.ne_opposite
    ▸ compare.negates LtS GeS opposite.lt_s_opposite
    ▸ compare.negates LtU GeU opposite.lt_u_opposite
    ▸ compare.negates GtS LeS opposite.gt_s_opposite
    ▸ compare.negates GtU LeU opposite.gt_u_opposite
    ▸ compare.negates LeS GtS opposite.le_s_opposite
    ▸ compare.negates LeU GtU opposite.le_u_opposite
    ▸ compare.negates GeS LtS opposite.ge_s_opposite
    ▸ compare.negates GeU LtU opposite.ge_u_opposite
    ▸ compare.difference_tests
    ▸ (λ h c us vs a e. ap ok (sym (number.low_half (h 0) (a 0))))
    -- the test of a comparison as its opposite
    ▸ drops_test Eq Ne opposite.eq_opposite
    ▸ drops_test Ne Eq opposite.ne_opposite
    ▸ drops_test LtS GeS opposite.lt_s_opposite
    ▸ drops_test LtU GeU opposite.lt_u_opposite
    ▸ drops_test GtS LeS opposite.gt_s_opposite
    ▸ drops_test GtU LeU opposite.gt_u_opposite
    ▸ drops_test LeS GtS opposite.le_s_opposite
    ▸ drops_test LeU GtU opposite.le_u_opposite
    ▸ drops_test GeS LtS opposite.ge_s_opposite
    ▸ drops_test GeU LtU opposite.ge_u_opposite
    -- over both parts of an operand, and something narrower
    ▸ group.product_parts
    ▸ group.mask_parts
    ▸ group.and_complements
    ▸ group.or_complements
    ▸ (λ h c us vs a e. ap (λ z. ok (cast_unsigned w32 z % 2 ^ 32)) (number.low_8_of_32 (h 0)))
    ▸ (λ h c us vs a e. ap (λ z. ok (cast_unsigned w32 z % 2 ^ 32)) (number.low_16_of_32 (h 0)))
    ▸ (λ h c us vs a e. ap (λ z. ok (cast_unsigned w64 z % 2 ^ 64)) (number.low_8_of_64 (h 0)))
    ▸ (λ h c us vs a e. ap (λ z. ok (cast_unsigned w64 z % 2 ^ 64)) (number.low_16_of_64 (h 0)))
    ▸ (λ h c us vs a e. ap (λ z. ok (cast_unsigned w64 z % 2 ^ 64)) (number.low_32_of_64 (h 0)))
    ▸ compare.tests_difference
    ▸ (λ h c us vs a e. ap ok (number.low_half (h 0) (a 0)))
    ▸ (λ h c us vs a e. ap ok (number.signed_low_half (h 0) (a 0)))
    ▸ turned (line.complement And Or) group.and_complements
    ▸ turned (line.complement Or And) group.or_complements
    ▸ tt
    -- shorter at once
    ▸ constant.sum_joins
    ▸ compare.difference_tests_equal
    ▸ group.or_again
    ▸ constant.product_negates
    ▸ compare.one_below
    ▸ group.sum_goes_back
    -- what other rules made, turned back
    ▸ tt
    ▸ turned line.twice_complement group.complement_twice
    ▸ turned (λ t. line.select_turned) (λ t. compare.select_turns) integer.I32
    ▸ turned (line.parted Mul Add) group.product_parts
    ▸ turned (line.parted And Or) group.mask_parts
    ▸ (λ h c us vs a e. sym (ap (λ z. ok (cast_unsigned w32 z % 2 ^ 32)) (number.low_8_of_32 (h 0))))
    ▸ (λ h c us vs a e. sym (ap (λ z. ok (cast_unsigned w32 z % 2 ^ 32)) (number.low_16_of_32 (h 0))))
    ▸ (λ h c us vs a e. sym (ap (λ z. ok (cast_unsigned w64 z % 2 ^ 64)) (number.low_8_of_64 (h 0))))
    ▸ (λ h c us vs a e. sym (ap (λ z. ok (cast_unsigned w64 z % 2 ^ 64)) (number.low_16_of_64 (h 0))))
    ▸ (λ h c us vs a e. sym (ap (λ z. ok (cast_unsigned w64 z % 2 ^ 64)) (number.low_32_of_64 (h 0))))
    ▸ tt
    -- a number in front of an operand
    ▸ neutral.drops_front Add (Literal 0) neutral.add_commutes neutral.add_0
    ▸ neutral.drops_front Or (Literal 0) neutral.or_commutes neutral.or_0
    ▸ neutral.drops_front Xor (Literal 0) neutral.xor_commutes neutral.xor_0
    ▸ neutral.drops_front Mul (Literal 1) neutral.mul_commutes neutral.mul_1
    ▸ neutral.drops_front And Ones neutral.and_commutes neutral.and_1
    ▸ neutral.and_front
    ▸ neutral.mul_front
    ▸ neutral.or_front
    ▸ group.complement_first
    ▸ group.complement_second
    ▸ group.complement_both
    -- once more, by one, or all the way round
    ▸ neutral.drops DivU (Literal 1) neutral.div_u_1
    ▸ neutral.drops DivS (Literal 1) neutral.div_s_1
    ▸ constant.remainder_one
    ▸ constant.remainder_signed_one
    ▸ constant.remainder_ones
    ▸ neutral.drops Rotl Bits neutral.rotl_n
    ▸ neutral.drops Rotr Bits neutral.rotr_n
    ▸ neutral.drops Shl Bits neutral.shl_n
    ▸ neutral.drops ShrS Bits neutral.shr_s_n
    ▸ neutral.drops ShrU Bits neutral.shr_u_n
    ▸ group.and_again
    ▸ group.and_again_turned
    ▸ group.and_first_again
    ▸ group.and_last_again
    ▸ group.or_again_turned
    ▸ group.or_first_again
    ▸ group.or_last_again
    -- with the highest bit turned
    ▸ compare.turns_signs LtS LtU sign.lt_turned
    ▸ compare.turns_signs LeS LeU sign.le_turned
    ▸ compare.turns_signs GtS GtU sign.gt_turned
    ▸ compare.turns_signs GeS GeU sign.ge_turned
    ▸ turns_round LtS LtU sign.lt_turned
    ▸ turns_round LeS LeU sign.le_turned
    ▸ turns_round GtS GtU sign.gt_turned
    ▸ turns_round GeS GeU sign.ge_turned
    ▸ turned (line.sign_turned LtS LtU) (compare.turns_signs LtS LtU sign.lt_turned)
    ▸ turned (line.sign_turned LeS LeU) (compare.turns_signs LeS LeU sign.le_turned)
    ▸ turned (line.sign_turned GtS GtU) (compare.turns_signs GtS GtU sign.gt_turned)
    ▸ turned (line.sign_turned GeS GeU) (compare.turns_signs GeS GeU sign.ge_turned)
    ▸ turned (line.sign_turned LtU LtS) (turns_round LtS LtU sign.lt_turned)
    ▸ turned (line.sign_turned LeU LeS) (turns_round LeS LeU sign.le_turned)
    ▸ turned (line.sign_turned GtU GtS) (turns_round GtS GtU sign.gt_turned)
    ▸ turned (line.sign_turned GeU GeS) (turns_round GeS GeU sign.ge_turned)
    -- whether operands are equal, and halves of an i64
    ▸ turned line.tested_difference compare.difference_tests_equal
    ▸ compare.difference_some
    ▸ compare.bits_none
    ▸ compare.bits_some
    ▸ turned line.difference_some compare.difference_some
    ▸ turned line.bits_none compare.bits_none
    ▸ turned line.bits_some compare.bits_some
    ▸ (λ h c us vs a e. ap ok (number.masked_half (h 0)))
    ▸ (λ h c us vs a e. sym (ap ok (number.masked_half (h 0))))
    ▸ (λ h c us vs a e. ap ok (number.signed_half (h 0)))
    ▸ (λ h c us vs a e. sym (ap ok (number.signed_half (h 0))))
    ▸ (λ h c us vs a e. sym (ap ok (number.half_of_masked (h 0))))
    ▸ (λ h c us vs a e. sym (ap ok (number.half_of_signed (h 0))))
    ▸ (λ h c us vs a e. ap ok (number.half_of_masked (h 0)))
    ▸ (λ h c us vs a e. ap ok (number.half_of_signed (h 0)))
    -- a quotient by one, and bits that are counted
    ▸ puts DivU (Literal 1) neutral.div_u_1
    ▸ puts DivS (Literal 1) neutral.div_s_1
    ▸ count.test_by_popcnt integer.I32
    ▸ count.test_by_popcnt integer.I64
    ▸ count.test_by_zeros Ctz count.by_ctz integer.I32
    ▸ count.test_by_zeros Ctz count.by_ctz integer.I64
    ▸ turned line.test_by_popcnt count.test_by_popcnt integer.I32
    ▸ turned line.test_by_popcnt count.test_by_popcnt integer.I64
    ▸ turned (line.test_by_zeros Ctz) (count.test_by_zeros Ctz count.by_ctz) integer.I32
    ▸ turned (line.test_by_zeros Ctz) (count.test_by_zeros Ctz count.by_ctz) integer.I64
    ▸ count.tests_by_zeros Ctz count.by_ctz integer.I32
    ▸ count.tests_by_zeros Ctz count.by_ctz integer.I64
    ▸ count.popcnt_of_complement integer.I32
    ▸ count.popcnt_of_complement integer.I64
    ▸ turned line.popcnt_of_complement count.popcnt_of_complement integer.I32
    ▸ turned line.popcnt_of_complement count.popcnt_of_complement integer.I64
    -- a turn as two shifts
    ▸ constant.rotl_shifts
    ▸ constant.rotr_shifts
    ▸ constant.shifts_rotl
    ▸ constant.shifts_rotr
    -- an operand that another one decides, or that another one undoes
    ▸ absorption.absorbs And Or absorption.and_absorbs
    ▸ absorption.absorbs_turned And Or neutral.or_commutes absorption.and_absorbs
    ▸ absorption.absorbs_first And Or neutral.and_commutes absorption.and_absorbs
    ▸ absorption.absorbs_last And Or neutral.and_commutes neutral.or_commutes absorption.and_absorbs
    ▸ absorption.absorbs Or And absorption.or_absorbs
    ▸ absorption.absorbs_turned Or And neutral.and_commutes absorption.or_absorbs
    ▸ absorption.absorbs_first Or And neutral.or_commutes absorption.or_absorbs
    ▸ absorption.absorbs_last Or And neutral.or_commutes neutral.and_commutes absorption.or_absorbs
    ▸ group.difference_goes_back
    ▸ compare.tests_once
    ▸ (λ h c us vs a e. refl)
    ▸ (λ h c us vs a e. ap ok (number.extended_signed (h 0) (a 0)))
    ▸ (λ h c us vs a e. ap ok (number.signed_twice (h 0)))
    ▸ (λ h c us vs a e. ap ok (number.signed_twice (h 0)))
    -- a sign turned on the other side, and the bits of a test
    ▸ compare.moves_sign LtS LtU sign.lt_turned
    ▸ compare.moves_sign LeS LeU sign.le_turned
    ▸ compare.moves_sign GtS GtU sign.gt_turned
    ▸ compare.moves_sign GeS GeU sign.ge_turned
    ▸ moves_round LtS LtU sign.lt_turned
    ▸ moves_round LeS LeU sign.le_turned
    ▸ moves_round GtS GtU sign.gt_turned
    ▸ moves_round GeS GeU sign.ge_turned
    ▸ count.test_counted
    ▸ count.comparison_counted Eq
    ▸ count.comparison_counted Ne
    ▸ count.comparison_counted LtS
    ▸ count.comparison_counted LeS
    ▸ count.comparison_counted GtS
    ▸ count.comparison_counted GeS
    ▸ count.comparison_counted LtU
    ▸ count.comparison_counted LeU
    ▸ count.comparison_counted GtU
    ▸ count.comparison_counted GeU
    ▸ tt
