-- The rows on floats are right.
use Rattle.std.proofs.Common.{refl, ap}
use Rattle.std.specs.Prelude.{not, take, drop}
use Rattle.wasm_code.specs.Table.{table, row_at}
use Rattle.wasm_execution.specs.ExactRow.{exact_row}
use Rattle.wasm_execution.specs.IntegerRow.{integer_row}
use Rattle.wasm_execution.specs.declared.integer.IntegerType.TheVariants as integer
use Rattle.rewrite_rules.specs.Exact.{exact_operator}
use Rattle.rewrite_rules.specs.Line.{IsRight}
use Rattle.rewrite_rules.specs.Table.{parts, rows_of, joined}
use Rattle.rewrite_rules.proofs.identities.RowLemmas.{AtRows, ◌▸◌, turned}
use Rattle.rewrite_rules.proofs.identities.FloatWords as floats
use Rattle.rewrite_rules.proofs.identities.FloatIdentities as float
use Rattle.rewrite_rules.proofs.identities.FloatTestWords as tests
use Rattle.rewrite_rules.proofs.identities.FloatTestWords.{equal, unequal, less, greater, at_most, at_least}
use Rattle.rewrite_rules.proofs.identities.FloatOrders as order
use Rattle.rewrite_rules.proofs.identities.FloatTestIdentities as test

-- row by row, in the order of the table, those behind them
pub float_rows_right : AtRows IsRight (rows_of (joined (take 8 (drop 21 parts))))
unfolding parts exact_operator exact_row integer_row row_at table
float_rows_right =
    -- signs of floats twice, and bits read as a float and back
    float.neg_twice integer.I32
    ▸ float.neg_twice integer.I64
    ▸ turned floats.neg_twice float.neg_twice integer.I32
    ▸ turned floats.neg_twice float.neg_twice integer.I64
    ▸ float.abs_of_neg integer.I32
    ▸ float.abs_of_neg integer.I64
    ▸ turned floats.abs_of_neg float.abs_of_neg integer.I32
    ▸ turned floats.abs_of_neg float.abs_of_neg integer.I64
    ▸ float.abs_twice integer.I32
    ▸ float.abs_twice integer.I64
    ▸ turned floats.abs_twice float.abs_twice integer.I32
    ▸ turned floats.abs_twice float.abs_twice integer.I64
    ▸ float.float_back integer.I32
    ▸ float.bits_back integer.I32
    ▸ float.float_back integer.I64
    ▸ float.bits_back integer.I64
    ▸ turned floats.float_back float.float_back integer.I32
    ▸ turned floats.bits_back float.bits_back integer.I32
    ▸ turned floats.float_back float.float_back integer.I64
    ▸ turned floats.bits_back float.bits_back integer.I64
    -- the sign of a float by its bits
    ▸ float.neg_by_bits integer.I32
    ▸ float.neg_by_bits integer.I64
    ▸ turned floats.neg_by_bits float.neg_by_bits integer.I32
    ▸ turned floats.neg_by_bits float.neg_by_bits integer.I64
    ▸ float.abs_by_bits integer.I32
    ▸ float.abs_by_bits integer.I64
    ▸ turned floats.abs_by_bits float.abs_by_bits integer.I32
    ▸ turned floats.abs_by_bits float.abs_by_bits integer.I64
    ▸ float.neg_abs_by_bits integer.I32
    ▸ float.neg_abs_by_bits integer.I64
    ▸ turned floats.neg_abs_by_bits float.neg_abs_by_bits integer.I32
    ▸ turned floats.neg_abs_by_bits float.neg_abs_by_bits integer.I64
    ▸ float.bits_of_neg integer.I32
    ▸ float.bits_of_neg integer.I64
    ▸ turned floats.bits_of_neg float.bits_of_neg integer.I32
    ▸ turned floats.bits_of_neg float.bits_of_neg integer.I64
    ▸ float.bits_of_abs integer.I32
    ▸ float.bits_of_abs integer.I64
    ▸ turned floats.bits_of_abs float.bits_of_abs integer.I32
    ▸ turned floats.bits_of_abs float.bits_of_abs integer.I64
    -- the sign of one float with the bits of another
    ▸ float.copysign_of_neg integer.I32
    ▸ float.copysign_of_neg integer.I64
    ▸ turned floats.copysign_of_neg float.copysign_of_neg integer.I32
    ▸ turned floats.copysign_of_neg float.copysign_of_neg integer.I64
    ▸ float.copysign_of_abs integer.I32
    ▸ float.copysign_of_abs integer.I64
    ▸ turned floats.copysign_of_abs float.copysign_of_abs integer.I32
    ▸ turned floats.copysign_of_abs float.copysign_of_abs integer.I64
    ▸ float.own_sign integer.I32
    ▸ float.own_sign integer.I64
    ▸ turned floats.own_sign float.own_sign integer.I32
    ▸ turned floats.own_sign float.own_sign integer.I64
    ▸ float.abs_of_copysign integer.I32
    ▸ float.abs_of_copysign integer.I64
    ▸ float.sign_again integer.I32
    ▸ float.sign_again integer.I64
    ▸ float.sign_of_sign integer.I32
    ▸ float.sign_of_sign integer.I64
    -- the sign of a float turned before it is copied, or behind that
    ▸ float.sign_of_neg integer.I32
    ▸ float.sign_of_neg integer.I64
    ▸ turned floats.sign_of_neg float.sign_of_neg integer.I32
    ▸ turned floats.sign_of_neg float.sign_of_neg integer.I64
    ▸ float.sign_of_own_neg integer.I32
    ▸ float.sign_of_own_neg integer.I64
    ▸ turned floats.sign_of_own_neg float.sign_of_own_neg integer.I32
    ▸ turned floats.sign_of_own_neg float.sign_of_own_neg integer.I64
    ▸ float.sign_of_own_abs integer.I32
    ▸ float.sign_of_own_abs integer.I64
    ▸ turned floats.sign_of_own_abs float.sign_of_own_abs integer.I32
    ▸ turned floats.sign_of_own_abs float.sign_of_own_abs integer.I64
    -- comparisons of floats, turned around, or by the test of the opposite
    ▸ test.turns equal equal order.eq_turned integer.I32
    ▸ test.turns unequal unequal (λ t n m. ap not (order.eq_turned t n m)) integer.I32
    ▸ test.turns equal equal order.eq_turned integer.I64
    ▸ test.turns unequal unequal (λ t n m. ap not (order.eq_turned t n m)) integer.I64
    ▸ test.turns less greater (λ t n m. refl) integer.I32
    ▸ test.turns greater less (λ t n m. refl) integer.I32
    ▸ test.turns at_most at_least (λ t n m. refl) integer.I32
    ▸ test.turns at_least at_most (λ t n m. refl) integer.I32
    ▸ test.turns less greater (λ t n m. refl) integer.I64
    ▸ test.turns greater less (λ t n m. refl) integer.I64
    ▸ test.turns at_most at_least (λ t n m. refl) integer.I64
    ▸ test.turns at_least at_most (λ t n m. refl) integer.I64
    ▸ test.negates unequal equal (λ t n m. refl) integer.I32
    ▸ test.negates equal unequal order.eq_is integer.I32
    ▸ test.negates unequal equal (λ t n m. refl) integer.I64
    ▸ test.negates equal unequal order.eq_is integer.I64
    ▸ turned (tests.negate unequal equal) (test.negates unequal equal (λ t n m. refl)) integer.I32
    ▸ turned (tests.negate equal unequal) (test.negates equal unequal order.eq_is) integer.I32
    ▸ turned (tests.negate unequal equal) (test.negates unequal equal (λ t n m. refl)) integer.I64
    ▸ turned (tests.negate equal unequal) (test.negates equal unequal order.eq_is) integer.I64
    -- a float compared with itself
    ▸ test.never less order.not_less
    ▸ test.never greater order.not_less
    ▸ test.never_wide less order.not_less
    ▸ test.never_wide greater order.not_less
    ▸ test.on_self equal at_most order.equal_itself integer.I32
    ▸ test.on_self equal at_most order.equal_itself integer.I64
    ▸ test.on_self equal at_least order.equal_itself integer.I32
    ▸ test.on_self equal at_least order.equal_itself integer.I64
    ▸ turned (tests.on_self equal at_most) (test.on_self equal at_most order.equal_itself) integer.I32
    ▸ turned (tests.on_self equal at_least) (test.on_self equal at_least order.equal_itself) integer.I32
    ▸ turned (tests.on_self equal at_most) (test.on_self equal at_most order.equal_itself) integer.I64
    ▸ turned (tests.on_self equal at_least) (test.on_self equal at_least order.equal_itself) integer.I64
    -- comparisons of floats whose signs are turned
    ▸ test.turns_signs equal integer.I32
    ▸ test.turns_signs unequal integer.I32
    ▸ test.turns_signs less integer.I32
    ▸ test.turns_signs greater integer.I32
    ▸ test.turns_signs at_most integer.I32
    ▸ test.turns_signs at_least integer.I32
    ▸ test.turns_signs equal integer.I64
    ▸ test.turns_signs unequal integer.I64
    ▸ test.turns_signs less integer.I64
    ▸ test.turns_signs greater integer.I64
    ▸ test.turns_signs at_most integer.I64
    ▸ test.turns_signs at_least integer.I64
    ▸ turned (tests.turn_signs equal) (test.turns_signs equal) integer.I32
    ▸ turned (tests.turn_signs unequal) (test.turns_signs unequal) integer.I32
    ▸ turned (tests.turn_signs less) (test.turns_signs less) integer.I32
    ▸ turned (tests.turn_signs greater) (test.turns_signs greater) integer.I32
    ▸ turned (tests.turn_signs at_most) (test.turns_signs at_most) integer.I32
    ▸ turned (tests.turn_signs at_least) (test.turns_signs at_least) integer.I32
    ▸ turned (tests.turn_signs equal) (test.turns_signs equal) integer.I64
    ▸ turned (tests.turn_signs unequal) (test.turns_signs unequal) integer.I64
    ▸ turned (tests.turn_signs less) (test.turns_signs less) integer.I64
    ▸ turned (tests.turn_signs greater) (test.turns_signs greater) integer.I64
    ▸ turned (tests.turn_signs at_most) (test.turns_signs at_most) integer.I64
    ▸ turned (tests.turn_signs at_least) (test.turns_signs at_least) integer.I64
    -- whether floats are equal, by both orders, and their order by both of its parts
    ▸ test.both_orders integer.I32
    ▸ test.both_orders integer.I64
    ▸ turned tests.both_orders test.both_orders integer.I32
    ▸ turned tests.both_orders test.both_orders integer.I64
    ▸ test.both_parts at_most less order.le_parts integer.I32
    ▸ test.both_parts at_least greater order.ge_parts integer.I32
    ▸ test.both_parts at_most less order.le_parts integer.I64
    ▸ test.both_parts at_least greater order.ge_parts integer.I64
    ▸ turned (tests.both_parts at_most less) (test.both_parts at_most less order.le_parts) integer.I32
    ▸ turned (tests.both_parts at_least greater) (test.both_parts at_least greater order.ge_parts) integer.I32
    ▸ turned (tests.both_parts at_most less) (test.both_parts at_most less order.le_parts) integer.I64
    ▸ turned (tests.both_parts at_least greater) (test.both_parts at_least greater order.ge_parts) integer.I64
    ▸ tt
