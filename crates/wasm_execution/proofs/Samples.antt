-- Each operator on sample operands: the values are those of V8 11.3.244.8-node.38.
use Rattle.std.specs.Prelude.{◌≡◌, refl, ℕ, ◌==◌, ◌&&◌, Bool, true, false, List, [], ◌∷◌, Option, Some, None}
use lib.Count.{count_leading_zeros, count_trailing_zeros}
use Rattle.wasm_code.specs.declared.immediate.Imm.{Imm}
use Rattle.wasm_code.specs.declared.immediate.Imm.TheVariants as imm
use Rattle.wasm_code.specs.Table.{row_at, table}
use Rattle.wasm_types.specs.Module.{module_of}
use Rattle.wasm_execution.specs.declared.integer.IntegerType.TheVariants as integer
use Rattle.wasm_execution.specs.Values.{IntegerType, type_of, same_type, Value, met, Fails, State, Outcome, Ends, Traps}
use Rattle.wasm_execution.specs.IntegerRow.{integer_row}
use Rattle.wasm_execution.specs.Machine.{run}

abbrev pub i32 : IntegerType
i32 = integer.I32

abbrev pub i64 : IntegerType
i64 = integer.I64

-- operands, and the value or a trap
pub record Sample : Type 0 where
  pub operands : List ℕ
  pub expected : Option ℕ

abbrev pub one : (n value : ℕ) → Sample
one n value = record { operands = n ∷ []; expected = Some value }

abbrev pub two : (n m value : ℕ) → Sample
two n m value = record { operands = n ∷ m ∷ []; expected = Some value }

abbrev pub traps : (n m : ℕ) → Sample
traps n m = record { operands = n ∷ m ∷ []; expected = None }

abbrev pub three : (n m k value : ℕ) → Sample
three n m k value = record { operands = n ∷ m ∷ k ∷ []; expected = Some value }

abbrev pub gives : IntegerType → Option ℕ → Outcome → Bool
gives t (Some n) (Ends (v ∷ []) s) = same_type v.type (type_of t) && (v.number == n)
gives t None (Traps cause globals rest) = true
gives t o r = false

abbrev pub typed : List IntegerType → List ℕ → List Value
typed (t ∷ ts) (n ∷ ns) = record { type = type_of t; number = n } ∷ typed ts ns
typed ts ns = []

abbrev pub no_variables : State
no_variables = record {
  locals = [];
  globals = [];
  rest = 0;
  world =
      record { info = module_of []; answer = λ i vs gs r. Fails (met 0) gs r; others = λ i vs gs r more. more };
}

-- the instruction, on operands of these types, gives what is expected, of that type
abbrev pub all_give : (row : ℕ) → Imm → (operands : List IntegerType) → (result : IntegerType) → List Sample → Bool
all_give row i ts t [] = true
all_give row i ts t (x ∷ xs) =
    gives t x.expected (run (record { row = row; imm = i } ∷ []) (typed ts x.operands) no_variables) && all_give row i ts t xs

i32_eqz : all_give 40 imm.Nothing (i32 ∷ []) i32 (
    one 0 1 ∷ one 1 0 ∷ one 2 0 ∷ one 31 0 ∷ one 32 0 ∷ one 33 0 ∷ one 33 0 ∷ one 2147483647 0 ∷ one 2147483648 0 ∷ one 4294967289 0
    ∷ one 4294967294 0 ∷ one 4294967295 0 ∷ one 2118330556 0 ∷ one 4104526463 0 ∷ one 59413 0 ∷ []) ≡ true
unfolding integer_row row_at table count_leading_zeros count_trailing_zeros
i32_eqz = refl

i32_eq : all_give 41 imm.Nothing (i32 ∷ i32 ∷ []) i32 (
    two 2147483648 4294967295 0 ∷ two 4294967289 2 0 ∷ two 33 4294967294 0 ∷ two 1 0 0 ∷ two 4294967289 4294967289 1
    ∷ two 0 4294967295 0 ∷ two 4294967289 32 0 ∷ two 1171437346 33 0 ∷ two 1144091090 33 0 ∷ two 1171437346 31 0
    ∷ two 2147483647 1284219786 0 ∷ two 9071 2 0 ∷ two 4294967295 2147483648 0 ∷ []) ≡ true
unfolding integer_row row_at table count_leading_zeros count_trailing_zeros
i32_eq = refl

i32_ne : all_give 42 imm.Nothing (i32 ∷ i32 ∷ []) i32 (
    two 2147483648 4294967295 1 ∷ two 4294967289 2 1 ∷ two 33 4294967294 1 ∷ two 1 0 1 ∷ two 4294967289 4294967289 0
    ∷ two 0 4294967295 1 ∷ two 4294967289 32 1 ∷ two 291973308 33 1 ∷ two 2846194714 33 1 ∷ two 291973308 31 1
    ∷ two 2147483647 3759671436 1 ∷ two 14682 2 1 ∷ two 4294967295 2147483648 1 ∷ []) ≡ true
unfolding integer_row row_at table count_leading_zeros count_trailing_zeros
i32_ne = refl

i32_lt_s : all_give 43 imm.Nothing (i32 ∷ i32 ∷ []) i32 (
    two 2147483648 4294967295 1 ∷ two 4294967289 2 1 ∷ two 33 4294967294 0 ∷ two 1 0 0 ∷ two 4294967289 4294967289 0
    ∷ two 0 4294967295 0 ∷ two 4294967289 32 1 ∷ two 2132722366 33 0 ∷ two 2073615233 33 0 ∷ two 2132722366 31 0
    ∷ two 2147483647 1191894341 0 ∷ two 59061 2 0 ∷ two 4294967295 2147483648 0 ∷ []) ≡ true
unfolding integer_row row_at table count_leading_zeros count_trailing_zeros
i32_lt_s = refl

i32_lt_u : all_give 44 imm.Nothing (i32 ∷ i32 ∷ []) i32 (
    two 2147483648 4294967295 1 ∷ two 4294967289 2 0 ∷ two 33 4294967294 1 ∷ two 1 0 0 ∷ two 4294967289 4294967289 0
    ∷ two 0 4294967295 1 ∷ two 4294967289 32 0 ∷ two 3748959468 33 0 ∷ two 930990914 33 0 ∷ two 3748959468 31 0
    ∷ two 2147483647 3062470357 1 ∷ two 41139 2 0 ∷ two 4294967295 2147483648 0 ∷ []) ≡ true
unfolding integer_row row_at table count_leading_zeros count_trailing_zeros
i32_lt_u = refl

i32_gt_s : all_give 45 imm.Nothing (i32 ∷ i32 ∷ []) i32 (
    two 2147483648 4294967295 0 ∷ two 4294967289 2 0 ∷ two 33 4294967294 1 ∷ two 1 0 1 ∷ two 4294967289 4294967289 0
    ∷ two 0 4294967295 1 ∷ two 4294967289 32 0 ∷ two 566295535 33 1 ∷ two 3823291573 33 0 ∷ two 566295535 31 1
    ∷ two 2147483647 3466485627 1 ∷ two 12698 2 1 ∷ two 4294967295 2147483648 1 ∷ []) ≡ true
unfolding integer_row row_at table count_leading_zeros count_trailing_zeros
i32_gt_s = refl

i32_gt_u : all_give 46 imm.Nothing (i32 ∷ i32 ∷ []) i32 (
    two 2147483648 4294967295 0 ∷ two 4294967289 2 1 ∷ two 33 4294967294 0 ∷ two 1 0 1 ∷ two 4294967289 4294967289 0
    ∷ two 0 4294967295 0 ∷ two 4294967289 32 1 ∷ two 1395402154 33 1 ∷ two 4017789180 33 1 ∷ two 1395402154 31 1
    ∷ two 2147483647 1000707960 1 ∷ two 53119 2 1 ∷ two 4294967295 2147483648 1 ∷ []) ≡ true
unfolding integer_row row_at table count_leading_zeros count_trailing_zeros
i32_gt_u = refl

i32_le_s : all_give 47 imm.Nothing (i32 ∷ i32 ∷ []) i32 (
    two 2147483648 4294967295 1 ∷ two 4294967289 2 1 ∷ two 33 4294967294 0 ∷ two 1 0 0 ∷ two 4294967289 4294967289 1
    ∷ two 0 4294967295 0 ∷ two 4294967289 32 1 ∷ two 828154140 33 0 ∷ two 3049034976 33 1 ∷ two 828154140 31 0
    ∷ two 2147483647 3588179879 0 ∷ two 12210 2 0 ∷ two 4294967295 2147483648 0 ∷ []) ≡ true
unfolding integer_row row_at table count_leading_zeros count_trailing_zeros
i32_le_s = refl

i32_le_u : all_give 48 imm.Nothing (i32 ∷ i32 ∷ []) i32 (
    two 2147483648 4294967295 1 ∷ two 4294967289 2 0 ∷ two 33 4294967294 1 ∷ two 1 0 0 ∷ two 4294967289 4294967289 1
    ∷ two 0 4294967295 1 ∷ two 4294967289 32 0 ∷ two 799229119 33 0 ∷ two 3696031205 33 0 ∷ two 799229119 31 0
    ∷ two 2147483647 1485984969 0 ∷ two 22887 2 0 ∷ two 4294967295 2147483648 0 ∷ []) ≡ true
unfolding integer_row row_at table count_leading_zeros count_trailing_zeros
i32_le_u = refl

i32_ge_s : all_give 49 imm.Nothing (i32 ∷ i32 ∷ []) i32 (
    two 2147483648 4294967295 0 ∷ two 4294967289 2 0 ∷ two 33 4294967294 1 ∷ two 1 0 1 ∷ two 4294967289 4294967289 1
    ∷ two 0 4294967295 1 ∷ two 4294967289 32 0 ∷ two 644609650 33 1 ∷ two 1010108303 33 1 ∷ two 644609650 31 1
    ∷ two 2147483647 121668231 1 ∷ two 31289 2 1 ∷ two 4294967295 2147483648 1 ∷ []) ≡ true
unfolding integer_row row_at table count_leading_zeros count_trailing_zeros
i32_ge_s = refl

i32_ge_u : all_give 50 imm.Nothing (i32 ∷ i32 ∷ []) i32 (
    two 2147483648 4294967295 0 ∷ two 4294967289 2 1 ∷ two 33 4294967294 0 ∷ two 1 0 1 ∷ two 4294967289 4294967289 1
    ∷ two 0 4294967295 0 ∷ two 4294967289 32 1 ∷ two 1492197341 33 1 ∷ two 2705145821 33 1 ∷ two 1492197341 31 1
    ∷ two 2147483647 99325223 1 ∷ two 11692 2 1 ∷ two 4294967295 2147483648 1 ∷ []) ≡ true
unfolding integer_row row_at table count_leading_zeros count_trailing_zeros
i32_ge_u = refl

i32_clz : all_give 74 imm.Nothing (i32 ∷ []) i32 (
    one 0 32 ∷ one 1 31 ∷ one 2 30 ∷ one 31 27 ∷ one 32 26 ∷ one 33 26 ∷ one 33 26 ∷ one 2147483647 1 ∷ one 2147483648 0
    ∷ one 4294967289 0 ∷ one 4294967294 0 ∷ one 4294967295 0 ∷ one 3499481703 0 ∷ one 1282675191 1 ∷ one 27180 17 ∷ []) ≡ true
unfolding integer_row row_at table count_leading_zeros count_trailing_zeros
i32_clz = refl

i32_ctz : all_give 75 imm.Nothing (i32 ∷ []) i32 (
    one 0 32 ∷ one 1 0 ∷ one 2 1 ∷ one 31 0 ∷ one 32 5 ∷ one 33 0 ∷ one 33 0 ∷ one 2147483647 0 ∷ one 2147483648 31
    ∷ one 4294967289 0 ∷ one 4294967294 1 ∷ one 4294967295 0 ∷ one 2037795137 0 ∷ one 3694851510 1 ∷ one 21461 0 ∷ []) ≡ true
unfolding integer_row row_at table count_leading_zeros count_trailing_zeros
i32_ctz = refl

i32_popcnt : all_give 76 imm.Nothing (i32 ∷ []) i32 (
    one 0 0 ∷ one 1 1 ∷ one 2 1 ∷ one 31 5 ∷ one 32 1 ∷ one 33 2 ∷ one 33 2 ∷ one 2147483647 31 ∷ one 2147483648 1
    ∷ one 4294967289 30 ∷ one 4294967294 31 ∷ one 4294967295 32 ∷ one 3073234797 21 ∷ one 2021156565 17 ∷ one 4429 6 ∷ []) ≡ true
unfolding integer_row row_at table count_leading_zeros count_trailing_zeros
i32_popcnt = refl

i32_add : all_give 77 imm.Nothing (i32 ∷ i32 ∷ []) i32 (
    two 2147483648 4294967295 2147483647 ∷ two 4294967289 2 4294967291 ∷ two 33 4294967294 31 ∷ two 1 0 1
    ∷ two 4294967289 4294967289 4294967282 ∷ two 0 4294967295 4294967295 ∷ two 4294967289 32 25 ∷ two 2112744114 33 2112744147
    ∷ two 2787610843 33 2787610876 ∷ two 2112744114 31 2112744145 ∷ two 2147483647 1342186578 3489670225 ∷ two 13914 2 13916
    ∷ two 4294967295 2147483648 2147483647 ∷ []) ≡ true
unfolding integer_row row_at table count_leading_zeros count_trailing_zeros
i32_add = refl

i32_sub : all_give 78 imm.Nothing (i32 ∷ i32 ∷ []) i32 (
    two 2147483648 4294967295 2147483649 ∷ two 4294967289 2 4294967287 ∷ two 33 4294967294 35 ∷ two 1 0 1
    ∷ two 4294967289 4294967289 0 ∷ two 0 4294967295 1 ∷ two 4294967289 32 4294967257 ∷ two 3651165867 33 3651165834
    ∷ two 1606628684 33 1606628651 ∷ two 3651165867 31 3651165836 ∷ two 2147483647 1212782017 934701630 ∷ two 1381 2 1379
    ∷ two 4294967295 2147483648 2147483647 ∷ []) ≡ true
unfolding integer_row row_at table count_leading_zeros count_trailing_zeros
i32_sub = refl

i32_mul : all_give 79 imm.Nothing (i32 ∷ i32 ∷ []) i32 (
    two 2147483648 4294967295 2147483648 ∷ two 4294967289 2 4294967282 ∷ two 33 4294967294 4294967230 ∷ two 1 0 0
    ∷ two 4294967289 4294967289 49 ∷ two 0 4294967295 0 ∷ two 4294967289 32 4294967072 ∷ two 123919042 33 4089328386
    ∷ two 3000223785 33 223137097 ∷ two 123919042 31 3841490302 ∷ two 2147483647 3303201921 3139249023 ∷ two 60272 2 120544
    ∷ two 4294967295 2147483648 2147483648 ∷ []) ≡ true
unfolding integer_row row_at table count_leading_zeros count_trailing_zeros
i32_mul = refl

i32_div_s : all_give 80 imm.Nothing (i32 ∷ i32 ∷ []) i32 (
    traps 2147483648 4294967295 ∷ two 4294967289 2 4294967293 ∷ two 33 4294967294 4294967280 ∷ traps 1 0
    ∷ two 4294967289 4294967289 1 ∷ two 0 4294967295 0 ∷ two 4294967289 32 0 ∷ two 1282637759 33 38867810
    ∷ two 2424369493 33 4238282515 ∷ two 1282637759 31 41375411 ∷ two 2147483647 1480835596 1 ∷ two 39659 2 19829
    ∷ two 4294967295 2147483648 0 ∷ []) ≡ true
unfolding integer_row row_at table count_leading_zeros count_trailing_zeros
i32_div_s = refl

i32_div_u : all_give 81 imm.Nothing (i32 ∷ i32 ∷ []) i32 (
    two 2147483648 4294967295 0 ∷ two 4294967289 2 2147483644 ∷ two 33 4294967294 0 ∷ traps 1 0 ∷ two 4294967289 4294967289 1
    ∷ two 0 4294967295 0 ∷ two 4294967289 32 134217727 ∷ two 2628862192 33 79662490 ∷ two 4010632268 33 121534311
    ∷ two 2628862192 31 84802006 ∷ two 2147483647 3881231926 0 ∷ two 55262 2 27631 ∷ two 4294967295 2147483648 1 ∷ []) ≡ true
unfolding integer_row row_at table count_leading_zeros count_trailing_zeros
i32_div_u = refl

i32_rem_s : all_give 82 imm.Nothing (i32 ∷ i32 ∷ []) i32 (
    two 2147483648 4294967295 0 ∷ two 4294967289 2 4294967295 ∷ two 33 4294967294 1 ∷ traps 1 0 ∷ two 4294967289 4294967289 0
    ∷ two 0 4294967295 0 ∷ two 4294967289 32 4294967289 ∷ two 805206491 33 23 ∷ two 626976692 33 23 ∷ two 805206491 31 29
    ∷ two 2147483647 302287161 31473520 ∷ two 15301 2 1 ∷ two 4294967295 2147483648 4294967295 ∷ []) ≡ true
unfolding integer_row row_at table count_leading_zeros count_trailing_zeros
i32_rem_s = refl

i32_rem_u : all_give 83 imm.Nothing (i32 ∷ i32 ∷ []) i32 (
    two 2147483648 4294967295 2147483648 ∷ two 4294967289 2 1 ∷ two 33 4294967294 33 ∷ traps 1 0 ∷ two 4294967289 4294967289 0
    ∷ two 0 4294967295 0 ∷ two 4294967289 32 25 ∷ two 2286913186 33 19 ∷ two 1826497174 33 7 ∷ two 2286913186 31 3
    ∷ two 2147483647 2534679766 2147483647 ∷ two 64100 2 0 ∷ two 4294967295 2147483648 2147483647 ∷ []) ≡ true
unfolding integer_row row_at table count_leading_zeros count_trailing_zeros
i32_rem_u = refl

i32_and : all_give 84 imm.Nothing (i32 ∷ i32 ∷ []) i32 (
    two 2147483648 4294967295 2147483648 ∷ two 4294967289 2 0 ∷ two 33 4294967294 32 ∷ two 1 0 0
    ∷ two 4294967289 4294967289 4294967289 ∷ two 0 4294967295 0 ∷ two 4294967289 32 32 ∷ two 3957976604 33 0 ∷ two 636244534 33 32
    ∷ two 3957976604 31 28 ∷ two 2147483647 1549342635 1549342635 ∷ two 20683 2 2 ∷ two 4294967295 2147483648 2147483648 ∷ []) ≡ true
unfolding integer_row row_at table count_leading_zeros count_trailing_zeros
i32_and = refl

i32_or : all_give 85 imm.Nothing (i32 ∷ i32 ∷ []) i32 (
    two 2147483648 4294967295 4294967295 ∷ two 4294967289 2 4294967291 ∷ two 33 4294967294 4294967295 ∷ two 1 0 1
    ∷ two 4294967289 4294967289 4294967289 ∷ two 0 4294967295 4294967295 ∷ two 4294967289 32 4294967289
    ∷ two 1358556318 33 1358556351 ∷ two 2605009816 33 2605009849 ∷ two 1358556318 31 1358556319
    ∷ two 2147483647 1980687774 2147483647 ∷ two 13282 2 13282 ∷ two 4294967295 2147483648 4294967295 ∷ []) ≡ true
unfolding integer_row row_at table count_leading_zeros count_trailing_zeros
i32_or = refl

i32_xor : all_give 86 imm.Nothing (i32 ∷ i32 ∷ []) i32 (
    two 2147483648 4294967295 2147483647 ∷ two 4294967289 2 4294967291 ∷ two 33 4294967294 4294967263 ∷ two 1 0 1
    ∷ two 4294967289 4294967289 0 ∷ two 0 4294967295 4294967295 ∷ two 4294967289 32 4294967257 ∷ two 4004867714 33 4004867747
    ∷ two 2104257440 33 2104257409 ∷ two 4004867714 31 4004867741 ∷ two 2147483647 1760153718 387329929 ∷ two 23220 2 23222
    ∷ two 4294967295 2147483648 2147483647 ∷ []) ≡ true
unfolding integer_row row_at table count_leading_zeros count_trailing_zeros
i32_xor = refl

i32_shl : all_give 87 imm.Nothing (i32 ∷ i32 ∷ []) i32 (
    two 2147483648 4294967295 0 ∷ two 4294967289 2 4294967268 ∷ two 33 4294967294 1073741824 ∷ two 1 0 1
    ∷ two 4294967289 4294967289 4060086272 ∷ two 0 4294967295 0 ∷ two 4294967289 32 4294967289 ∷ two 2428815700 33 562664104
    ∷ two 2361088220 33 427209144 ∷ two 2428815700 31 0 ∷ two 2147483647 3585133462 4290772992 ∷ two 30370 2 121480
    ∷ two 4294967295 2147483648 4294967295 ∷ []) ≡ true
unfolding integer_row row_at table count_leading_zeros count_trailing_zeros
i32_shl = refl

i32_shr_s : all_give 88 imm.Nothing (i32 ∷ i32 ∷ []) i32 (
    two 2147483648 4294967295 4294967295 ∷ two 4294967289 2 4294967294 ∷ two 33 4294967294 0 ∷ two 1 0 1
    ∷ two 4294967289 4294967289 4294967295 ∷ two 0 4294967295 0 ∷ two 4294967289 32 4294967289 ∷ two 3617243841 33 3956105568
    ∷ two 1255258604 33 627629302 ∷ two 3617243841 31 4294967295 ∷ two 2147483647 2805337558 511 ∷ two 58487 2 14621
    ∷ two 4294967295 2147483648 4294967295 ∷ []) ≡ true
unfolding integer_row row_at table count_leading_zeros count_trailing_zeros
i32_shr_s = refl

i32_shr_u : all_give 89 imm.Nothing (i32 ∷ i32 ∷ []) i32 (
    two 2147483648 4294967295 1 ∷ two 4294967289 2 1073741822 ∷ two 33 4294967294 0 ∷ two 1 0 1 ∷ two 4294967289 4294967289 127
    ∷ two 0 4294967295 0 ∷ two 4294967289 32 4294967289 ∷ two 935769136 33 467884568 ∷ two 1996309398 33 998154699
    ∷ two 935769136 31 0 ∷ two 2147483647 2687747210 2097151 ∷ two 61707 2 15426 ∷ two 4294967295 2147483648 4294967295 ∷ []) ≡ true
unfolding integer_row row_at table count_leading_zeros count_trailing_zeros
i32_shr_u = refl

i32_rotl : all_give 90 imm.Nothing (i32 ∷ i32 ∷ []) i32 (
    two 2147483648 4294967295 1073741824 ∷ two 4294967289 2 4294967271 ∷ two 33 4294967294 1073741832 ∷ two 1 0 1
    ∷ two 4294967289 4294967289 4093640703 ∷ two 0 4294967295 0 ∷ two 4294967289 32 4294967289 ∷ two 1058855441 33 2117710882
    ∷ two 4038705527 33 3782443759 ∷ two 1058855441 31 2676911368 ∷ two 2147483647 2851252899 4294967291 ∷ two 34536 2 138144
    ∷ two 4294967295 2147483648 4294967295 ∷ []) ≡ true
unfolding integer_row row_at table count_leading_zeros count_trailing_zeros
i32_rotl = refl

i32_rotr : all_give 91 imm.Nothing (i32 ∷ i32 ∷ []) i32 (
    two 2147483648 4294967295 1 ∷ two 4294967289 2 2147483646 ∷ two 33 4294967294 132 ∷ two 1 0 1
    ∷ two 4294967289 4294967289 4294966527 ∷ two 0 4294967295 0 ∷ two 4294967289 32 4294967289 ∷ two 3704757733 33 3999862514
    ∷ two 3282107486 33 1641053743 ∷ two 3704757733 31 3114548171 ∷ two 2147483647 1789953788 4294967287 ∷ two 21517 2 1073747203
    ∷ two 4294967295 2147483648 4294967295 ∷ []) ≡ true
unfolding integer_row row_at table count_leading_zeros count_trailing_zeros
i32_rotr = refl
