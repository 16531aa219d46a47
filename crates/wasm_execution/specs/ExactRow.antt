-- The exact rows: some of the instructions on floats, vectors and memories of which the standard says each bit, by their opcodes and immediates
-- (WebAssembly Core Specification 3.0, Binary Format, Instructions, and Execution, Numerics and Instructions; which rows these are: this project).
use Rattle.std.specs.Prelude.{ℕ, ℤ, ◌+◌, ◌-◌, ◌*◌, ◌/◌, ◌%◌, ◌^◌, int_lt, int_le, Bool, not, ◌==◌, nat_lt, nat_le, if◌then◌else◌, List, []}
use Rattle.std.specs.Prelude.{◌∷◌, Option, Some, None, option_map, bit_and, bit_or, bit_xor}
use Rattle.std.specs.Int.{Width, w8, w16, w32, w64, w128, cast_signed, cast_unsigned, int_shr}
use mir.Val.{bits}
use Rattle.wasm_code.specs.declared.immediate.Imm.{Imm}
use Rattle.wasm_code.specs.declared.immediate.Imm.TheVariants as imm
use Rattle.wasm_code.specs.declared.immediate.MemArg.{MemArg}
use Rattle.wasm_code.specs.declared.table.Opcode.{Opcode}
use Rattle.wasm_code.specs.declared.table.Opcode.TheVariants.{Byte, Fc, Fd}
use Rattle.wasm_code.specs.Instruction.{Instruction}
use Rattle.wasm_code.specs.Table.{row_at, opcode_in}
use Rattle.wasm_execution.specs.Conversions.{to_signed, to_unsigned, add_sat_s, add_sat_u, sub_sat_s, sub_sat_u, average, q15_product}
use Rattle.wasm_execution.specs.Conversions.{dot_product, trunc_sat_s, trunc_sat_u, convert_s, convert_u, each_resized, narrowed}
use Rattle.wasm_execution.specs.Lanes.{sign_bit, magnitude, negated, with_sign, float_lt, float_le, float_eq, Shape, on_lanes, on_pairs}
use Rattle.wasm_execution.specs.Lanes.{splat, lane_at, with_lane, shuffled, swizzled, mask}

-- what is loaded: so many bytes, and what becomes of the number that they are
pub record Loading : Type 0 where
  pub count : ℕ
  pub extended : ℕ → ℕ

-- an exact row computes its value from its operands' numbers, or loads, or stores so many of the operand's bytes
pub data ExactRow : Type 0 where
  computes : (List ℕ → ℕ) → ExactRow
  loads : MemArg → Loading → ExactRow
  stores : MemArg → (count : ℕ) → ExactRow

-- ---- values

-- a value on so many operands; of another number of them it doesn't matter
abbrev pub none_to : ℕ → List ℕ → ℕ
none_to n ns = n

abbrev pub one_to : (ℕ → ℕ) → List ℕ → ℕ
one_to f (n ∷ []) = f n
one_to f ns = 0

abbrev pub two_to : (ℕ → ℕ → ℕ) → List ℕ → ℕ
two_to f (n ∷ m ∷ []) = f n m
two_to f ns = 0

abbrev pub three_to : (ℕ → ℕ → ℕ → ℕ) → List ℕ → ℕ
three_to f (n ∷ m ∷ k ∷ []) = f n m k
three_to f ns = 0

-- 1 where it holds of two numbers, and else 0
abbrev pub test : (ℕ → ℕ → Bool) → List ℕ → ℕ
test holds = two_to (λ n m. if holds n m then 1 else 0)

-- what stands beside the number in a list
abbrev pub find : {A : Type 0} → List (ℕ × A) → ℕ → Option A
find [] n = None
find (x ∷ xs) n = if n == x.0 then Some x.1 else find xs n

-- comparisons of floats, abs, neg and copysign, conversions of integers, reinterpretations
abbrev pub byte_values : List (ℕ × (List ℕ → ℕ))
byte_values =
    (0x5b, test (float_eq w32)) ∷ (0x5c, test (λ n m. not (float_eq w32 n m)))
    ∷ (0x5d, test (float_lt w32)) ∷ (0x5e, test (λ n m. float_lt w32 m n)) ∷ (0x5f, test (float_le w32)) ∷ (0x60, test (λ n m. float_le w32 m n))
    ∷ (0x61, test (float_eq w64)) ∷ (0x62, test (λ n m. not (float_eq w64 n m)))
    ∷ (0x63, test (float_lt w64)) ∷ (0x64, test (λ n m. float_lt w64 m n)) ∷ (0x65, test (float_le w64)) ∷ (0x66, test (λ n m. float_le w64 m n))
    ∷ (0x8b, one_to (magnitude w32)) ∷ (0x8c, one_to (negated w32)) ∷ (0x98, two_to (with_sign w32))
    ∷ (0x99, one_to (magnitude w64)) ∷ (0x9a, one_to (negated w64)) ∷ (0xa6, two_to (with_sign w64))
    ∷ (0xb2, one_to (convert_s w32 w32)) ∷ (0xb3, one_to (convert_u w32)) ∷ (0xb4, one_to (convert_s w64 w32)) ∷ (0xb5, one_to (convert_u w32))
    ∷ (0xb7, one_to (convert_s w32 w64)) ∷ (0xb8, one_to (convert_u w64)) ∷ (0xb9, one_to (convert_s w64 w64)) ∷ (0xba, one_to (convert_u w64))
    ∷ (0xbc, one_to (λ n. n)) ∷ (0xbd, one_to (λ n. n)) ∷ (0xbe, one_to (λ n. n)) ∷ (0xbf, one_to (λ n. n)) ∷ []

-- i32.trunc_sat_f32_s to i64.trunc_sat_f64_u
abbrev pub saturating_values : List (ℕ × (List ℕ → ℕ))
saturating_values =
    (0, one_to (trunc_sat_s w32 w32)) ∷ (1, one_to (trunc_sat_u w32 w32)) ∷ (2, one_to (trunc_sat_s w64 w32)) ∷ (3, one_to (trunc_sat_u w64 w32))
    ∷ (4, one_to (trunc_sat_s w32 w64)) ∷ (5, one_to (trunc_sat_u w32 w64)) ∷ (6, one_to (trunc_sat_s w64 w64)) ∷ (7, one_to (trunc_sat_u w64 w64)) ∷ []

abbrev pub bytes_wide : Shape
bytes_wide = record { width = w8; count = 16 }

abbrev pub halves_wide : Shape
halves_wide = record { width = w16; count = 8 }

abbrev pub words_wide : Shape
words_wide = record { width = w32; count = 4 }

abbrev pub doubles_wide : Shape
doubles_wide = record { width = w64; count = 2 }

-- a lane of ones where it holds of the two lanes, and else of zeros
abbrev pub lane_test : Shape → (ℕ → ℕ → Bool) → List ℕ → ℕ
lane_test s holds = two_to (on_pairs s (λ n m. mask s.width (holds n m)))

-- sums, differences, products and negatives of lanes, before they are cut to a lane
abbrev pub lane_add : Shape → List ℕ → ℕ
lane_add s = two_to (on_pairs s (λ n m. n + m))

abbrev pub lane_sub : Shape → List ℕ → ℕ
lane_sub s = two_to (on_pairs s (λ n m. n + (2 ^ bits s.width - m)))

abbrev pub lane_mul : Shape → List ℕ → ℕ
lane_mul s = two_to (on_pairs s (λ n m. n * m))

abbrev pub lane_neg : Shape → List ℕ → ℕ
lane_neg s = one_to (on_lanes s (λ n. 2 ^ bits s.width - n))

-- the lane, or its negative where its sign is set
abbrev pub lane_abs : Shape → List ℕ → ℕ
lane_abs s = one_to (on_lanes s (λ n. if nat_lt n (sign_bit s.width) then n else 2 ^ bits s.width - n))

-- shifts of each lane, by a count below the width
abbrev pub lane_shl : Shape → List ℕ → ℕ
lane_shl s = two_to (λ n k. on_lanes s (λ x. x * 2 ^ (k % bits s.width)) n)

abbrev pub lane_shr_s : Shape → List ℕ → ℕ
lane_shr_s s = two_to (λ n k. on_lanes s (λ x. cast_unsigned s.width (int_shr (cast_signed s.width x) (k % bits s.width))) n)

abbrev pub lane_shr_u : Shape → List ℕ → ℕ
lane_shr_u s = two_to (λ n k. on_lanes s (λ x. x / 2 ^ (k % bits s.width)) n)

-- less than, and at most, with sign
abbrev pub signed_lt : Shape → ℕ → ℕ → Bool
signed_lt s n m = int_lt (cast_signed s.width n) (cast_signed s.width m)

abbrev pub signed_le : Shape → ℕ → ℕ → Bool
signed_le s n m = int_le (cast_signed s.width n) (cast_signed s.width m)

-- the smaller one of two, by that order, and the greater one
abbrev pub lane_min : Shape → (ℕ → ℕ → Bool) → List ℕ → ℕ
lane_min s lt = two_to (on_pairs s (λ n m. if lt n m then n else m))

abbrev pub lane_max : Shape → (ℕ → ℕ → Bool) → List ℕ → ℕ
lane_max s lt = two_to (on_pairs s (λ n m. if lt n m then m else n))

-- sums, differences and means of lanes, and others on two lanes, by their value on numbers of the width
abbrev pub lane_pairs : Shape → (ℕ → ℕ → ℕ) → List ℕ → ℕ
lane_pairs s f = two_to (on_pairs s f)

-- the second one where it is less, else the first one (fpmin); the second one where the first one is less, else the first one (fpmax)
abbrev pub lane_pmin : Shape → List ℕ → ℕ
lane_pmin s = lane_pairs s (λ n m. if float_lt s.width m n then m else n)

abbrev pub lane_pmax : Shape → List ℕ → ℕ
lane_pmax s = lane_pairs s (λ n m. if float_lt s.width n m then m else n)

-- lanes of half the width, saturated, by which numbers with sign are saturated
abbrev pub lane_narrow : (from to : Shape) → (Width → ℤ → ℕ) → List ℕ → ℕ
lane_narrow from to f = two_to (narrowed (bits from.width) (bits to.width) (λ n. f to.width (cast_signed from.width n)) from.count)

-- all bits of a vector
abbrev pub ones : ℕ
ones = 2 ^ 128 - 1

-- bytes picked by bytes, splats, comparisons of lanes, logic, arithmetic of integer lanes, the signs of float lanes, their pseudo-minima, and conversions
abbrev pub vector_values : List (ℕ × (List ℕ → ℕ))
vector_values =
    (14, two_to swizzled) ∷ (15, one_to (splat bytes_wide)) ∷ (16, one_to (splat halves_wide)) ∷ (17, one_to (splat words_wide))
    ∷ (18, one_to (splat doubles_wide))
    ∷ (19, one_to (splat words_wide)) ∷ (20, one_to (splat doubles_wide))
    ∷ (35, lane_test bytes_wide (λ n m. n == m)) ∷ (36, lane_test bytes_wide (λ n m. not (n == m)))
    ∷ (37, lane_test bytes_wide (signed_lt bytes_wide)) ∷ (38, lane_test bytes_wide nat_lt)
    ∷ (39, lane_test bytes_wide (λ n m. signed_lt bytes_wide m n)) ∷ (40, lane_test bytes_wide (λ n m. nat_lt m n))
    ∷ (41, lane_test bytes_wide (signed_le bytes_wide)) ∷ (42, lane_test bytes_wide nat_le)
    ∷ (43, lane_test bytes_wide (λ n m. signed_le bytes_wide m n)) ∷ (44, lane_test bytes_wide (λ n m. nat_le m n))
    ∷ (45, lane_test halves_wide (λ n m. n == m)) ∷ (46, lane_test halves_wide (λ n m. not (n == m)))
    ∷ (47, lane_test halves_wide (signed_lt halves_wide)) ∷ (48, lane_test halves_wide nat_lt)
    ∷ (49, lane_test halves_wide (λ n m. signed_lt halves_wide m n)) ∷ (50, lane_test halves_wide (λ n m. nat_lt m n))
    ∷ (51, lane_test halves_wide (signed_le halves_wide)) ∷ (52, lane_test halves_wide nat_le)
    ∷ (53, lane_test halves_wide (λ n m. signed_le halves_wide m n)) ∷ (54, lane_test halves_wide (λ n m. nat_le m n))
    ∷ (55, lane_test words_wide (λ n m. n == m)) ∷ (56, lane_test words_wide (λ n m. not (n == m)))
    ∷ (57, lane_test words_wide (signed_lt words_wide)) ∷ (58, lane_test words_wide nat_lt)
    ∷ (59, lane_test words_wide (λ n m. signed_lt words_wide m n)) ∷ (60, lane_test words_wide (λ n m. nat_lt m n))
    ∷ (61, lane_test words_wide (signed_le words_wide)) ∷ (62, lane_test words_wide nat_le)
    ∷ (63, lane_test words_wide (λ n m. signed_le words_wide m n)) ∷ (64, lane_test words_wide (λ n m. nat_le m n))
    ∷ (65, lane_test words_wide (float_eq w32)) ∷ (66, lane_test words_wide (λ n m. not (float_eq w32 n m)))
    ∷ (67, lane_test words_wide (float_lt w32)) ∷ (68, lane_test words_wide (λ n m. float_lt w32 m n))
    ∷ (69, lane_test words_wide (float_le w32)) ∷ (70, lane_test words_wide (λ n m. float_le w32 m n))
    ∷ (71, lane_test doubles_wide (float_eq w64)) ∷ (72, lane_test doubles_wide (λ n m. not (float_eq w64 n m)))
    ∷ (73, lane_test doubles_wide (float_lt w64)) ∷ (74, lane_test doubles_wide (λ n m. float_lt w64 m n))
    ∷ (75, lane_test doubles_wide (float_le w64)) ∷ (76, lane_test doubles_wide (λ n m. float_le w64 m n))
    ∷ (77, one_to (bit_xor ones)) ∷ (78, two_to bit_and) ∷ (79, two_to (λ n m. bit_and n (bit_xor ones m)))
    ∷ (80, two_to bit_or) ∷ (81, two_to bit_xor)
    ∷ (82, three_to (λ n m k. bit_or (bit_and n k) (bit_and m (bit_xor ones k)))) ∷ (83, one_to (λ n. if n == 0 then 0 else 1))
    ∷ (96, lane_abs bytes_wide) ∷ (97, lane_neg bytes_wide) ∷ (110, lane_add bytes_wide) ∷ (113, lane_sub bytes_wide)
    ∷ (101, lane_narrow halves_wide bytes_wide to_signed) ∷ (102, lane_narrow halves_wide bytes_wide to_unsigned)
    ∷ (111, lane_pairs bytes_wide (add_sat_s w8)) ∷ (112, lane_pairs bytes_wide (add_sat_u w8))
    ∷ (114, lane_pairs bytes_wide (sub_sat_s w8)) ∷ (115, lane_pairs bytes_wide (sub_sat_u w8)) ∷ (123, lane_pairs bytes_wide average)
    ∷ (107, lane_shl bytes_wide) ∷ (108, lane_shr_s bytes_wide) ∷ (109, lane_shr_u bytes_wide)
    ∷ (118, lane_min bytes_wide (signed_lt bytes_wide)) ∷ (119, lane_min bytes_wide nat_lt)
    ∷ (120, lane_max bytes_wide (signed_lt bytes_wide)) ∷ (121, lane_max bytes_wide nat_lt)
    ∷ (128, lane_abs halves_wide) ∷ (129, lane_neg halves_wide) ∷ (142, lane_add halves_wide) ∷ (145, lane_sub halves_wide) ∷ (149, lane_mul halves_wide)
    ∷ (130, lane_pairs halves_wide q15_product)
    ∷ (133, lane_narrow words_wide halves_wide to_signed) ∷ (134, lane_narrow words_wide halves_wide to_unsigned)
    ∷ (143, lane_pairs halves_wide (add_sat_s w16)) ∷ (144, lane_pairs halves_wide (add_sat_u w16))
    ∷ (146, lane_pairs halves_wide (sub_sat_s w16)) ∷ (147, lane_pairs halves_wide (sub_sat_u w16)) ∷ (155, lane_pairs halves_wide average)
    ∷ (139, lane_shl halves_wide) ∷ (140, lane_shr_s halves_wide) ∷ (141, lane_shr_u halves_wide)
    ∷ (150, lane_min halves_wide (signed_lt halves_wide)) ∷ (151, lane_min halves_wide nat_lt)
    ∷ (152, lane_max halves_wide (signed_lt halves_wide)) ∷ (153, lane_max halves_wide nat_lt)
    ∷ (160, lane_abs words_wide) ∷ (161, lane_neg words_wide) ∷ (174, lane_add words_wide) ∷ (177, lane_sub words_wide) ∷ (181, lane_mul words_wide)
    ∷ (171, lane_shl words_wide) ∷ (172, lane_shr_s words_wide) ∷ (173, lane_shr_u words_wide)
    ∷ (182, lane_min words_wide (signed_lt words_wide)) ∷ (183, lane_min words_wide nat_lt)
    ∷ (184, lane_max words_wide (signed_lt words_wide)) ∷ (185, lane_max words_wide nat_lt)
    ∷ (186, lane_pairs words_wide dot_product)
    ∷ (192, lane_abs doubles_wide) ∷ (193, lane_neg doubles_wide) ∷ (206, lane_add doubles_wide) ∷ (209, lane_sub doubles_wide) ∷ (213, lane_mul doubles_wide)
    ∷ (203, lane_shl doubles_wide) ∷ (204, lane_shr_s doubles_wide) ∷ (205, lane_shr_u doubles_wide)
    ∷ (214, lane_test doubles_wide (λ n m. n == m)) ∷ (215, lane_test doubles_wide (λ n m. not (n == m)))
    ∷ (216, lane_test doubles_wide (signed_lt doubles_wide)) ∷ (217, lane_test doubles_wide (λ n m. signed_lt doubles_wide m n))
    ∷ (218, lane_test doubles_wide (signed_le doubles_wide)) ∷ (219, lane_test doubles_wide (λ n m. signed_le doubles_wide m n))
    ∷ (224, one_to (on_lanes words_wide (magnitude w32))) ∷ (225, one_to (on_lanes words_wide (negated w32)))
    ∷ (236, one_to (on_lanes doubles_wide (magnitude w64))) ∷ (237, one_to (on_lanes doubles_wide (negated w64)))
    ∷ (234, lane_pmin words_wide) ∷ (235, lane_pmax words_wide) ∷ (246, lane_pmin doubles_wide) ∷ (247, lane_pmax doubles_wide)
    ∷ (248, one_to (on_lanes words_wide (trunc_sat_s w32 w32))) ∷ (249, one_to (on_lanes words_wide (trunc_sat_u w32 w32)))
    ∷ (250, one_to (on_lanes words_wide (convert_s w32 w32))) ∷ (251, one_to (on_lanes words_wide (convert_u w32)))
    ∷ (252, one_to (each_resized 64 32 (trunc_sat_s w64 w32) 2)) ∷ (253, one_to (each_resized 64 32 (trunc_sat_u w64 w32) 2))
    ∷ (254, one_to (each_resized 32 64 (convert_s w32 w64) 2)) ∷ (255, one_to (each_resized 32 64 (convert_u w64) 2)) ∷ []

-- the lane with sign, in 32 bits
abbrev pub signed_lane : Shape → (lane : ℕ) → List ℕ → ℕ
signed_lane s lane = one_to (λ n. cast_unsigned w32 (cast_signed s.width (lane_at s lane n)))

-- extractions of a lane, and replacements
abbrev pub lane_values : (lane : ℕ) → List (ℕ × (List ℕ → ℕ))
lane_values lane =
    (21, signed_lane bytes_wide lane) ∷ (22, one_to (lane_at bytes_wide lane)) ∷ (23, two_to (with_lane bytes_wide lane))
    ∷ (24, signed_lane halves_wide lane) ∷ (25, one_to (lane_at halves_wide lane)) ∷ (26, two_to (with_lane halves_wide lane))
    ∷ (27, one_to (lane_at words_wide lane)) ∷ (28, two_to (with_lane words_wide lane))
    ∷ (29, one_to (lane_at doubles_wide lane)) ∷ (30, two_to (with_lane doubles_wide lane))
    ∷ (31, one_to (lane_at words_wide lane)) ∷ (32, two_to (with_lane words_wide lane))
    ∷ (33, one_to (lane_at doubles_wide lane)) ∷ (34, two_to (with_lane doubles_wide lane)) ∷ []

-- ---- memories

-- a number of one width read as signed, in another
abbrev pub signed_in : Width → Width → ℕ → ℕ
signed_in from to n = cast_unsigned to (cast_signed from n)

-- the bytes of a number, and no sign
abbrev pub plainly : ℕ → Loading
plainly count = record { count = count; extended = λ n. n }

-- the bytes of a number of the first width, with its sign in the second
abbrev pub with_the_sign : (count : ℕ) → Width → Width → Loading
with_the_sign count from to = record { count = count; extended = signed_in from to }

-- i32.load to i64.load32_u
abbrev pub byte_loads : List (ℕ × Loading)
byte_loads =
    (0x28, plainly 4) ∷ (0x29, plainly 8) ∷ (0x2a, plainly 4) ∷ (0x2b, plainly 8)
    ∷ (0x2c, with_the_sign 1 w8 w32) ∷ (0x2d, plainly 1) ∷ (0x2e, with_the_sign 2 w16 w32) ∷ (0x2f, plainly 2)
    ∷ (0x30, with_the_sign 1 w8 w64) ∷ (0x31, plainly 1) ∷ (0x32, with_the_sign 2 w16 w64) ∷ (0x33, plainly 2)
    ∷ (0x34, with_the_sign 4 w32 w64) ∷ (0x35, plainly 4) ∷ []

-- i32.store to i64.store32: so many bytes of the second operand
abbrev pub byte_stores : List (ℕ × ℕ)
byte_stores =
    (0x36, 4) ∷ (0x37, 8) ∷ (0x38, 4) ∷ (0x39, 8) ∷ (0x3a, 1) ∷ (0x3b, 2) ∷ (0x3c, 1) ∷ (0x3d, 2) ∷ (0x3e, 4) ∷ []

-- v128.load, v128.load8_splat to v128.load64_splat, v128.load32_zero, v128.load64_zero
abbrev pub vector_loads : List (ℕ × Loading)
vector_loads =
    (0, plainly 16) ∷ (7, record { count = 1; extended = splat bytes_wide }) ∷ (8, record { count = 2; extended = splat halves_wide })
    ∷ (9, record { count = 4; extended = splat words_wide }) ∷ (10, record { count = 8; extended = splat doubles_wide })
    ∷ (92, plainly 4) ∷ (93, plainly 8) ∷ []

-- v128.store
abbrev pub vector_stores : List (ℕ × ℕ)
vector_stores = (11, 16) ∷ []

-- the first that is there
abbrev pub or_row : Option ExactRow → Option ExactRow → Option ExactRow
or_row (Some row) o = Some row
or_row None o = o

-- a load or a store with that memory argument
abbrev pub accessing : MemArg → Option Loading → Option ℕ → Option ExactRow
accessing m load store = or_row (option_map (loads m) load) (option_map (stores m) store)

-- ---- rows

-- the exact row of an opcode and its immediate, where it is one
abbrev pub exact_by : Option Opcode → Imm → Option ExactRow
exact_by (Some (Byte byte)) imm.Nothing = option_map computes (find byte_values byte)
exact_by (Some (Byte byte)) (imm.F32 n) = if byte == 0x43 then Some (computes (none_to n)) else None
exact_by (Some (Byte byte)) (imm.F64 n) = if byte == 0x44 then Some (computes (none_to n)) else None
exact_by (Some (Byte byte)) (imm.Mem m) = accessing m (find byte_loads byte) (find byte_stores byte)
exact_by (Some (Fc n)) imm.Nothing = option_map computes (find saturating_values n)
exact_by (Some (Fd n)) imm.Nothing = option_map computes (find vector_values n)
exact_by (Some (Fd n)) (imm.V128 z) = if n == 12 then Some (computes (none_to (cast_unsigned w128 z))) else None
exact_by (Some (Fd n)) (imm.Shuffle lanes) = if n == 13 then Some (computes (two_to (shuffled lanes))) else None
exact_by (Some (Fd n)) (imm.Lane lane) = option_map computes (find (lane_values lane) n)
exact_by (Some (Fd n)) (imm.Mem m) = accessing m (find vector_loads n) (find vector_stores n)
exact_by o i = None

-- what the standard says that the instruction does, where it is an exact row
unfoldable pub exact_row : Instruction → Option ExactRow
exact_row i = exact_by (opcode_in (row_at i.row)) i.imm
