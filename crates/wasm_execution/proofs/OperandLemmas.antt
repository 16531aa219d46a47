-- The operand column by the numbers of the rows.
use Rattle.std.proofs.Common.{◌≡◌, ℕ, zero, suc, ◌+◌, ◌≤◌, List, [], ◌∷◌, Option, Some, None, refl, ap, ◌∙◌, subst, arith}
use Rattle.std.specs.Prelude.{map, slice_get}
use Rattle.std.proofs.lemmas.Bool.{le-ltb}
use Rattle.wasm_code.specs.Table.{table, row_at}
use Rattle.wasm_code.specs.declared.table.Row.{Row}
use Rattle.wasm_execution.specs.declared.operand.OperandKind.TheVariants as kind
use Rattle.wasm_execution.specs.declared.operand.OperandColumn.{OperandColumn}
use Rattle.wasm_execution.specs.declared.operand.OperandColumn.TheVariants as column
use Rattle.wasm_execution.specs.OtherRow.{i32, i64, f32, f64, v128, address, index, element, unknown, none, one, two, three, by_spans, column_by, column_in}
use Rattle.wasm_execution.proofs.EffectLemmas.{past_end, count}

abbrev pub spans : List (ℕ × OperandColumn)
spans =
    (1, unknown)
    ∷ (2, column.Parameters)
    ∷ (9, unknown)
    ∷ (10, one index)
    ∷ (11, two index element)
    ∷ (25, one address)
    ∷ (26, two address i32)
    ∷ (27, two address i64)
    ∷ (28, two address f32)
    ∷ (29, two address f64)
    ∷ (31, two address i32)
    ∷ (34, two address i64)
    ∷ (35, none)
    ∷ (36, one address)
    ∷ (38, unknown)
    ∷ (40, none)
    ∷ (62, unknown)
    ∷ (68, two f32 f32)
    ∷ (74, two f64 f64)
    ∷ (110, unknown)
    ∷ (117, one f32)
    ∷ (124, two f32 f32)
    ∷ (131, one f64)
    ∷ (138, two f64 f64)
    ∷ (139, unknown)
    ∷ (141, one f32)
    ∷ (143, one f64)
    ∷ (145, unknown)
    ∷ (147, one f32)
    ∷ (149, one f64)
    ∷ (151, one i32)
    ∷ (153, one i64)
    ∷ (154, one f64)
    ∷ (156, one i32)
    ∷ (158, one i64)
    ∷ (160, one f32)
    ∷ (161, one f64)
    ∷ (162, one i32)
    ∷ (163, one i64)
    ∷ (168, unknown)
    ∷ (169, none)
    ∷ (170, one kind.Reference)
    ∷ (171, none)
    ∷ (173, one f32)
    ∷ (175, one f64)
    ∷ (177, one f32)
    ∷ (179, one f64)
    ∷ (180, three kind.OtherAddress i32 i32)
    ∷ (181, none)
    ∷ (182, three address kind.OtherAddress kind.SmallerAddress)
    ∷ (183, three address i32 address)
    ∷ (184, three kind.OtherIndex i32 i32)
    ∷ (185, none)
    ∷ (186, three index kind.OtherIndex kind.SmallerIndex)
    ∷ (187, two element index)
    ∷ (188, none)
    ∷ (189, three index element index)
    ∷ (200, one address)
    ∷ (201, two address v128)
    ∷ (202, none)
    ∷ (204, two v128 v128)
    ∷ (207, one i32)
    ∷ (208, one i64)
    ∷ (209, one f32)
    ∷ (210, one f64)
    ∷ (212, one v128)
    ∷ (213, two v128 i32)
    ∷ (215, one v128)
    ∷ (216, two v128 i32)
    ∷ (217, one v128)
    ∷ (218, two v128 i32)
    ∷ (219, one v128)
    ∷ (220, two v128 i64)
    ∷ (221, one v128)
    ∷ (222, two v128 f32)
    ∷ (223, one v128)
    ∷ (224, two v128 f64)
    ∷ (266, two v128 v128)
    ∷ (267, one v128)
    ∷ (271, two v128 v128)
    ∷ (272, three v128 v128 v128)
    ∷ (273, one v128)
    ∷ (281, two address v128)
    ∷ (283, one address)
    ∷ (290, one v128)
    ∷ (292, two v128 v128)
    ∷ (296, one v128)
    ∷ (299, two v128 i32)
    ∷ (305, two v128 v128)
    ∷ (307, one v128)
    ∷ (311, two v128 v128)
    ∷ (312, one v128)
    ∷ (313, two v128 v128)
    ∷ (319, one v128)
    ∷ (320, two v128 v128)
    ∷ (322, one v128)
    ∷ (324, two v128 v128)
    ∷ (328, one v128)
    ∷ (331, two v128 i32)
    ∷ (337, two v128 v128)
    ∷ (338, one v128)
    ∷ (348, two v128 v128)
    ∷ (356, one v128)
    ∷ (359, two v128 i32)
    ∷ (371, two v128 v128)
    ∷ (379, one v128)
    ∷ (382, two v128 i32)
    ∷ (395, two v128 v128)
    ∷ (398, one v128)
    ∷ (406, two v128 v128)
    ∷ (409, one v128)
    ∷ (417, two v128 v128)
    ∷ (425, one v128)
    ∷ (426, two v128 v128)
    ∷ (430, one v128)
    ∷ (438, three v128 v128 v128)
    ∷ (444, two v128 v128)
    ∷ (445, three v128 v128 v128)
    ∷ (446, three kind.Named kind.Named i32)
    ∷ []

-- the column of each row by its number
from : ℕ → List Row → List OperandColumn
from n [] = []
from n (row ∷ rows) = by_spans spans n ∷ from (suc n) rows

columns : from 0 table ≡ map (λ (row : Row). column_by row.info.operands row.opcode) table
unfolding table from
columns = refl

heads : {A : Type 0} (x y : A) (xs ys : List A) → x ∷ xs ≡ y ∷ ys → x ≡ y
heads x y xs ys e = cc

tails : {A : Type 0} (x y : A) (xs ys : List A) → x ∷ xs ≡ y ∷ ys → xs ≡ ys
tails x y xs ys e = cc

column_at : (rows : List Row) (from_row n : ℕ) (row : Row) → from from_row rows ≡ map (λ (row : Row). column_by row.info.operands row.opcode) rows →
    slice_get rows n ≡ Some row → by_spans spans (from_row + n) ≡ column_by row.info.operands row.opcode
unfolding from
column_at [] k n row h e = absurd cc
column_at (r ∷ rows) k zero row h e =
    let is : r ≡ row = cc in
    subst (λ (x : Row). by_spans spans (k + 0) ≡ column_by x.info.operands x.opcode) is
    (ap (by_spans spans) (let z : k + 0 ≡ k = omega arith in z)
    ∙ heads _ _ (from (suc k) rows) (map (λ (row : Row). column_by row.info.operands row.opcode) rows) h)
column_at (r ∷ rows) k (suc n) row h e =
    ap (by_spans spans) (let z : k + suc n ≡ suc k + n = omega arith in z) ∙
    column_at rows (suc k) n row (tails (by_spans spans k) (column_by r.info.operands r.opcode) _ _ h) e

past : (n : ℕ) → 446 ≤ n → by_spans spans n ≡ column.Unknown
past n l = rw (
  le-ltb n 1 (omega arith),
  le-ltb n 2 (omega arith),
  le-ltb n 9 (omega arith),
  le-ltb n 10 (omega arith),
  le-ltb n 11 (omega arith),
  le-ltb n 25 (omega arith),
  le-ltb n 26 (omega arith),
  le-ltb n 27 (omega arith),
  le-ltb n 28 (omega arith),
  le-ltb n 29 (omega arith),
  le-ltb n 31 (omega arith),
  le-ltb n 34 (omega arith),
  le-ltb n 35 (omega arith),
  le-ltb n 36 (omega arith),
  le-ltb n 38 (omega arith),
  le-ltb n 40 (omega arith),
  le-ltb n 62 (omega arith),
  le-ltb n 68 (omega arith),
  le-ltb n 74 (omega arith),
  le-ltb n 110 (omega arith),
  le-ltb n 117 (omega arith),
  le-ltb n 124 (omega arith),
  le-ltb n 131 (omega arith),
  le-ltb n 138 (omega arith),
  le-ltb n 139 (omega arith),
  le-ltb n 141 (omega arith),
  le-ltb n 143 (omega arith),
  le-ltb n 145 (omega arith),
  le-ltb n 147 (omega arith),
  le-ltb n 149 (omega arith),
  le-ltb n 151 (omega arith),
  le-ltb n 153 (omega arith),
  le-ltb n 154 (omega arith),
  le-ltb n 156 (omega arith),
  le-ltb n 158 (omega arith),
  le-ltb n 160 (omega arith),
  le-ltb n 161 (omega arith),
  le-ltb n 162 (omega arith),
  le-ltb n 163 (omega arith),
  le-ltb n 168 (omega arith),
  le-ltb n 169 (omega arith),
  le-ltb n 170 (omega arith),
  le-ltb n 171 (omega arith),
  le-ltb n 173 (omega arith),
  le-ltb n 175 (omega arith),
  le-ltb n 177 (omega arith),
  le-ltb n 179 (omega arith),
  le-ltb n 180 (omega arith),
  le-ltb n 181 (omega arith),
  le-ltb n 182 (omega arith),
  le-ltb n 183 (omega arith),
  le-ltb n 184 (omega arith),
  le-ltb n 185 (omega arith),
  le-ltb n 186 (omega arith),
  le-ltb n 187 (omega arith),
  le-ltb n 188 (omega arith),
  le-ltb n 189 (omega arith),
  le-ltb n 200 (omega arith),
  le-ltb n 201 (omega arith),
  le-ltb n 202 (omega arith),
  le-ltb n 204 (omega arith),
  le-ltb n 207 (omega arith),
  le-ltb n 208 (omega arith),
  le-ltb n 209 (omega arith),
  le-ltb n 210 (omega arith),
  le-ltb n 212 (omega arith),
  le-ltb n 213 (omega arith),
  le-ltb n 215 (omega arith),
  le-ltb n 216 (omega arith),
  le-ltb n 217 (omega arith),
  le-ltb n 218 (omega arith),
  le-ltb n 219 (omega arith),
  le-ltb n 220 (omega arith),
  le-ltb n 221 (omega arith),
  le-ltb n 222 (omega arith),
  le-ltb n 223 (omega arith),
  le-ltb n 224 (omega arith),
  le-ltb n 266 (omega arith),
  le-ltb n 267 (omega arith),
  le-ltb n 271 (omega arith),
  le-ltb n 272 (omega arith),
  le-ltb n 273 (omega arith),
  le-ltb n 281 (omega arith),
  le-ltb n 283 (omega arith),
  le-ltb n 290 (omega arith),
  le-ltb n 292 (omega arith),
  le-ltb n 296 (omega arith),
  le-ltb n 299 (omega arith),
  le-ltb n 305 (omega arith),
  le-ltb n 307 (omega arith),
  le-ltb n 311 (omega arith),
  le-ltb n 312 (omega arith),
  le-ltb n 313 (omega arith),
  le-ltb n 319 (omega arith),
  le-ltb n 320 (omega arith),
  le-ltb n 322 (omega arith),
  le-ltb n 324 (omega arith),
  le-ltb n 328 (omega arith),
  le-ltb n 331 (omega arith),
  le-ltb n 337 (omega arith),
  le-ltb n 338 (omega arith),
  le-ltb n 348 (omega arith),
  le-ltb n 356 (omega arith),
  le-ltb n 359 (omega arith),
  le-ltb n 371 (omega arith),
  le-ltb n 379 (omega arith),
  le-ltb n 382 (omega arith),
  le-ltb n 395 (omega arith),
  le-ltb n 398 (omega arith),
  le-ltb n 406 (omega arith),
  le-ltb n 409 (omega arith),
  le-ltb n 417 (omega arith),
  le-ltb n 425 (omega arith),
  le-ltb n 426 (omega arith),
  le-ltb n 430 (omega arith),
  le-ltb n 438 (omega arith),
  le-ltb n 444 (omega arith),
  le-ltb n 445 (omega arith),
  le-ltb n 446 (omega arith),
) refl

pub column_is : (n : ℕ) → by_spans spans n ≡ column_in (row_at n)
unfolding row_at
column_is n = go (slice_get table n) refl
  where
    go : (o : Option Row) → slice_get table n ≡ o → by_spans spans n ≡ column_in o
    go (Some row) e = ap (by_spans spans) (let k : n ≡ 0 + n = omega arith in k) ∙ column_at table 0 n row columns e
    go None e = past n (subst (λ k. k ≤ n) count (past_end table n e))
