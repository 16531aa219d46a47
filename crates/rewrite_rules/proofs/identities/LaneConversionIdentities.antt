-- Conversions of one number by those of the lanes of a vector, the lowest of which it is.
use Rattle.std.proofs.Common.{◌≡◌, ℕ, suc, ◌+◌, ◌*◌, ◌/◌, ◌%◌, ◌^◌, ◌<◌, refl, sym, ap, ◌∙◌}
use Rattle.std.specs.Int.{w32, w64}
use Rattle.std.proofs.lemmas.Nat.{pow_pos, mod-mul-add}
use Rattle.std.proofs.Math.Nat.{mod-eq_of_lt, mod-lt, mod-mod, mul-zero, div-one}
use Rattle.std.proofs.Math.Pow.{mod-mod-pow}
use Rattle.wasm_code.specs.Table.{table, row_at}
use Rattle.wasm_types.specs.declared.types.PrimitiveTypeInfo.{PrimitiveTypeInfo}
use Rattle.wasm_types.specs.declared.types.PrimitiveTypeInfo.TheVariants.{I32, F32, F64}
use Rattle.wasm_execution.specs.Conversions.{trunc_sat_s, trunc_sat_u, convert_u, convert_s, each_resized}
use Rattle.wasm_execution.specs.ExactRow.{exact_row, words_wide, doubles_wide}
use Rattle.wasm_execution.specs.IntegerRow.{integer_row}
use Rattle.wasm_execution.specs.Lanes.{each_lane, on_lanes, splat, lane_at}
use Rattle.wasm_execution.specs.Values.{IsOfType}
use Rattle.rewrite_rules.specs.declared.table.lane_moves.TheConstants.{LANE_CONVERSIONS}
use Rattle.rewrite_rules.specs.Exact.{exact_operator}
use Rattle.rewrite_rules.specs.Line.{IsRight}
use Rattle.rewrite_rules.specs.Table.{rows_of}
use Rattle.rewrite_rules.proofs.identities.LaneMoveIdentities.{Moves, onward, homeward}
use Rattle.rewrite_rules.proofs.identities.RowLemmas.{AtRows, ◌▸◌}

-- ---- the lowest lane

-- the lowest number of those that are left in 128 bits
lowest : (b j a r : ℕ) → j + b ≡ 128 → r < 2 ^ b → (a * 2 ^ b + r) % 2 ^ 128 % 2 ^ b ≡ r
lowest b j a r e l = ap (λ k. (a * 2 ^ b + r) % 2 ^ k % 2 ^ b) (sym e) ∙ (mod-mod-pow (a * 2 ^ b + r) j b ∙ mod-mul-add a (2 ^ b) r l)

lowest_of_splat : (b j c n : ℕ) → j + b ≡ 128 → n < 2 ^ b → each_lane b (λ k. n) (suc c) 0 % 2 ^ 128 % 2 ^ b ≡ n
unfolding each_lane
lowest_of_splat b j c n e l = lowest b j (each_lane b (λ k. n) c (0 / 2 ^ b)) (n % 2 ^ b) e (mod-lt n (pow_pos b)) ∙ mod-eq_of_lt l

-- taken out of a vector, and cut to a number of as many bits
taken_out : (b j a m : ℕ) → j + b ≡ 128 → m % 2 ^ b ≡ (a * 2 ^ b + m % 2 ^ b) % 2 ^ 128 / 2 ^ (b * 0) % 2 ^ b % 2 ^ b
taken_out b j a m e =
    let n = (a * 2 ^ b + m % 2 ^ b) % 2 ^ 128 in
    sym (ap (λ k. n / 2 ^ k % 2 ^ b % 2 ^ b) (mul-zero b)
    ∙ (ap (λ k. k % 2 ^ b % 2 ^ b) (div-one n)
    ∙ (mod-mod n (2 ^ b) ∙ lowest b j a (m % 2 ^ b) e (mod-lt m (pow_pos b)))))

in_lanes : (b j c : ℕ) (f : ℕ → ℕ) (n : ℕ) → j + b ≡ 128 → n < 2 ^ b →
    f n % 2 ^ b ≡ each_lane b f (suc c) (each_lane b (λ k. n) (suc c) 0 % 2 ^ 128) % 2 ^ 128 / 2 ^ (b * 0) % 2 ^ b % 2 ^ b
unfolding each_lane
in_lanes b j c f n e l =
    let v = each_lane b (λ k. n) (suc c) 0 % 2 ^ 128 in
    ap (λ m. f m % 2 ^ b) (sym (lowest_of_splat b j c n e l)) ∙ taken_out b j (each_lane b f c (v / 2 ^ b)) (f (v % 2 ^ b)) e

in_resized : (from to i j c d : ℕ) (f : ℕ → ℕ) (n : ℕ) → i + from ≡ 128 → j + to ≡ 128 → n < 2 ^ from →
    f n % 2 ^ to ≡ each_resized from to f (suc d) (each_lane from (λ k. n) (suc c) 0 % 2 ^ 128) % 2 ^ 128 / 2 ^ (to * 0) % 2 ^ to % 2 ^ to
unfolding each_resized
in_resized from to i j c d f n e k l =
    let v = each_lane from (λ k. n) (suc c) 0 % 2 ^ 128 in
    ap (λ m. f m % 2 ^ to) (sym (lowest_of_splat from i c n e l)) ∙ taken_out to j (each_resized from to f d (v / 2 ^ from)) (f (v % 2 ^ from)) k

-- ---- lines

-- between numbers of 32 bits
abbrev of_words : (t : PrimitiveTypeInfo) → ((n : ℕ) → IsOfType t n → n < 2 ^ 32) → (ℕ → ℕ) → Moves t
of_words t small f = record {
  left = λ n. f n % 2 ^ 32;
  right = λ n. lane_at words_wide 0 (on_lanes words_wide f (splat words_wide n % 2 ^ 128) % 2 ^ 128) % 2 ^ 32;
  same = λ n l. in_lanes 32 96 3 f n refl (small n l);
}

-- of 64 bits, to those of 32 bits
abbrev halved : (ℕ → ℕ) → Moves F64
halved f = record {
  left = λ n. f n % 2 ^ 32;
  right = λ n. lane_at words_wide 0 (each_resized 64 32 f 2 (splat doubles_wide n % 2 ^ 128) % 2 ^ 128) % 2 ^ 32;
  same = λ n l. in_resized 64 32 64 96 1 1 f n refl refl l;
}

-- of 32 bits, to those of 64 bits
abbrev doubled : (ℕ → ℕ) → Moves I32
doubled f = record {
  left = λ n. f n % 2 ^ 64;
  right = λ n. lane_at doubles_wide 0 (each_resized 32 64 f 2 (splat words_wide n % 2 ^ 128) % 2 ^ 128) % 2 ^ 64;
  same = λ n l. in_resized 32 64 96 64 3 1 f n refl refl l;
}

abbrev of_float : (ℕ → ℕ) → Moves F32
of_float f = of_words F32 (λ n l. l) f

abbrev of_integer : (ℕ → ℕ) → Moves I32
of_integer f = of_words I32 (λ n l. l) f

pub lane_conversions_right : AtRows IsRight (rows_of LANE_CONVERSIONS)
unfolding exact_operator exact_row integer_row row_at table
lane_conversions_right =
    onward F32 (of_float (trunc_sat_s w32 w32)) ▸ onward F32 (of_float (trunc_sat_u w32 w32))
    ▸ onward F64 (halved (trunc_sat_s w64 w32)) ▸ onward F64 (halved (trunc_sat_u w64 w32))
    ▸ homeward F32 (of_float (trunc_sat_s w32 w32)) ▸ homeward F32 (of_float (trunc_sat_u w32 w32))
    ▸ homeward F64 (halved (trunc_sat_s w64 w32)) ▸ homeward F64 (halved (trunc_sat_u w64 w32))
    ▸ onward I32 (of_integer (convert_s w32 w32)) ▸ onward I32 (of_integer (convert_u w32))
    ▸ onward I32 (doubled (convert_s w32 w64)) ▸ onward I32 (doubled (convert_u w64))
    ▸ homeward I32 (of_integer (convert_s w32 w32)) ▸ homeward I32 (of_integer (convert_u w32))
    ▸ homeward I32 (doubled (convert_s w32 w64)) ▸ homeward I32 (doubled (convert_u w64))
    ▸ tt
