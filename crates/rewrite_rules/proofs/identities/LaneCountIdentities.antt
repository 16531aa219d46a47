-- Lanes shifted by a count of which only those bits are left that say a place of a lane.
use Rattle.std.proofs.Common.{◌≡◌, ℕ, ◌+◌, ◌-◌, ◌*◌, ◌/◌, ◌%◌, ◌^◌, refl, sym, ap, ◌∙◌}
use Rattle.std.specs.Prelude.{bit_and}
use Rattle.std.specs.Int.{cast_signed, cast_unsigned, int_shr}
use Rattle.std.proofs.lemmas.Nat.{and_mask}
use Rattle.std.proofs.Math.Nat.{mod-mod}
use Rattle.std.proofs.Math.Pow.{mod-mod-pow}
use Rattle.wasm_code.specs.Table.{table, row_at}
use Rattle.wasm_types.specs.declared.types.PrimitiveTypeInfo.TheVariants.{I32}
use Rattle.wasm_execution.specs.ExactRow.{exact_row, bytes_wide, halves_wide, words_wide, doubles_wide}
use Rattle.wasm_execution.specs.IntegerRow.{integer_row}
use Rattle.wasm_execution.specs.Lanes.{Shape, on_lanes}
use Rattle.rewrite_rules.specs.declared.table.vectors.TheConstants.{LANE_COUNTS}
use Rattle.rewrite_rules.specs.Exact.{exact_operator}
use Rattle.rewrite_rules.specs.Line.{IsRight}
use Rattle.rewrite_rules.specs.Table.{rows_of}
use Rattle.rewrite_rules.proofs.identities.RowLemmas.{AtRows, ◌▸◌}
use Rattle.rewrite_rules.proofs.identities.LaneMoveIdentities.{Puts, onto, off}

-- ---- counts

-- lanes of so many bits, and the number by whose bits a count is cut
record Counted : Type 0 where
  shape : Shape
  places : ℕ
  mask : ℕ
  kept : (k : ℕ) → bit_and k mask % 2 ^ 32 % places ≡ k % places

masked : (j i k : ℕ) → j + i ≡ 32 → bit_and k (2 ^ i - 1) % 2 ^ 32 % 2 ^ i ≡ k % 2 ^ i
masked j i k e =
    ap (λ m. bit_and k (2 ^ i - 1) % 2 ^ m % 2 ^ i) (sym e)
    ∙ (mod-mod-pow (bit_and k (2 ^ i - 1)) j i ∙ (ap (λ m. m % 2 ^ i) (and_mask k i) ∙ mod-mod k (2 ^ i)))

abbrev bytes : Counted
bytes = record { shape = bytes_wide; places = 8; mask = 7; kept = λ k. masked 29 3 k refl }

abbrev halves : Counted
halves = record { shape = halves_wide; places = 16; mask = 15; kept = λ k. masked 28 4 k refl }

abbrev words : Counted
words = record { shape = words_wide; places = 32; mask = 31; kept = λ k. masked 27 5 k refl }

abbrev doubles : Counted
doubles = record { shape = doubles_wide; places = 64; mask = 63; kept = λ k. masked 26 6 k refl }

-- ---- lines

-- each lane shifted, by what it becomes by a count of places
abbrev shifted : Counted → ((places : ℕ) → ℕ → ℕ) → (places : ℕ) → ℕ → ℕ
shifted c f k n = on_lanes c.shape (f k) n % 2 ^ 128

-- by a count, and by the one that is cut
abbrev cut : (c : Counted) (f : (places : ℕ) → ℕ → ℕ) → Puts
cut c f = record {
  left = λ n k. shifted c f (k % c.places) n;
  right = λ n k. shifted c f (bit_and k c.mask % 2 ^ 32 % c.places) n;
  same = λ n k. ap (λ m. shifted c f m n) (sym (c.kept k));
}

abbrev shl : (places : ℕ) → ℕ → ℕ
shl k n = n * 2 ^ k

abbrev shr_s : Counted → (places : ℕ) → ℕ → ℕ
shr_s c k n = cast_unsigned c.shape.width (int_shr (cast_signed c.shape.width n) k)

abbrev shr_u : (places : ℕ) → ℕ → ℕ
shr_u k n = n / 2 ^ k

pub lane_counts_right : AtRows IsRight (rows_of LANE_COUNTS)
unfolding exact_operator exact_row integer_row row_at table
lane_counts_right =
    onto I32 (cut bytes shl) ▸ onto I32 (cut bytes (shr_s bytes)) ▸ onto I32 (cut bytes shr_u)
    ▸ onto I32 (cut halves shl) ▸ onto I32 (cut halves (shr_s halves)) ▸ onto I32 (cut halves shr_u)
    ▸ onto I32 (cut words shl) ▸ onto I32 (cut words (shr_s words)) ▸ onto I32 (cut words shr_u)
    ▸ onto I32 (cut doubles shl) ▸ onto I32 (cut doubles (shr_s doubles)) ▸ onto I32 (cut doubles shr_u)
    ▸ off I32 (cut bytes shl) ▸ off I32 (cut bytes (shr_s bytes)) ▸ off I32 (cut bytes shr_u)
    ▸ off I32 (cut halves shl) ▸ off I32 (cut halves (shr_s halves)) ▸ off I32 (cut halves shr_u)
    ▸ off I32 (cut words shl) ▸ off I32 (cut words (shr_s words)) ▸ off I32 (cut words shr_u)
    ▸ off I32 (cut doubles shl) ▸ off I32 (cut doubles (shr_s doubles)) ▸ off I32 (cut doubles shr_u)
    ▸ tt
