-- Bytes of a vector picked by those of another one, of which those beyond the first vector are all one number.
use Rattle.std.proofs.Common.{◌≡◌, ℕ, ◌/◌, ◌%◌, ◌^◌, ◌<◌, Bool, true, false, refl, sym, ap, ◌∙◌}
use Rattle.std.specs.Prelude.{nat_lt, if◌then◌else◌}
use Rattle.std.proofs.Math.Nat.{mod-eq_of_lt}
use Rattle.wasm_code.specs.Table.{table, row_at}
use Rattle.wasm_execution.specs.ExactRow.{exact_row}
use Rattle.wasm_execution.specs.IntegerRow.{integer_row}
use Rattle.wasm_execution.specs.Lanes.{each_lane, each_pair}
use Rattle.rewrite_rules.specs.declared.table.vectors.TheConstants.{SWIZZLES}
use Rattle.rewrite_rules.specs.Exact.{exact_operator}
use Rattle.rewrite_rules.specs.Line.{IsRight}
use Rattle.rewrite_rules.specs.Table.{rows_of}
use Rattle.rewrite_rules.proofs.identities.RowLemmas.{AtRows, ◌▸◌}
use Rattle.rewrite_rules.proofs.identities.LaneNumbers.{second, Laned, all, each, pair, cut, SameLanes}
use Rattle.rewrite_rules.proofs.identities.VectorIdentities.{by_lanes, y}

-- the byte of the vector with that number, or 0
abbrev picked : (vector k : ℕ) → ℕ
picked vector k = if nat_lt k 16 then vector / 256 ^ k % 256 else 0

abbrev least : (n m : ℕ) → ℕ
least n m = if nat_lt n m then n else m

same_byte : (vector k : ℕ) → k < 256 → picked vector k % 2 ^ 8 ≡ picked vector (least k (16 % 2 ^ 8) % 2 ^ 8) % 2 ^ 8
same_byte vector k l = go (nat_lt k 16) refl
  where
    go : (b : Bool) → nat_lt k 16 ≡ b → (if b then vector / 256 ^ k % 256 else 0) % 2 ^ 8 ≡ picked vector ((if b then k else 16) % 2 ^ 8) % 2 ^ 8
    go true e = sym (ap (λ j. picked vector j % 2 ^ 8) (mod-eq_of_lt l) ∙ ap (λ c. (if c then vector / 256 ^ k % 256 else 0) % 2 ^ 8) e)
    go false e = refl

-- by the bytes of the second vector
abbrev plain : (vector : ℕ) → Laned
plain vector = cut (each (picked vector) y)

abbrev bounded : (vector : ℕ) → Laned
bounded vector = cut (each (picked vector) (cut (pair least y (all 16))))

same_bytes : (vector : ℕ) → SameLanes 8 (plain vector) (bounded vector)
same_bytes vector v l = same_byte vector (v second) (l second)

pub swizzles_right : AtRows IsRight (rows_of SWIZZLES)
unfolding exact_operator exact_row integer_row row_at table each_lane each_pair
swizzles_right =
    (λ h c us vs a e. by_lanes 8 16 refl (plain (h 0)) (bounded (h 0)) (same_bytes (h 0)) h c us vs a e)
    ▸ (λ h c us vs a e. by_lanes 8 16 refl (bounded (h 0)) (plain (h 0)) (λ v l. sym (same_bytes (h 0) v l)) h c us vs a e)
    ▸ tt
