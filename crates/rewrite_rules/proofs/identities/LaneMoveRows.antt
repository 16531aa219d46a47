-- The rows on numbers that are put into lanes and taken out of them are right.
use Rattle.std.proofs.Common.{refl, lit≤}
use Rattle.wasm_code.specs.Table.{table, row_at}
use Rattle.wasm_execution.specs.ExactRow.{exact_row}
use Rattle.wasm_execution.specs.IntegerRow.{integer_row}
use Rattle.wasm_execution.specs.Lanes.{each_lane, each_pair}
use Rattle.rewrite_rules.specs.declared.table.lane_moves.TheConstants.{LANE_SPLATS, LANE_BITS, SPLAT_BITS, SIGNED_LANES, EXTENDED_LANES}
use Rattle.rewrite_rules.specs.declared.table.lane_moves.TheConstants.{REPLACED_BITS, MASKED_LANES, UNMASKED_LANES}
use Rattle.rewrite_rules.specs.Exact.{exact_operator}
use Rattle.rewrite_rules.specs.Line.{IsRight}
use Rattle.rewrite_rules.specs.Table.{rows_of}
use Rattle.rewrite_rules.proofs.identities.RowLemmas.{AtRows, ◌▸◌}
use Rattle.rewrite_rules.proofs.identities.LaneIdentities.{bytes, halves, words, doubles}
use Rattle.rewrite_rules.proofs.identities.LaneMoveIdentities as moved
use Rattle.rewrite_rules.proofs.identities.LaneMoveIdentities.{i32, i64, f32, f64, onward, homeward, onto, off}
use Rattle.wasm_types.specs.declared.types.PrimitiveTypeInfo.TheVariants.{I32, I64, F32, F64, V128}

pub splats_right : AtRows IsRight (rows_of LANE_SPLATS)
unfolding exact_operator exact_row integer_row row_at table each_lane each_pair
splats_right =
    onward I32 (moved.splat_out I32 i32 0 refl) ▸ onward I32 (moved.splat_out I32 i32 1 refl) ▸ onward I32 (moved.splat_out I32 i32 2 refl)
    ▸ onward I32 (moved.splat_out I32 i32 3 refl)
    ▸ onward I64 (moved.splat_out I64 i64 0 refl) ▸ onward I64 (moved.splat_out I64 i64 1 refl)
    ▸ onward F32 (moved.splat_out F32 f32 0 refl) ▸ onward F32 (moved.splat_out F32 f32 1 refl) ▸ onward F32 (moved.splat_out F32 f32 2 refl)
    ▸ onward F32 (moved.splat_out F32 f32 3 refl)
    ▸ onward F64 (moved.splat_out F64 f64 0 refl) ▸ onward F64 (moved.splat_out F64 f64 1 refl)
    ▸ homeward I32 (moved.splat_out I32 i32 0 refl) ▸ homeward I32 (moved.splat_out I32 i32 1 refl) ▸ homeward I32 (moved.splat_out I32 i32 2 refl)
    ▸ homeward I32 (moved.splat_out I32 i32 3 refl)
    ▸ homeward I64 (moved.splat_out I64 i64 0 refl) ▸ homeward I64 (moved.splat_out I64 i64 1 refl)
    ▸ homeward F32 (moved.splat_out F32 f32 0 refl) ▸ homeward F32 (moved.splat_out F32 f32 1 refl) ▸ homeward F32 (moved.splat_out F32 f32 2 refl)
    ▸ homeward F32 (moved.splat_out F32 f32 3 refl)
    ▸ homeward F64 (moved.splat_out F64 f64 0 refl) ▸ homeward F64 (moved.splat_out F64 f64 1 refl)
    ▸ tt

pub lane_bits_right : AtRows IsRight (rows_of LANE_BITS)
unfolding exact_operator exact_row integer_row row_at table each_lane each_pair
lane_bits_right =
    onward V128 (moved.lane_bits words 0) ▸ onward V128 (moved.lane_bits words 1) ▸ onward V128 (moved.lane_bits words 2)
    ▸ onward V128 (moved.lane_bits words 3) ▸ onward V128 (moved.lane_bits doubles 0) ▸ onward V128 (moved.lane_bits doubles 1)
    ▸ onward V128 (moved.lane_bits words 0) ▸ onward V128 (moved.lane_bits words 1) ▸ onward V128 (moved.lane_bits words 2)
    ▸ onward V128 (moved.lane_bits words 3) ▸ onward V128 (moved.lane_bits doubles 0) ▸ onward V128 (moved.lane_bits doubles 1)
    ▸ homeward V128 (moved.lane_bits words 0) ▸ homeward V128 (moved.lane_bits words 1) ▸ homeward V128 (moved.lane_bits words 2)
    ▸ homeward V128 (moved.lane_bits words 3) ▸ homeward V128 (moved.lane_bits doubles 0) ▸ homeward V128 (moved.lane_bits doubles 1)
    ▸ homeward V128 (moved.lane_bits words 0) ▸ homeward V128 (moved.lane_bits words 1) ▸ homeward V128 (moved.lane_bits words 2)
    ▸ homeward V128 (moved.lane_bits words 3) ▸ homeward V128 (moved.lane_bits doubles 0) ▸ homeward V128 (moved.lane_bits doubles 1)
    ▸ tt

pub splat_bits_right : AtRows IsRight (rows_of SPLAT_BITS)
unfolding exact_operator exact_row integer_row row_at table each_lane each_pair
splat_bits_right =
    onward F32 (moved.splat_bits F32 f32)
    ▸ onward F64 (moved.splat_bits F64 f64)
    ▸ onward I32 (moved.splat_bits I32 i32)
    ▸ onward I64 (moved.splat_bits I64 i64)
    ▸ homeward F32 (moved.splat_bits F32 f32)
    ▸ homeward F64 (moved.splat_bits F64 f64)
    ▸ homeward I32 (moved.splat_bits I32 i32)
    ▸ homeward I64 (moved.splat_bits I64 i64)
    ▸ onward V128 (moved.replaced words 0) ▸ onward V128 (moved.replaced words 1) ▸ onward V128 (moved.replaced words 2)
    ▸ onward V128 (moved.replaced words 3) ▸ onward V128 (moved.replaced doubles 0) ▸ onward V128 (moved.replaced doubles 1)
    ▸ homeward V128 (moved.replaced words 0) ▸ homeward V128 (moved.replaced words 1) ▸ homeward V128 (moved.replaced words 2)
    ▸ homeward V128 (moved.replaced words 3) ▸ homeward V128 (moved.replaced doubles 0) ▸ homeward V128 (moved.replaced doubles 1)
    ▸ tt

pub signed_lanes_right : AtRows IsRight (rows_of SIGNED_LANES)
unfolding exact_operator exact_row integer_row row_at table each_lane each_pair
signed_lanes_right =
    onward V128 (moved.signed_lane bytes (lit≤ tt) 0) ▸ onward V128 (moved.signed_lane bytes (lit≤ tt) 1)
    ▸ onward V128 (moved.signed_lane bytes (lit≤ tt) 2) ▸ onward V128 (moved.signed_lane bytes (lit≤ tt) 3)
    ▸ onward V128 (moved.signed_lane bytes (lit≤ tt) 4) ▸ onward V128 (moved.signed_lane bytes (lit≤ tt) 5)
    ▸ onward V128 (moved.signed_lane bytes (lit≤ tt) 6) ▸ onward V128 (moved.signed_lane bytes (lit≤ tt) 7)
    ▸ onward V128 (moved.signed_lane bytes (lit≤ tt) 8) ▸ onward V128 (moved.signed_lane bytes (lit≤ tt) 9)
    ▸ onward V128 (moved.signed_lane bytes (lit≤ tt) 10) ▸ onward V128 (moved.signed_lane bytes (lit≤ tt) 11)
    ▸ onward V128 (moved.signed_lane bytes (lit≤ tt) 12) ▸ onward V128 (moved.signed_lane bytes (lit≤ tt) 13)
    ▸ onward V128 (moved.signed_lane bytes (lit≤ tt) 14) ▸ onward V128 (moved.signed_lane bytes (lit≤ tt) 15)
    ▸ onward V128 (moved.signed_lane halves (lit≤ tt) 0) ▸ onward V128 (moved.signed_lane halves (lit≤ tt) 1)
    ▸ onward V128 (moved.signed_lane halves (lit≤ tt) 2) ▸ onward V128 (moved.signed_lane halves (lit≤ tt) 3)
    ▸ onward V128 (moved.signed_lane halves (lit≤ tt) 4) ▸ onward V128 (moved.signed_lane halves (lit≤ tt) 5)
    ▸ onward V128 (moved.signed_lane halves (lit≤ tt) 6) ▸ onward V128 (moved.signed_lane halves (lit≤ tt) 7)
    ▸ tt

pub extended_lanes_right : AtRows IsRight (rows_of EXTENDED_LANES)
unfolding exact_operator exact_row integer_row row_at table each_lane each_pair
extended_lanes_right =
    homeward V128 (moved.signed_lane bytes (lit≤ tt) 0) ▸ homeward V128 (moved.signed_lane bytes (lit≤ tt) 1)
    ▸ homeward V128 (moved.signed_lane bytes (lit≤ tt) 2) ▸ homeward V128 (moved.signed_lane bytes (lit≤ tt) 3)
    ▸ homeward V128 (moved.signed_lane bytes (lit≤ tt) 4) ▸ homeward V128 (moved.signed_lane bytes (lit≤ tt) 5)
    ▸ homeward V128 (moved.signed_lane bytes (lit≤ tt) 6) ▸ homeward V128 (moved.signed_lane bytes (lit≤ tt) 7)
    ▸ homeward V128 (moved.signed_lane bytes (lit≤ tt) 8) ▸ homeward V128 (moved.signed_lane bytes (lit≤ tt) 9)
    ▸ homeward V128 (moved.signed_lane bytes (lit≤ tt) 10) ▸ homeward V128 (moved.signed_lane bytes (lit≤ tt) 11)
    ▸ homeward V128 (moved.signed_lane bytes (lit≤ tt) 12) ▸ homeward V128 (moved.signed_lane bytes (lit≤ tt) 13)
    ▸ homeward V128 (moved.signed_lane bytes (lit≤ tt) 14) ▸ homeward V128 (moved.signed_lane bytes (lit≤ tt) 15)
    ▸ homeward V128 (moved.signed_lane halves (lit≤ tt) 0) ▸ homeward V128 (moved.signed_lane halves (lit≤ tt) 1)
    ▸ homeward V128 (moved.signed_lane halves (lit≤ tt) 2) ▸ homeward V128 (moved.signed_lane halves (lit≤ tt) 3)
    ▸ homeward V128 (moved.signed_lane halves (lit≤ tt) 4) ▸ homeward V128 (moved.signed_lane halves (lit≤ tt) 5)
    ▸ homeward V128 (moved.signed_lane halves (lit≤ tt) 6) ▸ homeward V128 (moved.signed_lane halves (lit≤ tt) 7)
    ▸ tt

pub replaced_bits_right : AtRows IsRight (rows_of REPLACED_BITS)
unfolding exact_operator exact_row integer_row row_at table each_lane each_pair
replaced_bits_right =
    onto F32 (moved.put_bits words 0) ▸ onto F32 (moved.put_bits words 1) ▸ onto F32 (moved.put_bits words 2) ▸ onto F32 (moved.put_bits words 3)
    ▸ onto F64 (moved.put_bits doubles 0) ▸ onto F64 (moved.put_bits doubles 1) ▸ off F32 (moved.put_bits words 0) ▸ off F32 (moved.put_bits words 1)
    ▸ off F32 (moved.put_bits words 2) ▸ off F32 (moved.put_bits words 3) ▸ off F64 (moved.put_bits doubles 0) ▸ off F64 (moved.put_bits doubles 1)
    ▸ onto I32 (moved.put_bits words 0) ▸ onto I32 (moved.put_bits words 1) ▸ onto I32 (moved.put_bits words 2) ▸ onto I32 (moved.put_bits words 3)
    ▸ onto I64 (moved.put_bits doubles 0) ▸ onto I64 (moved.put_bits doubles 1) ▸ off I32 (moved.put_bits words 0) ▸ off I32 (moved.put_bits words 1)
    ▸ off I32 (moved.put_bits words 2) ▸ off I32 (moved.put_bits words 3) ▸ off I64 (moved.put_bits doubles 0) ▸ off I64 (moved.put_bits doubles 1)
    ▸ tt

pub masked_lanes_right : AtRows IsRight (rows_of MASKED_LANES)
unfolding exact_operator exact_row integer_row row_at table each_lane each_pair
masked_lanes_right =
    onto I32 (moved.put_masked bytes (lit≤ tt) 0) ▸ onto I32 (moved.put_masked bytes (lit≤ tt) 1) ▸ onto I32 (moved.put_masked bytes (lit≤ tt) 2)
    ▸ onto I32 (moved.put_masked bytes (lit≤ tt) 3) ▸ onto I32 (moved.put_masked bytes (lit≤ tt) 4) ▸ onto I32 (moved.put_masked bytes (lit≤ tt) 5)
    ▸ onto I32 (moved.put_masked bytes (lit≤ tt) 6) ▸ onto I32 (moved.put_masked bytes (lit≤ tt) 7) ▸ onto I32 (moved.put_masked bytes (lit≤ tt) 8)
    ▸ onto I32 (moved.put_masked bytes (lit≤ tt) 9) ▸ onto I32 (moved.put_masked bytes (lit≤ tt) 10) ▸ onto I32 (moved.put_masked bytes (lit≤ tt) 11)
    ▸ onto I32 (moved.put_masked bytes (lit≤ tt) 12) ▸ onto I32 (moved.put_masked bytes (lit≤ tt) 13) ▸ onto I32 (moved.put_masked bytes (lit≤ tt) 14)
    ▸ onto I32 (moved.put_masked bytes (lit≤ tt) 15) ▸ onto I32 (moved.put_masked halves (lit≤ tt) 0) ▸ onto I32 (moved.put_masked halves (lit≤ tt) 1)
    ▸ onto I32 (moved.put_masked halves (lit≤ tt) 2) ▸ onto I32 (moved.put_masked halves (lit≤ tt) 3) ▸ onto I32 (moved.put_masked halves (lit≤ tt) 4)
    ▸ onto I32 (moved.put_masked halves (lit≤ tt) 5) ▸ onto I32 (moved.put_masked halves (lit≤ tt) 6) ▸ onto I32 (moved.put_masked halves (lit≤ tt) 7)
    ▸ tt

pub unmasked_lanes_right : AtRows IsRight (rows_of UNMASKED_LANES)
unfolding exact_operator exact_row integer_row row_at table each_lane each_pair
unmasked_lanes_right =
    off I32 (moved.put_masked bytes (lit≤ tt) 0) ▸ off I32 (moved.put_masked bytes (lit≤ tt) 1) ▸ off I32 (moved.put_masked bytes (lit≤ tt) 2)
    ▸ off I32 (moved.put_masked bytes (lit≤ tt) 3) ▸ off I32 (moved.put_masked bytes (lit≤ tt) 4) ▸ off I32 (moved.put_masked bytes (lit≤ tt) 5)
    ▸ off I32 (moved.put_masked bytes (lit≤ tt) 6) ▸ off I32 (moved.put_masked bytes (lit≤ tt) 7) ▸ off I32 (moved.put_masked bytes (lit≤ tt) 8)
    ▸ off I32 (moved.put_masked bytes (lit≤ tt) 9) ▸ off I32 (moved.put_masked bytes (lit≤ tt) 10) ▸ off I32 (moved.put_masked bytes (lit≤ tt) 11)
    ▸ off I32 (moved.put_masked bytes (lit≤ tt) 12) ▸ off I32 (moved.put_masked bytes (lit≤ tt) 13) ▸ off I32 (moved.put_masked bytes (lit≤ tt) 14)
    ▸ off I32 (moved.put_masked bytes (lit≤ tt) 15) ▸ off I32 (moved.put_masked halves (lit≤ tt) 0) ▸ off I32 (moved.put_masked halves (lit≤ tt) 1)
    ▸ off I32 (moved.put_masked halves (lit≤ tt) 2) ▸ off I32 (moved.put_masked halves (lit≤ tt) 3) ▸ off I32 (moved.put_masked halves (lit≤ tt) 4)
    ▸ off I32 (moved.put_masked halves (lit≤ tt) 5) ▸ off I32 (moved.put_masked halves (lit≤ tt) 6) ▸ off I32 (moved.put_masked halves (lit≤ tt) 7)
    ▸ tt
