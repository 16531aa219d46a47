-- The rows on vectors by their bits, and on sums, shifts and signs of lanes, are right.
use Rattle.std.proofs.Common.{refl}
use Rattle.wasm_code.specs.Table.{table, row_at}
use Rattle.wasm_execution.specs.ExactRow.{exact_row}
use Rattle.wasm_execution.specs.IntegerRow.{integer_row}
use Rattle.wasm_execution.specs.Lanes.{each_lane, each_pair}
use Rattle.rewrite_rules.specs.declared.table.vectors.TheConstants.{VECTOR_BITS, VECTOR_FORMS, LANE_SUMS, LANE_NEGATIVES, LANE_ZEROS}
use Rattle.rewrite_rules.specs.declared.table.vectors.TheConstants.{LANE_MAGNITUDES, LANE_SHIFTS, LANE_TURNS, LANE_FLOATS, VECTOR_DECIDED}
use Rattle.rewrite_rules.specs.Exact.{exact_operator}
use Rattle.rewrite_rules.specs.Line.{IsRight}
use Rattle.rewrite_rules.specs.Table.{rows_of}
use Rattle.rewrite_rules.proofs.identities.RowLemmas.{AtRows, ◌▸◌}
use Rattle.rewrite_rules.proofs.identities.VectorIdentities.{x, y, z, zeros, ones, no, and, or, xor, without, chosen, same, same_drawn}
use Rattle.rewrite_rules.proofs.identities.LaneIdentities.{bytes, halves, words, doubles, forth, back}
use Rattle.rewrite_rules.proofs.identities.LaneIdentities as laned
use Rattle.rewrite_rules.proofs.identities.LaneSignIdentities as sign

pub bits_right : AtRows IsRight (rows_of VECTOR_BITS)
unfolding exact_operator exact_row integer_row row_at table each_lane each_pair
bits_right =
    same x (no (no x)) refl
    ▸ same (no (no x)) x refl
    ▸ same (and x y) (and y x) refl
    ▸ same (or x y) (or y x) refl
    ▸ same (xor x y) (xor y x) refl
    ▸ same (and x (and y z)) (and (and x y) z) refl
    ▸ same (or x (or y z)) (or (or x y) z) refl
    ▸ same (xor x (xor y z)) (xor (xor x y) z) refl
    ▸ same (and (and x y) z) (and x (and y z)) refl
    ▸ same (or (or x y) z) (or x (or y z)) refl
    ▸ same (xor (xor x y) z) (xor x (xor y z)) refl
    ▸ same (no x) (xor x ones) refl
    ▸ same (xor x ones) (no x) refl
    ▸ same x (or x zeros) refl
    ▸ same x (xor x zeros) refl
    ▸ same x (and x ones) refl
    ▸ same (or x zeros) x refl
    ▸ same (xor x zeros) x refl
    ▸ same (and x ones) x refl
    ▸ tt

pub forms_right : AtRows IsRight (rows_of VECTOR_FORMS)
unfolding exact_operator exact_row integer_row row_at table each_lane each_pair
forms_right =
    same (without x y) (and x (no y)) refl
    ▸ same (and x (no y)) (without x y) refl
    ▸ same (no (and x y)) (or (no x) (no y)) refl
    ▸ same (no (or x y)) (and (no x) (no y)) refl
    ▸ same (or (no x) (no y)) (no (and x y)) refl
    ▸ same (and (no x) (no y)) (no (or x y)) refl
    ▸ same x (and x x) refl
    ▸ same x (or x x) refl
    ▸ same (and x x) x refl
    ▸ same (or x x) x refl
    ▸ same (xor x x) zeros refl
    ▸ same (chosen x x z) x refl
    ▸ same (chosen x y z) (or (and x z) (without y z)) refl
    ▸ same (or (and x z) (without y z)) (chosen x y z) refl
    ▸ same (chosen x y z) (chosen y x (no z)) refl
    ▸ same (chosen y x (no z)) (chosen x y z) refl
    ▸ same (and x (or x y)) x refl
    ▸ same (or x (and x y)) x refl
    ▸ tt

pub sums_right : AtRows IsRight (rows_of LANE_SUMS)
unfolding exact_operator exact_row integer_row row_at table each_lane each_pair
sums_right =
    forth bytes laned.add_turns ▸ forth halves laned.add_turns ▸ forth words laned.add_turns ▸ forth doubles laned.add_turns
    ▸ forth halves laned.mul_turns ▸ forth words laned.mul_turns ▸ forth doubles laned.mul_turns
    ▸ forth bytes laned.add_groups ▸ forth halves laned.add_groups ▸ forth words laned.add_groups ▸ forth doubles laned.add_groups
    ▸ forth halves laned.mul_groups ▸ forth words laned.mul_groups ▸ forth doubles laned.mul_groups
    ▸ back bytes laned.add_groups ▸ back halves laned.add_groups ▸ back words laned.add_groups ▸ back doubles laned.add_groups
    ▸ back halves laned.mul_groups ▸ back words laned.mul_groups ▸ back doubles laned.mul_groups
    ▸ tt

pub negatives_right : AtRows IsRight (rows_of LANE_NEGATIVES)
unfolding exact_operator exact_row integer_row row_at table each_lane each_pair
negatives_right =
    forth bytes laned.difference_is_sum ▸ forth halves laned.difference_is_sum ▸ forth words laned.difference_is_sum
    ▸ forth doubles laned.difference_is_sum
    ▸ back bytes laned.difference_is_sum ▸ back halves laned.difference_is_sum ▸ back words laned.difference_is_sum
    ▸ back doubles laned.difference_is_sum
    ▸ forth bytes laned.negative_is_difference ▸ forth halves laned.negative_is_difference ▸ forth words laned.negative_is_difference
    ▸ forth doubles laned.negative_is_difference
    ▸ back bytes laned.negative_is_difference ▸ back halves laned.negative_is_difference ▸ back words laned.negative_is_difference
    ▸ back doubles laned.negative_is_difference
    ▸ forth bytes laned.negative_twice ▸ forth halves laned.negative_twice ▸ forth words laned.negative_twice ▸ forth doubles laned.negative_twice
    ▸ back bytes laned.negative_twice ▸ back halves laned.negative_twice ▸ back words laned.negative_twice ▸ back doubles laned.negative_twice
    ▸ tt

pub zeros_right : AtRows IsRight (rows_of LANE_ZEROS)
unfolding exact_operator exact_row integer_row row_at table each_lane each_pair
zeros_right =
    forth bytes laned.sum_with_zero ▸ forth halves laned.sum_with_zero ▸ forth words laned.sum_with_zero ▸ forth doubles laned.sum_with_zero
    ▸ back bytes laned.sum_with_zero ▸ back halves laned.sum_with_zero ▸ back words laned.sum_with_zero ▸ back doubles laned.sum_with_zero
    ▸ forth bytes laned.difference_of_same ▸ forth halves laned.difference_of_same ▸ forth words laned.difference_of_same
    ▸ forth doubles laned.difference_of_same
    ▸ forth bytes laned.abs_of_negative ▸ forth halves laned.abs_of_negative ▸ forth words laned.abs_of_negative ▸ forth doubles laned.abs_of_negative
    ▸ back bytes laned.abs_of_negative ▸ back halves laned.abs_of_negative ▸ back words laned.abs_of_negative ▸ back doubles laned.abs_of_negative
    ▸ tt

pub magnitudes_right : AtRows IsRight (rows_of LANE_MAGNITUDES)
unfolding exact_operator exact_row integer_row row_at table each_lane each_pair
magnitudes_right =
    forth bytes laned.abs_twice ▸ forth halves laned.abs_twice ▸ forth words laned.abs_twice ▸ forth doubles laned.abs_twice
    ▸ back bytes laned.abs_twice ▸ back halves laned.abs_twice ▸ back words laned.abs_twice ▸ back doubles laned.abs_twice
    ▸ forth bytes laned.shift_doubles ▸ forth halves laned.shift_doubles ▸ forth words laned.shift_doubles ▸ forth doubles laned.shift_doubles
    ▸ back bytes laned.shift_doubles ▸ back halves laned.shift_doubles ▸ back words laned.shift_doubles ▸ back doubles laned.shift_doubles
    ▸ tt

pub shifts_right : AtRows IsRight (rows_of LANE_SHIFTS)
unfolding exact_operator exact_row integer_row row_at table each_lane each_pair
shifts_right =
    forth bytes laned.shl_by_none ▸ forth halves laned.shl_by_none ▸ forth words laned.shl_by_none ▸ forth doubles laned.shl_by_none
    ▸ forth bytes laned.shr_s_by_none ▸ forth halves laned.shr_s_by_none ▸ forth words laned.shr_s_by_none ▸ forth doubles laned.shr_s_by_none
    ▸ forth bytes laned.shr_u_by_none ▸ forth halves laned.shr_u_by_none ▸ forth words laned.shr_u_by_none ▸ forth doubles laned.shr_u_by_none
    ▸ back bytes laned.shl_by_none ▸ back halves laned.shl_by_none ▸ back words laned.shl_by_none ▸ back doubles laned.shl_by_none
    ▸ back bytes laned.shr_s_by_none ▸ back halves laned.shr_s_by_none ▸ back words laned.shr_s_by_none ▸ back doubles laned.shr_s_by_none
    ▸ back bytes laned.shr_u_by_none ▸ back halves laned.shr_u_by_none ▸ back words laned.shr_u_by_none ▸ back doubles laned.shr_u_by_none
    ▸ tt

pub lane_turns_right : AtRows IsRight (rows_of LANE_TURNS)
unfolding exact_operator exact_row integer_row row_at table each_lane each_pair
lane_turns_right =
    forth bytes laned.shl_by_none ▸ forth halves laned.shl_by_none ▸ forth words laned.shl_by_none ▸ forth doubles laned.shl_by_none
    ▸ forth bytes laned.shr_s_by_none ▸ forth halves laned.shr_s_by_none ▸ forth words laned.shr_s_by_none ▸ forth doubles laned.shr_s_by_none
    ▸ forth bytes laned.shr_u_by_none ▸ forth halves laned.shr_u_by_none ▸ forth words laned.shr_u_by_none ▸ forth doubles laned.shr_u_by_none
    ▸ back bytes laned.shl_by_none ▸ back halves laned.shl_by_none ▸ back words laned.shl_by_none ▸ back doubles laned.shl_by_none
    ▸ back bytes laned.shr_s_by_none ▸ back halves laned.shr_s_by_none ▸ back words laned.shr_s_by_none ▸ back doubles laned.shr_s_by_none
    ▸ back bytes laned.shr_u_by_none ▸ back halves laned.shr_u_by_none ▸ back words laned.shr_u_by_none ▸ back doubles laned.shr_u_by_none
    ▸ tt

pub floats_right : AtRows IsRight (rows_of LANE_FLOATS)
unfolding exact_operator exact_row integer_row row_at table each_lane each_pair
floats_right =
    forth words sign.negative_twice ▸ forth doubles sign.negative_twice
    ▸ back words sign.negative_twice ▸ back doubles sign.negative_twice
    ▸ forth words sign.negative_by_bits ▸ forth doubles sign.negative_by_bits
    ▸ back words sign.negative_by_bits ▸ back doubles sign.negative_by_bits
    ▸ forth words sign.abs_by_bits ▸ forth doubles sign.abs_by_bits
    ▸ back words sign.abs_by_bits ▸ back doubles sign.abs_by_bits
    ▸ forth words sign.abs_of_negative ▸ forth doubles sign.abs_of_negative
    ▸ back words sign.abs_of_negative ▸ back doubles sign.abs_of_negative
    ▸ forth words sign.abs_twice ▸ forth doubles sign.abs_twice
    ▸ back words sign.abs_twice ▸ back doubles sign.abs_twice
    ▸ tt

pub decided_right : AtRows IsRight (rows_of VECTOR_DECIDED)
unfolding exact_operator exact_row integer_row row_at table each_lane each_pair
decided_right =
    same_drawn x (and x (or x z)) refl
    ▸ same_drawn x (or x (and x z)) refl
    ▸ same_drawn x (chosen x x z) refl
    ▸ same_drawn zeros (and z zeros) refl
    ▸ same_drawn ones (or z ones) refl
    ▸ same (and x zeros) zeros refl
    ▸ same (or x ones) ones refl
    ▸ same (without x x) zeros refl
    ▸ same (and x (no x)) zeros refl
    ▸ same (or x (no x)) ones refl
    ▸ same (and (or x y) z) (or (and x z) (and y z)) refl
    ▸ same (or (and x z) (and y z)) (and (or x y) z) refl
    ▸ same (xor x y) (or (without x y) (without y x)) refl
    ▸ same (or (without x y) (without y x)) (xor x y) refl
    ▸ tt
