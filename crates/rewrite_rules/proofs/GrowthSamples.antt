-- What each rule does to the size, beside what is computed from the sides of its lines.
use Rattle.std.proofs.Common.{◌≡◌, ℕ, Bool, true, false, List, [], ◌∷◌, Some, None, refl}
use Rattle.std.specs.Prelude.{◌&&◌, if◌then◌else◌, codes}
use Rattle.wasm_code.specs.Table.{table, row_at}
use Rattle.wasm_execution.specs.ExactRow.{exact_row}
use Rattle.wasm_execution.specs.IntegerRow.{integer_row}
use Rattle.rewrite_rules.specs.Exact.{exact_operator}
use Rattle.rewrite_rules.specs.Line.{Line}
use Rattle.rewrite_rules.specs.Table.{Entry, entries, row_in, parts, row_lines_of}
use Rattle.rewrite_rules.specs.Growth.{Growth, shrinks, keeps, grows, line_growth_of}
use Rattle.rewrite_rules.proofs.NameLemmas.{is_among}

same : Growth → Growth → Bool
same shrinks shrinks = true
same keeps keeps = true
same grows grows = true
same a b = false

all_have : Growth → List Line → Bool
all_have g [] = true
all_have g (l ∷ ls) = same (line_growth_of l) g && all_have g ls

shrinking : List (List ℕ)
shrinking =
    codes "comparison_to_test" ∷ codes "drop_add_zero" ∷ codes "drop_sub_zero" ∷ codes "drop_mul_one" ∷ codes "drop_or_zero" ∷
    codes "drop_xor_zero" ∷ codes "drop_and_ones" ∷ codes "drop_shift_by_zero" ∷ codes "drop_shr_s_by_zero" ∷ codes "drop_shr_u_by_zero" ∷
    codes "drop_rotl_by_zero" ∷ codes "drop_rotr_by_zero" ∷ codes "cancel_sub" ∷ codes "cancel_xor" ∷ codes "drop_or_self" ∷
    codes "drop_and_self" ∷ codes "drop_select" ∷ codes "drop_and_zero" ∷ codes "drop_mul_zero" ∷ codes "drop_or_ones" ∷
    codes "drop_negation" ∷ codes "drop_wrap_extended" ∷ codes "or_of_complements" ∷ codes "and_of_complements" ∷ codes "join_sums" ∷
    codes "test_difference" ∷ codes "or_again" ∷ codes "below_one" ∷ codes "difference_back" ∷ codes "drop_double_complement" ∷
    codes "turn_select_back" ∷ codes "gather_product" ∷ codes "gather_mask" ∷ codes "shifts_to_extension" ∷ codes "drop_zero_in_front" ∷
    codes "drop_one_in_front" ∷ codes "drop_ones_in_front" ∷ codes "decide_in_front" ∷ codes "drop_complement_in_front" ∷
    codes "drop_quotient_by_one" ∷ codes "drop_remainder_by_one" ∷ codes "drop_whole_turn" ∷ codes "and_again" ∷ codes "or_once_more" ∷
    codes "turn_signs_back" ∷ codes "equality_back" ∷ codes "wrap_to_extend" ∷ codes "wrap_alone" ∷
    codes "drop_count_of_test" ∷ codes "complement_of_popcnt" ∷ codes "shifts_to_rotl" ∷ codes "shifts_to_rotr" ∷ codes "absorb" ∷
    codes "difference_of_difference" ∷ codes "drop_double_negation" ∷ codes "extend_extended" ∷ codes "drop_popcnt_of_test" ∷
    codes "drop_double_float_negation" ∷ codes "drop_neg_in_abs" ∷ codes "drop_abs_again" ∷ codes "drop_reinterpretations" ∷
    codes "bits_to_neg" ∷ codes "bits_to_abs" ∷ codes "bits_to_neg_abs" ∷ codes "neg_before_bits" ∷ codes "abs_before_bits" ∷
    codes "drop_neg_in_copysign" ∷ codes "drop_abs_in_copysign" ∷ codes "drop_copysign_of_self" ∷ codes "abs_of_copysign" ∷
    codes "drop_first_copysign" ∷ codes "drop_inner_copysign" ∷ codes "drop_copysign_of_neg" ∷ codes "drop_copysign_of_abs" ∷
    codes "drop_float_negation" ∷ codes "cancel_float_comparison" ∷ codes "drop_compared_negations" ∷ codes "orders_to_equality" ∷
    codes "parts_to_order" ∷
    codes "drop_double_vector_complement" ∷ codes "xor_to_vector_complement" ∷ codes "drop_neutral_vector" ∷ codes "and_to_and_not" ∷
    codes "both_vector_complements" ∷ codes "drop_repeated_vector" ∷ codes "cancel_vector" ∷ codes "drop_bitselect" ∷
    codes "bits_to_bitselect" ∷ codes "turn_bitselect_back" ∷ codes "absorb_vector" ∷ codes "lane_sum_to_difference" ∷
    codes "lane_difference_to_negative" ∷ codes "drop_double_lane_negative" ∷ codes "drop_lane_zero" ∷ codes "cancel_lanes" ∷
    codes "drop_negative_in_magnitude" ∷ codes "drop_repeated_magnitude" ∷ codes "drop_complement_of_lane_test" ∷ codes "drop_lane_bound" ∷
    codes "lane_choice_to_bound" ∷ codes "drop_shift_of_lanes_by_zero" ∷ codes "drop_shift_of_lanes_by_width" ∷
    codes "drop_double_float_lane_negative" ∷ codes "bits_to_float_lane_negative" ∷ codes "bits_to_float_lane_magnitude" ∷
    codes "drop_negative_in_float_magnitude" ∷ codes "drop_repeated_float_magnitude" ∷ codes "drop_splat_and_extract" ∷
    codes "extract_bits" ∷ codes "splat_of_bits" ∷ codes "drop_replaced_lane" ∷ codes "extract_signed_lane" ∷ codes "drop_decided_vector" ∷
    codes "cancel_vector_complement" ∷ codes "gather_vector_mask" ∷ codes "bits_to_vector_xor" ∷
    codes "drop_extension_again" ∷ codes "drop_mask_in_extension" ∷ codes "drop_extension_in_mask" ∷
    codes "shift_to_wide_sign_test" ∷ codes "difference_to_sign" ∷
    codes "drop_clz_of_test" ∷
    codes "shift_to_half" ∷
    codes "shift_to_power_test" ∷ codes "negated_sign_test_to_sign" ∷ codes "sign_test_to_half" ∷ codes "drop_extension_in_remainder" ∷
    codes "drop_complement_of_float_lanes" ∷ codes "choice_to_pseudo_bound" ∷ codes "bound_to_saturated_difference" ∷
    codes "bound_to_saturated_sum" ∷ codes "drop_bound_of_rounded_product" ∷ codes "drop_mask_of_lane_shift_count" ∷
    codes "drop_bound_of_narrowed_lanes" ∷ codes "truncate_one_lane" ∷ codes "convert_one_lane" ∷ codes "drop_widening_of_converted" ∷
    codes "drop_magnitude_of_converted" ∷ codes "bits_to_replace_float_lane" ∷ codes "float_to_replace_lane" ∷
    codes "drop_mask_of_replaced_lane" ∷ codes "drop_bound_of_swizzle" ∷ codes "drop_negatives_of_pseudo_bound" ∷ []

keeping : List (List ℕ)
keeping =
    codes "exchange_in_group" ∷ codes "commute" ∷ codes "turn_comparison" ∷ codes "associate_left" ∷ codes "associate_right" ∷
    codes "shift_to_product" ∷
    codes "product_to_shift" ∷ codes "difference_to_sum" ∷ codes "sum_to_difference" ∷ codes "quotient_to_shift" ∷
    codes "shift_to_quotient" ∷ codes "remainder_to_mask" ∷ codes "mask_to_remainder" ∷ codes "rotl_to_rotr" ∷ codes "rotr_to_rotl" ∷
    codes "difference_to_tests" ∷ codes "tests_to_difference" ∷ codes "negate_by_difference" ∷ codes "mask_to_wrap" ∷
    codes "wrap_to_mask" ∷ codes "remainder_to_wrap" ∷ codes "sign_to_right" ∷
    codes "neg_out_of_copysign" ∷ codes "neg_into_copysign" ∷ codes "commute_floats" ∷ codes "turn_floats" ∷ codes "self_equality_to_le" ∷
    codes "self_equality_to_ge" ∷ codes "self_order_to_equality" ∷
    codes "commute_vector_bits" ∷ codes "associate_vector_bits_left" ∷ codes "associate_vector_bits_right" ∷ codes "commute_lanes" ∷
    codes "associate_lanes_left" ∷ codes "associate_lanes_right" ∷ codes "turn_lane_test" ∷ codes "turn_lane_bound" ∷
    codes "wrap_before_extension" ∷ codes "wrap_behind_extension" ∷ codes "widen_before_extension" ∷ codes "widen_behind_extension" ∷
    codes "sign_test_to_shift" ∷ codes "shift_to_sign_test" ∷ codes "above_zero_to_unequal" ∷ codes "unequal_to_above_zero" ∷
    codes "power_test_to_previous" ∷
    codes "previous_to_power_test" ∷ codes "turn_float_lane_test" ∷ codes "commute_saturated_lanes" ∷ []

-- and all others grow
growth : List ℕ → Growth
growth name = if is_among shrinking name then shrinks else (if is_among keeping name then keeps else grows)

-- the lines are as said above, where the rule above them is of that growth
as_said : Growth → List Entry → Bool
as_said g [] = true
as_said g ((None, w, k, l, r) ∷ es) = all_have g (row_lines_of (row_in (None, w, k, l, r))) && as_said g es
as_said g ((Some name, w, k, l, r) ∷ es) =
    all_have (growth name.now) (row_lines_of (row_in (Some name, w, k, l, r))) && as_said (growth name.now) es

as_computed : as_said grows entries ≡ true
unfolding growth all_have same as_said shrinking keeping parts exact_operator exact_row integer_row row_at table
as_computed = refl
