use Rattle.std.proofs.Common.{sym, ap, ◌∙◌, arith}
use Rattle.std.specs.Prelude.{slice_get}
use Rattle.rewrite_rules.specs.Table.{parts, part_at}
use Rattle.rewrite_rules.proofs.FindingLemmas.{elsewhere}
use Rattle.rewrite_rules.proofs.lines.line_of.Goals as goal

pub returns-in-0 : goal.returns-in-0
unfolding parts
returns-in-0 c = c.in_orders.ensures ∙ ap (λ part. slice_get (part_at part) c.args.number) (sym c.in-0.is)

pub returns-in-1 : goal.returns-in-1
unfolding parts
returns-in-1 c = c.in_groups.ensures ∙ ap (λ part. slice_get (part_at part) c.args.number) (sym c.in-1.is)

pub returns-in-2 : goal.returns-in-2
unfolding parts
returns-in-2 c = c.in_longer.ensures ∙ ap (λ part. slice_get (part_at part) c.args.number) (sym c.in-2.is)

pub returns-in-3 : goal.returns-in-3
unfolding parts
returns-in-3 c = c.in_forms.ensures ∙ ap (λ part. slice_get (part_at part) c.args.number) (sym c.in-3.is)

pub returns-in-4 : goal.returns-in-4
unfolding parts
returns-in-4 c = c.in_neutral.ensures ∙ ap (λ part. slice_get (part_at part) c.args.number) (sym c.in-4.is)

pub returns-in-5 : goal.returns-in-5
unfolding parts
returns-in-5 c = c.in_powers.ensures ∙ ap (λ part. slice_get (part_at part) c.args.number) (sym c.in-5.is)

pub returns-in-6 : goal.returns-in-6
unfolding parts
returns-in-6 c = c.in_twice.ensures ∙ ap (λ part. slice_get (part_at part) c.args.number) (sym c.in-6.is)

pub returns-in-7 : goal.returns-in-7
unfolding parts
returns-in-7 c = c.in_alone.ensures ∙ ap (λ part. slice_get (part_at part) c.args.number) (sym c.in-7.is)

pub returns-in-8 : goal.returns-in-8
unfolding parts
returns-in-8 c = c.in_tests.ensures ∙ ap (λ part. slice_get (part_at part) c.args.number) (sym c.in-8.is)

pub returns-in-9 : goal.returns-in-9
unfolding parts
returns-in-9 c = c.in_opposites.ensures ∙ ap (λ part. slice_get (part_at part) c.args.number) (sym c.in-9.is)

pub returns-in-10 : goal.returns-in-10
unfolding parts
returns-in-10 c = c.in_parts.ensures ∙ ap (λ part. slice_get (part_at part) c.args.number) (sym c.in-10.is)

pub returns-in-11 : goal.returns-in-11
unfolding parts
returns-in-11 c = c.in_shorter.ensures ∙ ap (λ part. slice_get (part_at part) c.args.number) (sym c.in-11.is)

pub returns-in-12 : goal.returns-in-12
unfolding parts
returns-in-12 c = c.in_back.ensures ∙ ap (λ part. slice_get (part_at part) c.args.number) (sym c.in-12.is)

pub returns-in-13 : goal.returns-in-13
unfolding parts
returns-in-13 c = c.in_front.ensures ∙ ap (λ part. slice_get (part_at part) c.args.number) (sym c.in-13.is)

pub returns-in-14 : goal.returns-in-14
unfolding parts
returns-in-14 c = c.in_again.ensures ∙ ap (λ part. slice_get (part_at part) c.args.number) (sym c.in-14.is)

pub returns-in-15 : goal.returns-in-15
unfolding parts
returns-in-15 c = c.in_signs.ensures ∙ ap (λ part. slice_get (part_at part) c.args.number) (sym c.in-15.is)

pub returns-in-16 : goal.returns-in-16
unfolding parts
returns-in-16 c = c.in_equals.ensures ∙ ap (λ part. slice_get (part_at part) c.args.number) (sym c.in-16.is)

pub returns-in-17 : goal.returns-in-17
unfolding parts
returns-in-17 c = c.in_counted.ensures ∙ ap (λ part. slice_get (part_at part) c.args.number) (sym c.in-17.is)

pub returns-in-18 : goal.returns-in-18
unfolding parts
returns-in-18 c = c.in_turned.ensures ∙ ap (λ part. slice_get (part_at part) c.args.number) (sym c.in-18.is)

pub returns-in-19 : goal.returns-in-19
unfolding parts
returns-in-19 c = c.in_absorbed.ensures ∙ ap (λ part. slice_get (part_at part) c.args.number) (sym c.in-19.is)

pub returns-in-20 : goal.returns-in-20
unfolding parts
returns-in-20 c = c.in_settled.ensures ∙ ap (λ part. slice_get (part_at part) c.args.number) (sym c.in-20.is)

pub returns-in-21 : goal.returns-in-21
unfolding parts
returns-in-21 c = c.in_floats.ensures ∙ ap (λ part. slice_get (part_at part) c.args.number) (sym c.in-21.is)

pub returns-in-22 : goal.returns-in-22
unfolding parts
returns-in-22 c = c.in_float_bits.ensures ∙ ap (λ part. slice_get (part_at part) c.args.number) (sym c.in-22.is)

pub returns-in-23 : goal.returns-in-23
unfolding parts
returns-in-23 c = c.in_float_signs.ensures ∙ ap (λ part. slice_get (part_at part) c.args.number) (sym c.in-23.is)

pub returns-in-24 : goal.returns-in-24
unfolding parts
returns-in-24 c = c.in_float_copies.ensures ∙ ap (λ part. slice_get (part_at part) c.args.number) (sym c.in-24.is)

pub returns-in-25 : goal.returns-in-25
unfolding parts
returns-in-25 c = c.in_float_tests.ensures ∙ ap (λ part. slice_get (part_at part) c.args.number) (sym c.in-25.is)

pub returns-in-26 : goal.returns-in-26
unfolding parts
returns-in-26 c = c.in_float_selves.ensures ∙ ap (λ part. slice_get (part_at part) c.args.number) (sym c.in-26.is)

pub returns-in-27 : goal.returns-in-27
unfolding parts
returns-in-27 c = c.in_float_turns.ensures ∙ ap (λ part. slice_get (part_at part) c.args.number) (sym c.in-27.is)

pub returns-in-28 : goal.returns-in-28
unfolding parts
returns-in-28 c = c.in_float_orders.ensures ∙ ap (λ part. slice_get (part_at part) c.args.number) (sym c.in-28.is)

pub returns-in-29 : goal.returns-in-29
unfolding parts
returns-in-29 c = c.in_vector_bits.ensures ∙ ap (λ part. slice_get (part_at part) c.args.number) (sym c.in-29.is)

pub returns-in-30 : goal.returns-in-30
unfolding parts
returns-in-30 c = c.in_vector_forms.ensures ∙ ap (λ part. slice_get (part_at part) c.args.number) (sym c.in-30.is)

pub returns-in-31 : goal.returns-in-31
unfolding parts
returns-in-31 c = c.in_lane_sums.ensures ∙ ap (λ part. slice_get (part_at part) c.args.number) (sym c.in-31.is)

pub returns-in-32 : goal.returns-in-32
unfolding parts
returns-in-32 c = c.in_lane_negatives.ensures ∙ ap (λ part. slice_get (part_at part) c.args.number) (sym c.in-32.is)

pub returns-in-33 : goal.returns-in-33
unfolding parts
returns-in-33 c = c.in_lane_zeros.ensures ∙ ap (λ part. slice_get (part_at part) c.args.number) (sym c.in-33.is)

pub returns-in-34 : goal.returns-in-34
unfolding parts
returns-in-34 c = c.in_lane_magnitudes.ensures ∙ ap (λ part. slice_get (part_at part) c.args.number) (sym c.in-34.is)

pub returns-in-35 : goal.returns-in-35
unfolding parts
returns-in-35 c = c.in_lane_orders.ensures ∙ ap (λ part. slice_get (part_at part) c.args.number) (sym c.in-35.is)

pub returns-in-36 : goal.returns-in-36
unfolding parts
returns-in-36 c = c.in_wide_orders.ensures ∙ ap (λ part. slice_get (part_at part) c.args.number) (sym c.in-36.is)

pub returns-in-37 : goal.returns-in-37
unfolding parts
returns-in-37 c = c.in_lane_opposites.ensures ∙ ap (λ part. slice_get (part_at part) c.args.number) (sym c.in-37.is)

pub returns-in-38 : goal.returns-in-38
unfolding parts
returns-in-38 c = c.in_wide_opposites.ensures ∙ ap (λ part. slice_get (part_at part) c.args.number) (sym c.in-38.is)

pub returns-in-39 : goal.returns-in-39
unfolding parts
returns-in-39 c = c.in_lane_complements.ensures ∙ ap (λ part. slice_get (part_at part) c.args.number) (sym c.in-39.is)

pub returns-in-40 : goal.returns-in-40
unfolding parts
returns-in-40 c = c.in_wide_complements.ensures ∙ ap (λ part. slice_get (part_at part) c.args.number) (sym c.in-40.is)

pub returns-in-41 : goal.returns-in-41
unfolding parts
returns-in-41 c = c.in_lane_bounds.ensures ∙ ap (λ part. slice_get (part_at part) c.args.number) (sym c.in-41.is)

pub returns-in-42 : goal.returns-in-42
unfolding parts
returns-in-42 c = c.in_lane_repeats.ensures ∙ ap (λ part. slice_get (part_at part) c.args.number) (sym c.in-42.is)

pub returns-in-43 : goal.returns-in-43
unfolding parts
returns-in-43 c = c.in_lane_choices.ensures ∙ ap (λ part. slice_get (part_at part) c.args.number) (sym c.in-43.is)

pub returns-in-44 : goal.returns-in-44
unfolding parts
returns-in-44 c = c.in_lane_shifts.ensures ∙ ap (λ part. slice_get (part_at part) c.args.number) (sym c.in-44.is)

pub returns-in-45 : goal.returns-in-45
unfolding parts
returns-in-45 c = c.in_lane_turns.ensures ∙ ap (λ part. slice_get (part_at part) c.args.number) (sym c.in-45.is)

pub returns-in-46 : goal.returns-in-46
unfolding parts
returns-in-46 c = c.in_lane_floats.ensures ∙ ap (λ part. slice_get (part_at part) c.args.number) (sym c.in-46.is)

pub returns-in-47 : goal.returns-in-47
unfolding parts
returns-in-47 c = c.in_lane_splats.ensures ∙ ap (λ part. slice_get (part_at part) c.args.number) (sym c.in-47.is)

pub returns-in-48 : goal.returns-in-48
unfolding parts
returns-in-48 c = c.in_lane_bits.ensures ∙ ap (λ part. slice_get (part_at part) c.args.number) (sym c.in-48.is)

pub returns-in-49 : goal.returns-in-49
unfolding parts
returns-in-49 c = c.in_splat_bits.ensures ∙ ap (λ part. slice_get (part_at part) c.args.number) (sym c.in-49.is)

pub returns-in-50 : goal.returns-in-50
unfolding parts
returns-in-50 c = c.in_signed_lanes.ensures ∙ ap (λ part. slice_get (part_at part) c.args.number) (sym c.in-50.is)

pub returns-in-51 : goal.returns-in-51
unfolding parts
returns-in-51 c = c.in_extended_lanes.ensures ∙ ap (λ part. slice_get (part_at part) c.args.number) (sym c.in-51.is)

pub returns-in-52 : goal.returns-in-52
unfolding parts
returns-in-52 c = c.in_vector_decided.ensures ∙ ap (λ part. slice_get (part_at part) c.args.number) (sym c.in-52.is)

pub returns-in-53 : goal.returns-in-53
unfolding parts
returns-in-53 c = c.in_access_bits.ensures ∙ ap (λ part. slice_get (part_at part) c.args.number) (sym c.in-53.is)

pub returns-in-54 : goal.returns-in-54
unfolding parts
returns-in-54 c = c.in_access_widths.ensures ∙ ap (λ part. slice_get (part_at part) c.args.number) (sym c.in-54.is)

pub returns-in-55 : goal.returns-in-55
unfolding parts
returns-in-55 c = c.in_load_signs.ensures ∙ ap (λ part. slice_get (part_at part) c.args.number) (sym c.in-55.is)

pub returns-in-56 : goal.returns-in-56
unfolding parts
returns-in-56 c = c.in_store_signs.ensures ∙ ap (λ part. slice_get (part_at part) c.args.number) (sym c.in-56.is)

pub returns-in-57 : goal.returns-in-57
unfolding parts
returns-in-57 c = c.in_alignments.ensures ∙ ap (λ part. slice_get (part_at part) c.args.number) (sym c.in-57.is)

pub returns-in-58 : goal.returns-in-58
unfolding parts
returns-in-58 c = c.in_constants.ensures ∙ ap (λ part. slice_get (part_at part) c.args.number) (sym c.in-58.is)

pub returns-in-59 : goal.returns-in-59
unfolding parts
returns-in-59 c = c.in_extensions.ensures ∙ ap (λ part. slice_get (part_at part) c.args.number) (sym c.in-59.is)

pub returns-in-60 : goal.returns-in-60
unfolding parts
returns-in-60 c = c.in_extension_masks.ensures ∙ ap (λ part. slice_get (part_at part) c.args.number) (sym c.in-60.is)

pub returns-in-61 : goal.returns-in-61
unfolding parts
returns-in-61 c = c.in_extension_moves.ensures ∙ ap (λ part. slice_get (part_at part) c.args.number) (sym c.in-61.is)

pub returns-in-62 : goal.returns-in-62
unfolding parts
returns-in-62 c = c.in_sign_tests.ensures ∙ ap (λ part. slice_get (part_at part) c.args.number) (sym c.in-62.is)

pub returns-in-63 : goal.returns-in-63
unfolding parts
returns-in-63 c = c.in_power_tests.ensures ∙ ap (λ part. slice_get (part_at part) c.args.number) (sym c.in-63.is)

pub returns-in-64 : goal.returns-in-64
unfolding parts
returns-in-64 c = c.in_zero_counts.ensures ∙ ap (λ part. slice_get (part_at part) c.args.number) (sym c.in-64.is)

pub returns-in-65 : goal.returns-in-65
unfolding parts
returns-in-65 c = c.in_halves.ensures ∙ ap (λ part. slice_get (part_at part) c.args.number) (sym c.in-65.is)

pub returns-in-66 : goal.returns-in-66
unfolding parts
returns-in-66 c = c.in_undone.ensures ∙ ap (λ part. slice_get (part_at part) c.args.number) (sym c.in-66.is)

pub returns-in-67 : goal.returns-in-67
unfolding parts
returns-in-67 c = c.in_float_lane_orders.ensures ∙ ap (λ part. slice_get (part_at part) c.args.number) (sym c.in-67.is)

pub returns-in-68 : goal.returns-in-68
unfolding parts
returns-in-68 c = c.in_float_lane_opposites.ensures ∙ ap (λ part. slice_get (part_at part) c.args.number) (sym c.in-68.is)

pub returns-in-69 : goal.returns-in-69
unfolding parts
returns-in-69 c = c.in_float_lane_choices.ensures ∙ ap (λ part. slice_get (part_at part) c.args.number) (sym c.in-69.is)

pub returns-in-70 : goal.returns-in-70
unfolding parts
returns-in-70 c = c.in_saturated_lanes.ensures ∙ ap (λ part. slice_get (part_at part) c.args.number) (sym c.in-70.is)

pub returns-in-71 : goal.returns-in-71
unfolding parts
returns-in-71 c = c.in_lane_counts.ensures ∙ ap (λ part. slice_get (part_at part) c.args.number) (sym c.in-71.is)

pub returns-in-72 : goal.returns-in-72
unfolding parts
returns-in-72 c = c.in_narrowed_lanes.ensures ∙ ap (λ part. slice_get (part_at part) c.args.number) (sym c.in-72.is)

pub returns-in-73 : goal.returns-in-73
unfolding parts
returns-in-73 c = c.in_lane_conversions.ensures ∙ ap (λ part. slice_get (part_at part) c.args.number) (sym c.in-73.is)

pub returns-in-74 : goal.returns-in-74
unfolding parts
returns-in-74 c = c.in_conversions.ensures ∙ ap (λ part. slice_get (part_at part) c.args.number) (sym c.in-74.is)

pub returns-in-75 : goal.returns-in-75
unfolding parts
returns-in-75 c = c.in_replaced_bits.ensures ∙ ap (λ part. slice_get (part_at part) c.args.number) (sym c.in-75.is)

pub returns-in-76 : goal.returns-in-76
unfolding parts
returns-in-76 c = c.in_masked_lanes.ensures ∙ ap (λ part. slice_get (part_at part) c.args.number) (sym c.in-76.is)

pub returns-in-77 : goal.returns-in-77
unfolding parts
returns-in-77 c = c.in_unmasked_lanes.ensures ∙ ap (λ part. slice_get (part_at part) c.args.number) (sym c.in-77.is)

pub returns-in-78 : goal.returns-in-78
unfolding parts
returns-in-78 c = c.in_swizzles.ensures ∙ ap (λ part. slice_get (part_at part) c.args.number) (sym c.in-78.is)

pub returns-in-79 : goal.returns-in-79
unfolding parts
returns-in-79 c = c.in_wide_accesses.ensures ∙ ap (λ part. slice_get (part_at part) c.args.number) (sym c.in-79.is)

pub returns-in-80 : goal.returns-in-80
unfolding parts
returns-in-80 c = c.in_float_lane_bounds.ensures ∙ ap (λ part. slice_get (part_at part) c.args.number) (sym c.in-80.is)

pub returns-in-81 : goal.returns-in-81
unfolding parts
returns-in-81 c = c.in_control.ensures ∙ ap (λ part. slice_get (part_at part) c.args.number) (sym c.in-81.is)

pub returns-in-82 : goal.returns-in-82
unfolding parts
returns-in-82 c = c.in_constant_bits.ensures ∙ ap (λ part. slice_get (part_at part) c.args.number) (sym c.in-82.is)

pub returns-in-83 : goal.returns-in-83
unfolding parts
returns-in-83 c = c.in_further.ensures ∙ ap (λ part. slice_get (part_at part) c.args.number) (sym c.in-83.is)

pub returns-in_default : goal.returns-in_default
returns-in_default c = elsewhere c.args.part c.args.number (omega arith)
