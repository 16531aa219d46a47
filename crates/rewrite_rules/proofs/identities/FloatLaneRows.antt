-- The rows on tests of floats in lanes, and on their pseudo-minimum and -maximum, are right.
use Rattle.std.proofs.Common.{refl}
use Rattle.wasm_code.specs.Table.{table, row_at}
use Rattle.wasm_execution.specs.ExactRow.{exact_row}
use Rattle.wasm_execution.specs.IntegerRow.{integer_row}
use Rattle.wasm_execution.specs.Lanes.{each_lane, each_pair}
use Rattle.rewrite_rules.specs.declared.table.lane_tests.TheConstants.{FLOAT_LANE_ORDERS, FLOAT_LANE_OPPOSITES, FLOAT_LANE_CHOICES, FLOAT_LANE_BOUNDS}
use Rattle.rewrite_rules.specs.Exact.{exact_operator}
use Rattle.rewrite_rules.specs.Line.{IsRight}
use Rattle.rewrite_rules.specs.Table.{rows_of}
use Rattle.rewrite_rules.proofs.identities.RowLemmas.{AtRows, ◌▸◌}
use Rattle.rewrite_rules.proofs.identities.LaneIdentities.{words, doubles, forth, back}
use Rattle.rewrite_rules.proofs.identities.LaneTestIdentities as test
use Rattle.rewrite_rules.proofs.identities.FloatLaneIdentities as float
use Rattle.rewrite_rules.proofs.identities.FloatLaneIdentities.{eq, ne, lt, gt, le, ge, of_words, of_doubles}

pub orders_right : AtRows IsRight (rows_of FLOAT_LANE_ORDERS)
unfolding exact_operator exact_row integer_row row_at table each_lane each_pair
orders_right =
    forth words (test.turned eq eq float.eq_turned) ▸ forth words (test.turned ne ne float.ne_turned)
    ▸ forth words (test.turned lt gt (λ s n m. refl)) ▸ forth words (test.turned gt lt (λ s n m. refl))
    ▸ forth words (test.turned le ge (λ s n m. refl)) ▸ forth words (test.turned ge le (λ s n m. refl))
    ▸ forth doubles (test.turned eq eq float.eq_turned) ▸ forth doubles (test.turned ne ne float.ne_turned)
    ▸ forth doubles (test.turned lt gt (λ s n m. refl)) ▸ forth doubles (test.turned gt lt (λ s n m. refl))
    ▸ forth doubles (test.turned le ge (λ s n m. refl)) ▸ forth doubles (test.turned ge le (λ s n m. refl))
    ▸ tt

pub opposites_right : AtRows IsRight (rows_of FLOAT_LANE_OPPOSITES)
unfolding exact_operator exact_row integer_row row_at table each_lane each_pair
opposites_right =
    forth words (test.opposite eq ne float.eq_opposite) ▸ forth words (test.opposite ne eq (λ s n m. refl))
    ▸ forth doubles (test.opposite eq ne float.eq_opposite) ▸ forth doubles (test.opposite ne eq (λ s n m. refl))
    ▸ back words (test.opposite eq ne float.eq_opposite) ▸ back words (test.opposite ne eq (λ s n m. refl))
    ▸ back doubles (test.opposite eq ne float.eq_opposite) ▸ back doubles (test.opposite ne eq (λ s n m. refl))
    ▸ tt

pub choices_right : AtRows IsRight (rows_of FLOAT_LANE_CHOICES)
unfolding exact_operator exact_row integer_row row_at table each_lane each_pair
choices_right =
    forth words float.minimum_is_chosen ▸ forth doubles float.minimum_is_chosen
    ▸ forth words float.maximum_is_chosen ▸ forth doubles float.maximum_is_chosen
    ▸ back words float.minimum_is_chosen ▸ back doubles float.minimum_is_chosen
    ▸ back words float.maximum_is_chosen ▸ back doubles float.maximum_is_chosen
    ▸ tt

pub bounds_right : AtRows IsRight (rows_of FLOAT_LANE_BOUNDS)
unfolding exact_operator exact_row integer_row row_at table each_lane each_pair
bounds_right =
    float.minimum_of_negatives of_words ▸ float.minimum_of_negatives of_doubles
    ▸ float.maximum_of_negatives of_words ▸ float.maximum_of_negatives of_doubles
    ▸ float.drop_negatives_of_maximum of_words ▸ float.drop_negatives_of_maximum of_doubles
    ▸ float.drop_negatives_of_minimum of_words ▸ float.drop_negatives_of_minimum of_doubles
    ▸ tt
