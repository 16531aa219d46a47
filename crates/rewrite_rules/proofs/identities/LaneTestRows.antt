-- The rows on tests and bounds of lanes are right.
use Rattle.std.proofs.Common.{refl}
use Rattle.wasm_code.specs.Table.{table, row_at}
use Rattle.wasm_execution.specs.ExactRow.{exact_row}
use Rattle.wasm_execution.specs.IntegerRow.{integer_row}
use Rattle.wasm_execution.specs.Lanes.{each_lane, each_pair}
use Rattle.rewrite_rules.specs.declared.table.lane_tests.TheConstants.{LANE_ORDERS, WIDE_ORDERS, LANE_OPPOSITES, WIDE_OPPOSITES}
use Rattle.rewrite_rules.specs.declared.table.lane_tests.TheConstants.{LANE_COMPLEMENTS, WIDE_COMPLEMENTS, LANE_BOUNDS, LANE_REPEATS}
use Rattle.rewrite_rules.specs.declared.table.lane_tests.TheConstants.{LANE_CHOICES}
use Rattle.rewrite_rules.specs.Exact.{exact_operator}
use Rattle.rewrite_rules.specs.Line.{IsRight}
use Rattle.rewrite_rules.specs.Table.{rows_of}
use Rattle.rewrite_rules.proofs.identities.RowLemmas.{AtRows, ◌▸◌}
use Rattle.rewrite_rules.proofs.identities.LaneIdentities.{bytes, halves, words, doubles, forth, back}
use Rattle.rewrite_rules.proofs.identities.LaneTestIdentities as test
use Rattle.rewrite_rules.proofs.identities.LaneTestIdentities.{eq, ne, lt_s, lt_u, gt_s, gt_u, le_s, le_u, ge_s, ge_u, eq_turned, ne_turned}
use Rattle.rewrite_rules.proofs.identities.LaneTestIdentities.{unsigned_order, signed_order}

pub orders_right : AtRows IsRight (rows_of LANE_ORDERS)
unfolding exact_operator exact_row integer_row row_at table each_lane each_pair
orders_right =
    forth bytes (test.turned eq eq eq_turned) ▸ forth halves (test.turned eq eq eq_turned)
    ▸ forth bytes (test.turned ne ne ne_turned) ▸ forth halves (test.turned ne ne ne_turned)
    ▸ forth bytes (test.turned lt_s gt_s (λ s n m. refl)) ▸ forth halves (test.turned lt_s gt_s (λ s n m. refl))
    ▸ forth bytes (test.turned le_s ge_s (λ s n m. refl)) ▸ forth halves (test.turned le_s ge_s (λ s n m. refl))
    ▸ forth bytes (test.turned gt_s lt_s (λ s n m. refl)) ▸ forth halves (test.turned gt_s lt_s (λ s n m. refl))
    ▸ forth bytes (test.turned ge_s le_s (λ s n m. refl)) ▸ forth halves (test.turned ge_s le_s (λ s n m. refl))
    ▸ forth bytes (test.turned lt_u gt_u (λ s n m. refl)) ▸ forth halves (test.turned lt_u gt_u (λ s n m. refl))
    ▸ forth bytes (test.turned le_u ge_u (λ s n m. refl)) ▸ forth halves (test.turned le_u ge_u (λ s n m. refl))
    ▸ forth bytes (test.turned gt_u lt_u (λ s n m. refl)) ▸ forth halves (test.turned gt_u lt_u (λ s n m. refl))
    ▸ forth bytes (test.turned ge_u le_u (λ s n m. refl)) ▸ forth halves (test.turned ge_u le_u (λ s n m. refl))
    ▸ tt

pub wide_orders_right : AtRows IsRight (rows_of WIDE_ORDERS)
unfolding exact_operator exact_row integer_row row_at table each_lane each_pair
wide_orders_right =
    forth words (test.turned eq eq eq_turned) ▸ forth doubles (test.turned eq eq eq_turned)
    ▸ forth words (test.turned ne ne ne_turned) ▸ forth doubles (test.turned ne ne ne_turned)
    ▸ forth words (test.turned lt_s gt_s (λ s n m. refl)) ▸ forth doubles (test.turned lt_s gt_s (λ s n m. refl))
    ▸ forth words (test.turned le_s ge_s (λ s n m. refl)) ▸ forth doubles (test.turned le_s ge_s (λ s n m. refl))
    ▸ forth words (test.turned gt_s lt_s (λ s n m. refl)) ▸ forth doubles (test.turned gt_s lt_s (λ s n m. refl))
    ▸ forth words (test.turned ge_s le_s (λ s n m. refl)) ▸ forth doubles (test.turned ge_s le_s (λ s n m. refl))
    ▸ forth words (test.turned lt_u gt_u (λ s n m. refl))
    ▸ forth words (test.turned le_u ge_u (λ s n m. refl))
    ▸ forth words (test.turned gt_u lt_u (λ s n m. refl))
    ▸ forth words (test.turned ge_u le_u (λ s n m. refl))
    ▸ tt

pub opposites_right : AtRows IsRight (rows_of LANE_OPPOSITES)
unfolding exact_operator exact_row integer_row row_at table each_lane each_pair
opposites_right =
    forth bytes (test.opposite eq ne test.eq_opposite) ▸ forth halves (test.opposite eq ne test.eq_opposite)
    ▸ forth bytes (test.opposite ne eq (λ s n m. refl)) ▸ forth halves (test.opposite ne eq (λ s n m. refl))
    ▸ forth bytes (test.opposite lt_s ge_s test.lt_s_opposite) ▸ forth halves (test.opposite lt_s ge_s test.lt_s_opposite)
    ▸ forth bytes (test.opposite le_s gt_s test.le_s_opposite) ▸ forth halves (test.opposite le_s gt_s test.le_s_opposite)
    ▸ forth bytes (test.opposite gt_s le_s (test.other_way lt_s ge_s test.lt_s_opposite))
    ▸ forth halves (test.opposite gt_s le_s (test.other_way lt_s ge_s test.lt_s_opposite))
    ▸ forth bytes (test.opposite ge_s lt_s (test.other_way le_s gt_s test.le_s_opposite))
    ▸ forth halves (test.opposite ge_s lt_s (test.other_way le_s gt_s test.le_s_opposite))
    ▸ forth bytes (test.opposite lt_u ge_u test.lt_u_opposite) ▸ forth halves (test.opposite lt_u ge_u test.lt_u_opposite)
    ▸ forth bytes (test.opposite le_u gt_u test.le_u_opposite) ▸ forth halves (test.opposite le_u gt_u test.le_u_opposite)
    ▸ forth bytes (test.opposite gt_u le_u (test.other_way lt_u ge_u test.lt_u_opposite))
    ▸ forth halves (test.opposite gt_u le_u (test.other_way lt_u ge_u test.lt_u_opposite))
    ▸ forth bytes (test.opposite ge_u lt_u (test.other_way le_u gt_u test.le_u_opposite))
    ▸ forth halves (test.opposite ge_u lt_u (test.other_way le_u gt_u test.le_u_opposite))
    ▸ tt

pub wide_opposites_right : AtRows IsRight (rows_of WIDE_OPPOSITES)
unfolding exact_operator exact_row integer_row row_at table each_lane each_pair
wide_opposites_right =
    forth words (test.opposite eq ne test.eq_opposite) ▸ forth doubles (test.opposite eq ne test.eq_opposite)
    ▸ forth words (test.opposite ne eq (λ s n m. refl)) ▸ forth doubles (test.opposite ne eq (λ s n m. refl))
    ▸ forth words (test.opposite lt_s ge_s test.lt_s_opposite) ▸ forth doubles (test.opposite lt_s ge_s test.lt_s_opposite)
    ▸ forth words (test.opposite le_s gt_s test.le_s_opposite) ▸ forth doubles (test.opposite le_s gt_s test.le_s_opposite)
    ▸ forth words (test.opposite gt_s le_s (test.other_way lt_s ge_s test.lt_s_opposite))
    ▸ forth doubles (test.opposite gt_s le_s (test.other_way lt_s ge_s test.lt_s_opposite))
    ▸ forth words (test.opposite ge_s lt_s (test.other_way le_s gt_s test.le_s_opposite))
    ▸ forth doubles (test.opposite ge_s lt_s (test.other_way le_s gt_s test.le_s_opposite))
    ▸ forth words (test.opposite lt_u ge_u test.lt_u_opposite)
    ▸ forth words (test.opposite le_u gt_u test.le_u_opposite)
    ▸ forth words (test.opposite gt_u le_u (test.other_way lt_u ge_u test.lt_u_opposite))
    ▸ forth words (test.opposite ge_u lt_u (test.other_way le_u gt_u test.le_u_opposite))
    ▸ tt

pub complements_right : AtRows IsRight (rows_of LANE_COMPLEMENTS)
unfolding exact_operator exact_row integer_row row_at table each_lane each_pair
complements_right =
    back bytes (test.opposite eq ne test.eq_opposite) ▸ back halves (test.opposite eq ne test.eq_opposite)
    ▸ back bytes (test.opposite ne eq (λ s n m. refl)) ▸ back halves (test.opposite ne eq (λ s n m. refl))
    ▸ back bytes (test.opposite lt_s ge_s test.lt_s_opposite) ▸ back halves (test.opposite lt_s ge_s test.lt_s_opposite)
    ▸ back bytes (test.opposite le_s gt_s test.le_s_opposite) ▸ back halves (test.opposite le_s gt_s test.le_s_opposite)
    ▸ back bytes (test.opposite gt_s le_s (test.other_way lt_s ge_s test.lt_s_opposite))
    ▸ back halves (test.opposite gt_s le_s (test.other_way lt_s ge_s test.lt_s_opposite))
    ▸ back bytes (test.opposite ge_s lt_s (test.other_way le_s gt_s test.le_s_opposite))
    ▸ back halves (test.opposite ge_s lt_s (test.other_way le_s gt_s test.le_s_opposite))
    ▸ back bytes (test.opposite lt_u ge_u test.lt_u_opposite) ▸ back halves (test.opposite lt_u ge_u test.lt_u_opposite)
    ▸ back bytes (test.opposite le_u gt_u test.le_u_opposite) ▸ back halves (test.opposite le_u gt_u test.le_u_opposite)
    ▸ back bytes (test.opposite gt_u le_u (test.other_way lt_u ge_u test.lt_u_opposite))
    ▸ back halves (test.opposite gt_u le_u (test.other_way lt_u ge_u test.lt_u_opposite))
    ▸ back bytes (test.opposite ge_u lt_u (test.other_way le_u gt_u test.le_u_opposite))
    ▸ back halves (test.opposite ge_u lt_u (test.other_way le_u gt_u test.le_u_opposite))
    ▸ tt

pub wide_complements_right : AtRows IsRight (rows_of WIDE_COMPLEMENTS)
unfolding exact_operator exact_row integer_row row_at table each_lane each_pair
wide_complements_right =
    back words (test.opposite eq ne test.eq_opposite) ▸ back doubles (test.opposite eq ne test.eq_opposite)
    ▸ back words (test.opposite ne eq (λ s n m. refl)) ▸ back doubles (test.opposite ne eq (λ s n m. refl))
    ▸ back words (test.opposite lt_s ge_s test.lt_s_opposite) ▸ back doubles (test.opposite lt_s ge_s test.lt_s_opposite)
    ▸ back words (test.opposite le_s gt_s test.le_s_opposite) ▸ back doubles (test.opposite le_s gt_s test.le_s_opposite)
    ▸ back words (test.opposite gt_s le_s (test.other_way lt_s ge_s test.lt_s_opposite))
    ▸ back doubles (test.opposite gt_s le_s (test.other_way lt_s ge_s test.lt_s_opposite))
    ▸ back words (test.opposite ge_s lt_s (test.other_way le_s gt_s test.le_s_opposite))
    ▸ back doubles (test.opposite ge_s lt_s (test.other_way le_s gt_s test.le_s_opposite))
    ▸ back words (test.opposite lt_u ge_u test.lt_u_opposite)
    ▸ back words (test.opposite le_u gt_u test.le_u_opposite)
    ▸ back words (test.opposite gt_u le_u (test.other_way lt_u ge_u test.lt_u_opposite))
    ▸ back words (test.opposite ge_u lt_u (test.other_way le_u gt_u test.le_u_opposite))
    ▸ tt

pub bounds_right : AtRows IsRight (rows_of LANE_BOUNDS)
unfolding exact_operator exact_row integer_row row_at table each_lane each_pair
bounds_right =
    forth bytes (test.smaller_turns lt_s signed_order) ▸ forth halves (test.smaller_turns lt_s signed_order)
    ▸ forth words (test.smaller_turns lt_s signed_order)
    ▸ forth bytes (test.smaller_turns lt_u unsigned_order) ▸ forth halves (test.smaller_turns lt_u unsigned_order)
    ▸ forth words (test.smaller_turns lt_u unsigned_order)
    ▸ forth bytes (test.greater_turns lt_s signed_order) ▸ forth halves (test.greater_turns lt_s signed_order)
    ▸ forth words (test.greater_turns lt_s signed_order)
    ▸ forth bytes (test.greater_turns lt_u unsigned_order) ▸ forth halves (test.greater_turns lt_u unsigned_order)
    ▸ forth words (test.greater_turns lt_u unsigned_order)
    ▸ tt

pub repeats_right : AtRows IsRight (rows_of LANE_REPEATS)
unfolding exact_operator exact_row integer_row row_at table each_lane each_pair
repeats_right =
    forth bytes (test.smaller_of_same lt_s) ▸ forth halves (test.smaller_of_same lt_s) ▸ forth words (test.smaller_of_same lt_s)
    ▸ forth bytes (test.smaller_of_same lt_u) ▸ forth halves (test.smaller_of_same lt_u) ▸ forth words (test.smaller_of_same lt_u)
    ▸ forth bytes (test.greater_of_same lt_s) ▸ forth halves (test.greater_of_same lt_s) ▸ forth words (test.greater_of_same lt_s)
    ▸ forth bytes (test.greater_of_same lt_u) ▸ forth halves (test.greater_of_same lt_u) ▸ forth words (test.greater_of_same lt_u)
    ▸ back bytes (test.smaller_of_same lt_s) ▸ back halves (test.smaller_of_same lt_s) ▸ back words (test.smaller_of_same lt_s)
    ▸ back bytes (test.smaller_of_same lt_u) ▸ back halves (test.smaller_of_same lt_u) ▸ back words (test.smaller_of_same lt_u)
    ▸ back bytes (test.greater_of_same lt_s) ▸ back halves (test.greater_of_same lt_s) ▸ back words (test.greater_of_same lt_s)
    ▸ back bytes (test.greater_of_same lt_u) ▸ back halves (test.greater_of_same lt_u) ▸ back words (test.greater_of_same lt_u)
    ▸ tt

pub choices_right : AtRows IsRight (rows_of LANE_CHOICES)
unfolding exact_operator exact_row integer_row row_at table each_lane each_pair
choices_right =
    forth bytes (test.smaller_is_chosen lt_s) ▸ forth halves (test.smaller_is_chosen lt_s) ▸ forth words (test.smaller_is_chosen lt_s)
    ▸ forth bytes (test.smaller_is_chosen lt_u) ▸ forth halves (test.smaller_is_chosen lt_u) ▸ forth words (test.smaller_is_chosen lt_u)
    ▸ forth bytes (test.greater_is_chosen lt_s signed_order) ▸ forth halves (test.greater_is_chosen lt_s signed_order)
    ▸ forth words (test.greater_is_chosen lt_s signed_order)
    ▸ forth bytes (test.greater_is_chosen lt_u unsigned_order) ▸ forth halves (test.greater_is_chosen lt_u unsigned_order)
    ▸ forth words (test.greater_is_chosen lt_u unsigned_order)
    ▸ back bytes (test.smaller_is_chosen lt_s) ▸ back halves (test.smaller_is_chosen lt_s) ▸ back words (test.smaller_is_chosen lt_s)
    ▸ back bytes (test.smaller_is_chosen lt_u) ▸ back halves (test.smaller_is_chosen lt_u) ▸ back words (test.smaller_is_chosen lt_u)
    ▸ back bytes (test.greater_is_chosen lt_s signed_order) ▸ back halves (test.greater_is_chosen lt_s signed_order)
    ▸ back words (test.greater_is_chosen lt_s signed_order)
    ▸ back bytes (test.greater_is_chosen lt_u unsigned_order) ▸ back halves (test.greater_is_chosen lt_u unsigned_order)
    ▸ back words (test.greater_is_chosen lt_u unsigned_order)
    ▸ tt
