-- The rows on sums, differences, means and products of lanes that saturate or are rounded are right.
use Rattle.wasm_code.specs.Table.{table, row_at}
use Rattle.wasm_execution.specs.Conversions.{add_sat_s, add_sat_u}
use Rattle.wasm_execution.specs.ExactRow.{exact_row}
use Rattle.wasm_execution.specs.IntegerRow.{integer_row}
use Rattle.wasm_execution.specs.Lanes.{each_lane, each_pair}
use Rattle.rewrite_rules.specs.declared.table.vectors.TheConstants.{SATURATED_LANES}
use Rattle.rewrite_rules.specs.Exact.{exact_operator}
use Rattle.rewrite_rules.specs.Line.{IsRight}
use Rattle.rewrite_rules.specs.Table.{rows_of}
use Rattle.rewrite_rules.proofs.identities.RowLemmas.{AtRows, ◌▸◌}
use Rattle.rewrite_rules.proofs.identities.LaneIdentities.{bytes, halves, words, forth, back}
use Rattle.rewrite_rules.proofs.identities.SaturationIdentities as saturated

pub saturated_right : AtRows IsRight (rows_of SATURATED_LANES)
unfolding exact_operator exact_row integer_row row_at table each_lane each_pair
saturated_right =
    forth bytes (saturated.turned add_sat_s saturated.signed_sum_turned) ▸ forth halves (saturated.turned add_sat_s saturated.signed_sum_turned)
    ▸ forth bytes (saturated.turned add_sat_u saturated.sum_turned) ▸ forth halves (saturated.turned add_sat_u saturated.sum_turned)
    ▸ forth bytes (saturated.turned saturated.mean saturated.mean_turned) ▸ forth halves (saturated.turned saturated.mean saturated.mean_turned)
    ▸ forth halves (saturated.turned saturated.rounded_product saturated.rounded_product_turned)
    ▸ forth words (saturated.turned saturated.product_sum saturated.product_sum_turned)
    ▸ forth bytes saturated.difference_is_bound ▸ forth halves saturated.difference_is_bound
    ▸ back bytes saturated.difference_is_bound ▸ back halves saturated.difference_is_bound
    ▸ forth bytes saturated.sum_is_bound ▸ forth halves saturated.sum_is_bound
    ▸ back bytes saturated.sum_is_bound ▸ back halves saturated.sum_is_bound
    ▸ saturated.bound_product ▸ saturated.drop_bound
    ▸ tt
