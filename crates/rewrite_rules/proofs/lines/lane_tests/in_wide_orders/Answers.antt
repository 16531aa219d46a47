-- The lines of the constant.
use Rattle.rewrite_rules.proofs.lines.lane_tests.in_wide_orders.Goals as goal

pub returns : goal.returns
returns c = c.line_in.ensures
