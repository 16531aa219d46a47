-- The lines of the constant.
use Rattle.rewrite_rules.proofs.lines.lane_moves.in_unmasked_lanes.Goals as goal

pub returns : goal.returns
returns c = c.line_in.ensures
