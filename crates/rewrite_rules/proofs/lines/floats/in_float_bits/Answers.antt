-- The lines of the constant.
use Rattle.rewrite_rules.proofs.lines.floats.in_float_bits.Goals as goal

pub returns : goal.returns
returns c = c.line_in.ensures
