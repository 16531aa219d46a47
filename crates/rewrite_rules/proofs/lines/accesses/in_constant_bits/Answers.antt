-- The lines of the constant.
use Rattle.rewrite_rules.proofs.lines.accesses.in_constant_bits.Goals as goal

pub returns : goal.returns
returns c = c.line_in.ensures
