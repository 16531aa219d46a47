-- The lines of the constant.
use Rattle.rewrite_rules.proofs.lines.integers.in_equals.Goals as goal

pub returns : goal.returns
returns c = c.line_in.ensures
