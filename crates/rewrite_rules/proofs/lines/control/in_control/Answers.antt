-- The lines of the constant.
use Rattle.rewrite_rules.proofs.lines.control.in_control.Goals as goal

pub returns : goal.returns
returns c = c.line_in.ensures
