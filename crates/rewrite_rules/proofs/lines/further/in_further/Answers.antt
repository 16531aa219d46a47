-- The lines of the constant.
use Rattle.rewrite_rules.proofs.lines.further.in_further.Goals as goal

pub returns : goal.returns
returns c = c.line_in.ensures
