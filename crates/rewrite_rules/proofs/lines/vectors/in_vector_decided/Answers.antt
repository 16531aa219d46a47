-- The lines of the constant.
use Rattle.rewrite_rules.proofs.lines.vectors.in_vector_decided.Goals as goal

pub returns : goal.returns
returns c = c.line_in.ensures
