use Rattle.peephole_graphs.proofs.LayoutLemmas.{laid_term}
use Rattle.peephole_graphs.proofs.laws.layout_keeps_the_term.Goals as goal

pub returns : goal.returns
returns c = laid_term
