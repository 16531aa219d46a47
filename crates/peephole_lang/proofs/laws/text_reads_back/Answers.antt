use Rattle.peephole_lang.specs.laws.TextLemmas.{reads_back}
use Rattle.peephole_lang.proofs.laws.text_reads_back.Goals as goal

pub returns : goal.returns
returns c = reads_back
