-- Where memory is wanting.
use Rattle.teddertempo_c.proofs.WritesLemmas.{once_memory}
use Rattle.teddertempo_c.proofs.rewriting.rewrite_in.Goals as goal

pub returns-in-Err : goal.returns-in-Err
returns-in-Err c = once_memory c.args.seed c.args.size c.args.buffer.now
