use Rattle.peephole_script.proofs.Lines.{line_end-found}
use Rattle.peephole_script.proofs.text.line_end.Goals as goal

pub returns : goal.returns
returns c = line_end-found c.args.bytes.now c.memchr.result c.memchr.ensures
