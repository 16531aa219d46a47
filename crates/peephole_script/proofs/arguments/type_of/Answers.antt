use Rattle.peephole_script.proofs.Names.{type_none}
use Rattle.peephole_script.proofs.arguments.type_of.Goals as goal

pub returns-in-None : goal.returns-in-None
returns-in-None c = type_none c.args.word.now c.in-None.ensures.none
