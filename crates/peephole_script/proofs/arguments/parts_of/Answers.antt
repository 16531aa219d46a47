use Rattle.peephole_script.proofs.Names.{arrow_found, arrow_none}
use Rattle.peephole_script.proofs.arguments.parts_of.Goals as goal

pub returns-in-Some : goal.returns-in-Some
returns-in-Some c = arrow_found c.args.words.now c.in-Some.at (cc)

pub returns-in-None : goal.returns-in-None
returns-in-None c = arrow_none c.args.words.now (cc)
