use Rattle.peephole_lang.proofs.InstrLaws.{instr_takes, one_node}
use Rattle.peephole_lang.proofs.laws.instruction_decides_node.Goals as goal

pub returns-clause-takes : goal.returns-clause-takes
returns-clause-takes c = instr_takes

pub returns-clause-one : goal.returns-clause-one
returns-clause-one c = one_node
