use Rattle.peephole_commands.proofs.MemoryLemmas.{never_faults, never_refuses}
use Rattle.peephole_commands.proofs.laws.memory_is_never_told.Goals as goal

pub returns-clause-faults : goal.returns-clause-faults
returns-clause-faults c = never_faults c.body_at_reads.ensures.faults

pub returns-clause-refusals : goal.returns-clause-refusals
returns-clause-refusals c = never_refuses c.expansions_refuse_by_name.ensures
