-- A function that can't be read.
use Rattle.std.proofs.lemmas.Bool.{false≢true}
use Rattle.std.proofs.Common.{sym, ◌∙◌}
use Rattle.module_changes.proofs.entry.change_entry.Goals as goal

pub returns-else-is_memory-clause-tried : goal.returns-else-is_memory-clause-tried
returns-else-is_memory-clause-tried c = λ locals expression operators f.
    absurd (false≢true (sym c.if-is_memory.false ∙ c.is_memory.ensures.1 (c.in-Err.ensures.only locals expression operators f)))
