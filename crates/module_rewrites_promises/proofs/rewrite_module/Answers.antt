use Rattle.std.proofs.Common.{rules}
use Rattle.module_rewrites_promises.proofs.rewrite_module.Goals as goal

pub returns-clause-mutated : goal.returns-clause-mutated
returns-clause-mutated g c = search rules

pub returns-clause-does_as_before : goal.returns-clause-does_as_before
returns-clause-does_as_before g c = search rules

pub returns-clause-chosen : goal.returns-clause-chosen
returns-clause-chosen g c = search rules

pub returns-clause-goes_on : goal.returns-clause-goes_on
returns-clause-goes_on g c = search rules

pub returns-clause-fails : goal.returns-clause-fails
returns-clause-fails g c = search rules

pub returns-clause-gives_up : goal.returns-clause-gives_up
returns-clause-gives_up g c = search rules

pub returns-clause-seen : goal.returns-clause-seen
returns-clause-seen g c = search rules

pub returns-clause-unseen : goal.returns-clause-unseen
returns-clause-unseen g c = search rules
