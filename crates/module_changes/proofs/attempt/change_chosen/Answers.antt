-- A function may be changed.
use Rattle.std.proofs.Common.{ℕ, Option, subst}
use Rattle.module_changes.specs.Chosen.{SomeMayChange}
use Rattle.module_changes.proofs.TimesLemmas.{some_chosen}
use Rattle.module_changes.proofs.attempt.change_chosen.Goals as goal

pub change_read-requires-clause-there : goal.change_read-requires-clause-there
change_read-requires-clause-there g c =
    subst (λ (only : Option ℕ). SomeMayChange only c.args.reading.now.layout.now) c.function.ensures
    (some_chosen c.function.result c.args.reading.now.layout.now c.in-Ok.field-0.start c.in-Ok.field-0.end c.in-Ok.ensures.chosen c.in-Ok.ensures.named
    c.in-Ok.ensures.known)
