-- Of one class, by whether it is used.
use Rattle.std.proofs.Common.{sym, subst, ◌∙◌}
use Rattle.body_rewrites.specs.declared.root.Root.{Root}
use Rattle.body_rewrites.specs.Asking.{NoneStands}
use Rattle.body_rewrites.proofs.CandidateLemmas.{one_class}
use Rattle.body_rewrites.proofs.layout.may_stand.Goals as goal

pub returns-else-first-last : goal.returns-else-first-last
returns-else-first-last c = λ off.
    subst (λ (r : Root). NoneStands c.args.used.now r) (sym c.in-Classes.is)
    (one_class c.args.used.now c.in-Classes.first c.in-Classes.last c.if-first-last.false (sym c.is_used.ensures ∙ off))
