-- By its first and its last class.
use Rattle.std.proofs.Common.{sym, subst}
use Rattle.body_rewrites.specs.Asking.{AreRootClasses}
use Rattle.body_rewrites.specs.declared.root.Root.{Root}
use Rattle.body_rewrites.proofs.CandidateLemmas.{classes_are}
use Rattle.body_rewrites.proofs.layout.classes_of_root.Goals as goal

pub returns-in-Classes-clause-are : goal.returns-in-Classes-clause-are
returns-in-Classes-clause-are c =
    subst (λ (r : Root). AreRootClasses r (c.in-Classes.first, c.behind_class.result)) (sym c.in-Classes.is)
    (classes_are c.in-Classes.first c.in-Classes.last c.behind_class.result c.behind_class.ensures.same c.behind_class.ensures.only)
