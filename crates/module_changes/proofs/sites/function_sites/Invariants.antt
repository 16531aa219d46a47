-- Those of the operators so far.
use Rattle.std.proofs.Common.{[]}
use Rattle.body_changes.specs.Body.{ChangesIn}
use Rattle.body_rewrites.specs.Listing.{AreThose}
use Rattle.module_changes.specs.Sites.{sites_below, IsSite}
use Rattle.module_changes.proofs.sites.function_sites.Given as goal

abbrev pub invariant-loop-operator : goal.invariant-loop-operator
invariant-loop-operator l = AreThose (IsSite (ChangesIn l.body [])) (sites_below l.fn.changes l.operator) l.sites.items
