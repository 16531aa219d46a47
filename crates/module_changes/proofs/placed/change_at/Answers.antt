-- One change more.
use Rattle.std.proofs.Common.{arith}
use Rattle.std.proofs.lemmas.Grind.{common_steps}
use Rattle.module_changes.proofs.PlacedLemmas.{next_down}
use Rattle.module_changes.proofs.placed.change_at.Goals as goal

pub changes-preserved : goal.changes-preserved
changes-preserved c = (
  next_down c.args.at c.args.max_size c.args.bytes.now c.changes.module.made.items c.changes.module.bytes.items c.changes.left c.in-Ok.next.made
      c.push-in-Ok.new.self.items c.in-Ok.next.bytes.items c.changes.invariant.0 c.in_ok-push-in-Ok.ensures.items
      (rw (c.up_to.ensures, c.deref.ensures.value) at c.in-Ok.ensures.made),
  grind (arith, common_steps),
  c.changes.invariant.2,
)
