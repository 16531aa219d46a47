use Rattle.peephole_script.specs.Text.{texts}
use Rattle.peephole_commands.proofs.Working.{kept_here, keeps_block, keeps_here}
use Rattle.peephole_commands.proofs.Shows.{some_entries}
use Rattle.peephole_commands.proofs.session.Session.show.Goals as goal

pub point_graph-requires-clause-kept : goal.point_graph-requires-clause-kept
point_graph-requires-clause-kept c =
    kept_here c.self.inside.info c.self.inside.preserving c.self.inside.body c.self.inside.point
    (texts c.args.arguments.now) c.in_ok-place.place c.self.inside.graph c.take-kept.result c.in_ok-place.ensures.place c.take-kept.ensures.value
    c.self.invariant.4

pub show_graph-requires : goal.show_graph-requires
show_graph-requires c =
    some_entries c.self.inside.info c.self.inside.preserving c.in_ok-place.place c.in-Ok.graph c.in_ok-place.ensures.is c.in-Ok.ensures.graph

pub invariant_of-self-in-Ok : goal.invariant_of-self-in-Ok
invariant_of-self-in-Ok c = (
  c.self.invariant.0,
  c.self.invariant.1,
  c.self.invariant.2,
  keeps_block c.self.inside.body c.self.inside.point c.point_block-self-inside.result c.point_block-self-inside.ensures,
  keeps_here c.self.inside.info c.self.inside.preserving c.self.inside.body c.self.inside.point
      (texts c.args.arguments.now) c.in_ok-place.place c.in-Ok.graph c.in_ok-place.ensures.place c.in-Ok.ensures.graph,
)
