use Rattle.std.proofs.Common.{◌≡◌, ◌∙◌}
use Rattle.peephole_script.specs.Text.{texts}
use Rattle.peephole_commands.proofs.Working.{kept_here, keeps_block, keeps_here, module_back}
use Rattle.peephole_commands.proofs.session.Session.write.Goals as goal

pub point_graph-requires-clause-kept : goal.point_graph-requires-clause-kept
point_graph-requires-clause-kept c =
    kept_here c.self.inside.info c.self.inside.preserving c.self.inside.body c.self.inside.point
    (texts c.args.arguments.now) c.in_ok-place.place c.self.inside.graph c.take-kept.result c.in_ok-place.ensures.place c.take-kept.ensures.value
    c.self.invariant.4

pub invariant_of-self-in-Ok : goal.invariant_of-self-in-Ok
invariant_of-self-in-Ok c =
    let back : c.into_info.result ≡ c.self.inside.info =
    module_back c.config_of-config.result c.write_nodes-written.new.config c.replace-info.result c.into_info.result c.as_slice.result.now
    c.config_of-config.ensures.setup c.write_nodes-written.ensures.unchanged.1.0 c.into_info.ensures ∙ c.replace-info.ensures.value in (
      c.self.invariant.0,
      c.self.invariant.1,
      c.self.invariant.2,
      keeps_block c.self.inside.body c.self.inside.point c.point_block-self-inside.result c.point_block-self-inside.ensures,
      rw back (keeps_here c.self.inside.info c.self.inside.preserving c.self.inside.body c.self.inside.point
          (texts c.args.arguments.now) c.in_ok-place.place c.in-Ok.graph c.in_ok-place.ensures.place c.in-Ok.ensures.graph),
    )
