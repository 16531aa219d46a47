use Rattle.std.specs.Prelude.{map}
use Rattle.std.proofs.Common.{◌≡◌, ◌∙◌, ap}
use Rattle.peephole_analysis.specs.Analysis.{Analysis}
use Rattle.peephole_lang.specs.Node.{node_of}
use Rattle.peephole_script.specs.Text.{texts}
use Rattle.peephole_commands.specs.Commands.{analysis_of}
use Rattle.peephole_commands.specs.Graphs.{site_of}
use Rattle.peephole_commands.specs.Results.{TellsPointType}
use Rattle.peephole_commands.specs.State.{SessionState}
use Rattle.peephole_commands.proofs.Working.{kept_here, keeps_block, keeps_here, result_printed}
use Rattle.peephole_commands.proofs.Typings.{point_there}
use Rattle.peephole_commands.proofs.session.Session.tell_result.Goals as goal

pub point_graph-requires-clause-kept : goal.point_graph-requires-clause-kept
point_graph-requires-clause-kept c =
    kept_here c.self.inside.info c.self.inside.preserving c.self.inside.body c.self.inside.point
    (texts c.args.arguments.now) c.in_ok-place.place c.self.inside.graph c.take-kept.result c.in_ok-place.ensures.place c.take-kept.ensures.value
    c.self.invariant.4

pub point_type-told-requires-clause-there : goal.point_type-told-requires-clause-there
point_type-told-requires-clause-there c =
    point_there c.own_trees_are_kept.ensures.entries c.self.inside.info c.self.inside.preserving c.in_ok-place.place c.in-Ok.graph
    c.in_ok-place.ensures.is c.in-Ok.ensures.graph

pub invariant_of-self-in-Ok : goal.invariant_of-self-in-Ok
invariant_of-self-in-Ok c =
    let info : c.into_parts-info.result.0 ≡ c.self.inside.info =
    c.into_parts-info.ensures.info ∙ (ap (λ (a : Analysis). a.info) c.of-analysis.ensures ∙ c.replace-info.ensures.value) in (
      c.self.invariant.0,
      c.self.invariant.1,
      c.self.invariant.2,
      keeps_block c.self.inside.body c.self.inside.point c.point_block-self-inside.result c.point_block-self-inside.ensures,
      rw info (keeps_here c.self.inside.info c.self.inside.preserving c.self.inside.body c.self.inside.point
          (texts c.args.arguments.now) c.in_ok-place.place c.in-Ok.graph c.in_ok-place.ensures.place c.in-Ok.ensures.graph),
    )

pub returns-in-Ok : goal.returns-in-Ok
returns-in-Ok c =
    let s : SessionState = record {
      info = c.self.inside.info;
      locals = c.self.inside.locals.items;
      preserving = c.self.inside.preserving;
      words = c.self.inside.words.items;
      body = c.self.inside.body;
      point = c.self.inside.point;
      nodes = map node_of c.self.inside.nodes;
    } in
    let made : c.of-analysis.result ≡ analysis_of s = rw (c.of-analysis.ensures, c.replace-info.ensures.value, c.replace-locals.ensures.value) in
    let told : TellsPointType (analysis_of s) c.in-Ok.graph c.in_ok-place.place c.point_type-told.result = rw made at c.point_type-told.ensures in
    let info : c.into_parts-info.result.0 ≡ s.info = c.into_parts-info.ensures.info ∙ ap (λ (a : Analysis). a.info) made in
    let locals : c.into_parts-info.result.1.items ≡ s.locals = c.into_parts-info.ensures.locals ∙ ap (λ (a : Analysis). a.locals) made in
    rw (info, locals, ← c.self.view_is)
    (result_printed s (texts c.args.arguments.now) (site_of c.in_ok-place.place) c.point_type-told.result c.told_line.result
    c.in_ok-place.ensures.place (told c.self.inside.preserving c.in-Ok.ensures.graph) c.told_line.ensures.line c.told_line.ensures.other)
