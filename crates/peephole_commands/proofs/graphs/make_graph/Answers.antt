use Rattle.std.proofs.Common.{inr, ap, ◌∙◌, Bool, List, ℕ}
use Rattle.mutate_base.specs.Config.{Config}
use Rattle.wasm_types.specs.Module.{Module}
use Rattle.peephole_graphs.specs.Dfg.{graph_of}
use Rattle.peephole_graphs.specs.GraphOf.{IsGraphOf, HasNoGraph, IsRefused}
use Rattle.peephole_graphs.specs.Source.{source_of}
use Rattle.peephole_commands.specs.Graphs.{site_of}
use Rattle.peephole_commands.proofs.Refusals.{none_for, refused_for, called}
use Rattle.peephole_commands.proofs.graphs.make_graph.Goals as goal

abbrev of_mode : Config Module (List ℕ) → Bool
of_mode config = config.preserving

pub returns-in-Ok-Some-clause-graph : goal.returns-in-Ok-Some-clause-graph
returns-in-Ok-Some-clause-graph c =
    called (λ mode os. IsGraphOf (source_of c.args.info.now mode os c.args.place.now.block.now) (graph_of c.in-Ok-Some.graph))
    (c.new-builder.ensures ∙ ap of_mode c.preserve_semantics.ensures) c.operators.ensures.value (rw c.in-Ok-Some.field-0-is at c.in-Ok-Some.ensures.graph)

pub returns-in-Ok-None-clause-refused : goal.returns-in-Ok-None-clause-refused
returns-in-Ok-None-clause-refused c =
    let p = c.args.place.now in
    inr (none_for c.faults_are_found.ensures.no_graph c.args.info.now c.args.preserving (site_of p)
    (called (λ mode os. HasNoGraph (source_of c.args.info.now mode os p.block.now))
    (c.new-builder.ensures ∙ ap of_mode c.preserve_semantics.ensures) c.operators.ensures.value (rw c.in-Ok-None.field-0-is at c.in-Ok-None.ensures.none)))

pub returns-clause-refused : goal.returns-clause-refused
returns-clause-refused c =
    let p = c.args.place.now in
    let laws = c.faults_are_found.ensures in
    refused_for laws.unknown laws.too_large c.args.info.now c.args.preserving (site_of p) c.in-Err.error
    (called (λ mode os. IsRefused (source_of c.args.info.now mode os p.block.now) c.in-Err.error)
    (c.new-builder.ensures ∙ ap of_mode c.preserve_semantics.ensures) c.operators.ensures.value
    c.in-Err.ensures.refused)
