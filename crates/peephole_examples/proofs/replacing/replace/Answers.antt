-- What the writer says, with the body's operators, the block and the graph that it was given.
use Rattle.std.proofs.Common.{Err, ◌∙◌, sym, ap, length, arith}
use Rattle.std.proofs.lemmas.Result.{err_from_is_err_and}
use Rattle.mutate_base.specs.Config.{info_of}
use Rattle.peephole_graphs.specs.Dfg.{graph_of}
use Rattle.peephole_terms.specs.Expansion.{term_in}
use Rattle.peephole_terms.specs.Written.{site_at}
use Rattle.peephole_examples.proofs.ReplacingLemmas.{replaced_is, graph_is, point_is, refused_is, passed_on}
use Rattle.peephole_examples.proofs.replacing.replace.Goals as goal

pub build_function-requires-clause-body : goal.build_function-requires-clause-body
build_function-requires-clause-body g c =
    record {
      from = 0;
      to = length c.args.bytes.now;
      ordered = omega arith;
      inside = omega arith;
      spells =
          rw c.deref-3.ensures.value (record { all = c.in_ok-operators.ensures.found.all; last = c.in_ok-operators.ensures.found.last });
    }

pub returns-clause-replaced : goal.returns-clause-replaced
returns-clause-replaced g c =
    let site = site_at c.args.bytes.now c.deref-3.result.now c.in-Some.block c.args.point in
    let graph = graph_of c.in-Some-2.graph in
    replaced_is g.R.Rng.stream c.args.config.now.setup c.args.config.now.preserving site graph
    (term_in c.args.term.now) c.new-body.result c.build_function.new.newfunc c.in_ok-requests.requests.items c.new-body.ensures
    (point_is site c.in_ok-operators.operators.items c.deref.result.now c.in_ok-operators.ensures.found c.deref-3.ensures.value
    c.deref.ensures.value c.in-Some.ensures.block)
    (graph_is (info_of c.args.config.now) c.info.result.now c.args.config.now.preserving c.new-builder.result.preserving
    c.deref-3.result.now c.deref-2.result.now c.in-Some.block graph
    c.info.ensures c.new-builder.ensures (c.deref-2.ensures.value ∙ sym c.deref-3.ensures.value) (rw c.in-Some-2.is at c.in_ok-graph.ensures.graph))
    c.in_ok-requests.ensures.same_run
    c.in_ok-requests.ensures.requests

pub returns-in_err-requests-clause-refused : goal.returns-in_err-requests-clause-refused
returns-in_err-requests-clause-refused g c =
    let p = err_from_is_err_and c.from_residual-in_err-requests.result c.from_residual-in_err-requests.ensures.1 in
    let site = site_at c.args.bytes.now c.deref-3.result.now c.in-Some.block c.args.point in
    passed_on g.R.Rng.stream c.args.config.now.setup c.args.config.now.preserving c.args.bytes.now c.args.point
    (term_in c.args.term.now) c.in_err-requests.field-0.0 c.from_residual-in_err-requests.result (p.1 ∙ ap (λ x. Err x) p.2)
    (refused_is _ g.R.Rng.stream c.args.config.now.setup c.args.config.now.preserving site (term_in c.args.term.now) c.in_err-requests.field-0.0
    (point_is site c.in_ok-operators.operators.items c.deref.result.now c.in_ok-operators.ensures.found c.deref-3.ensures.value
    c.deref.ensures.value c.in-Some.ensures.block)
    c.in_err-requests.ensures.order
    c.in_err-requests.ensures.refusal)
