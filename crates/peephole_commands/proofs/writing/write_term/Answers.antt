use Rattle.std.proofs.Common.{◌∙◌}
use Rattle.mutate_base.specs.Config.{info_of}
use Rattle.mutate_base.specs.laws.ConfigLemmas.{is_some-info_of}
use Rattle.peephole_terms.specs.Expansion.{term_in}
use Rattle.peephole_commands.proofs.Writings.{graph_under, build_ok, build_err}
use Rattle.peephole_commands.proofs.writing.write_term.Goals as goal

pub build_function-requires-clause-graph : goal.build_function-requires-clause-graph
build_function-requires-clause-graph c =
    let config = c.args.config.now in
    graph_under (info_of config) config.preserving c.args.place.now c.args.graph.now c.operators.result.now
    (is_some-info_of config ∙ c.requires.set_up) c.operators.ensures.value c.requires.graph

pub returns-in-Ok-clause-answer : goal.returns-in-Ok-clause-answer
returns-in-Ok-clause-answer c =
    let said = c.in-Ok.ensures in
    build_ok c.order_is_decided.ensures _ c.args.config.now.setup c.args.config.now.preserving c.args.place.now c.bytes.result.now
    c.operators.result.now (term_in c.args.expr.now) c.new-body.result c.build_function.new.newfunc c.in-Ok.requests.items _
    c.requires.set_up c.bytes.ensures c.operators.ensures.value c.new-body.ensures said.written said.requests said.order

pub returns-in-Err-clause-answer : goal.returns-in-Err-clause-answer
returns-in-Err-clause-answer c =
    build_err c.order_is_decided.ensures _ c.args.config.now.setup c.args.config.now.preserving c.args.place.now c.bytes.result.now c.operators.result.now
    (term_in c.args.expr.now) c.in-Err.error c.requires.set_up c.bytes.ensures c.operators.ensures.value c.in-Err.ensures.order
    c.in-Err.ensures.refusal
