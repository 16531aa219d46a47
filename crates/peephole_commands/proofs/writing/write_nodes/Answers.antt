use Rattle.std.proofs.Common.{◌≡◌, ◌<◌, length, arith}
use Rattle.peephole_commands.specs.Graphs.{setting_in}
use Rattle.peephole_terms.specs.Expansion.{term_in}
use Rattle.peephole_commands.proofs.Writings.{some_nodes, no_nodes}
use Rattle.peephole_commands.proofs.writing.write_nodes.Goals as goal

pub returns-then-len-gt0-clause-answer : goal.returns-then-len-gt0-clause-answer
returns-then-len-gt0-clause-answer c =
    let some : 0 < length c.args.nodes.now = omega (arith, c.len.ensures, c.if-len-gt0.true) in
    let config = c.args.config.now in
    rw (some_nodes c.faults_are_found.ensures.none (setting_in config) config.preserving c.args.place.now c.args.graph.now c.args.nodes.now
    c.requires.graph some) c.write_term.ensures.answer

pub returns-clause-answer : goal.returns-clause-answer
returns-clause-answer c =
    let config = c.args.config.now in
    let none : length c.args.nodes.now ≡ 0 = omega (arith, c.len.ensures, c.if-len-gt0.false) in
    rw (no_nodes c.faults_are_found.ensures.none c.own_trees_are_kept.ensures.kept (setting_in config) config.preserving c.args.place.now _
    c.args.graph.now c.args.nodes.now (term_in c.in_ok-expr.expr) c.requires.place c.requires.graph none c.range.ensures.end) c.write_term-2.ensures.answer
