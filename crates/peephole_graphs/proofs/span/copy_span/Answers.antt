use Rattle.std.proofs.Common.{◌+◌, ◌≤◌, length, arith}
use Rattle.peephole_lang.specs.Node.{children_of}
use Rattle.peephole_graphs.proofs.SpanLemmas.{held_inside, none_before, copy_inside, copy_count, copy_more}
use Rattle.peephole_graphs.proofs.span.copy_span.Goals as goal

pub copy_node-requires : goal.copy_node-requires
copy_node-requires c = none_before c.args.start (c.args.start + c.loop-entry.entry-index) (children_of c.entry-item.result.operator)
    (held_inside c.args.start c.args.entries.now c.loop-entry.entry-index c.entry-item.result c.requires.inside c.loop-entry-test.true c.entry-item.is)

pub add-requires : goal.add-requires
add-requires c =
    let n : c.loop-entry.entry-index ≤ length c.args.entries.now = omega arith in
    copy_inside c.args.start c.loop-entry.entry-index (length c.loop-entry.expr)
    (children_of c.entry-item.result.operator) (children_of c.in_ok-copy_node.field-0)
    (held_inside c.args.start c.args.entries.now c.loop-entry.entry-index c.entry-item.result c.requires.inside c.loop-entry-test.true c.entry-item.is)
    c.in_ok-copy_node.ensures.children (copy_count c.args.start c.loop-entry.entry-index c.args.entries.now c.loop-entry.expr n c.loop-entry.invariant)

pub loop-entry-preserved : goal.loop-entry-preserved
loop-entry-preserved c = copy_more c.args.start c.loop-entry.entry-index c.args.entries.now
    c.entry-item.result c.in_ok-copy_node.field-0 c.loop-entry.expr c.add.new.self c.loop-entry-test.true c.entry-item.is c.in_ok-add.ensures.added
    c.in_ok-copy_node.ensures.head c.in_ok-copy_node.ensures.children c.loop-entry.invariant
