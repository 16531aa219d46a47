-- Operator by operator.
use Rattle.std.proofs.Common.{rules, ◌<◌, ◌^◌}
use Rattle.body_rewrites.specs.Places.{context_of}
use Rattle.body_rewrites.proofs.CountingBounds.{counts_have_room, counts_more}
use Rattle.body_rewrites.proofs.counts.count_body.Goals as goal

pub count_at-requires-clause-room : goal.count_at-requires-clause-room
count_at-requires-clause-room c =
    let below = c.loop-at-test.true in
    let short : c.loop-at.at < 2 ^ 64 = search rules in
    counts_have_room (context_of c.args.body.now) c.args.body.now.operators.now c.rows_are_few.ensures.rows c.loop-at.at c.loop-at.counts short
    c.loop-at.invariant

pub loop-at-preserved : goal.loop-at-preserved
loop-at-preserved c =
    counts_more (context_of c.args.body.now) c.args.body.now.operators.now c.one_change.ensures c.loop-at.at c.loop-at.counts c.count_at.new.counts
    c.loop-at.invariant c.count_at.ensures
