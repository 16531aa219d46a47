-- Line by line.
use Rattle.std.proofs.Common.{◌+◌, ◌∷◌, [], length, take, get_or, sym, subst, arith}
use Rattle.std.proofs.lemmas.List.{length-take-le, length-map}
use Rattle.body_rewrites.specs.declared.asked.Asked.{Asked}
use Rattle.body_rewrites.specs.Places.{context_of}
use Rattle.body_rewrites.specs.Asking.{rewrite_of, rewrites_of, IsAskedSo}
use Rattle.body_rewrites.specs.Counting.{CountsFound}
use Rattle.body_rewrites.proofs.AskingLemmas.{asked_at, rewrites_next}
use Rattle.body_rewrites.proofs.CountingLemmas.{counts_nothing, counts_append, less_room, room_behind}
use Rattle.body_rewrites.proofs.counts.count_lines.Goals as goal

pub loop-asked-init : goal.loop-asked-init
loop-asked-init c = counts_nothing (context_of c.args.body.now) c.args.body.now.operators.now c.args.counts.now

pub count_line-requires-clause-asked : goal.count_line-requires-clause-asked
count_line-requires-clause-asked c =
    let asked = c.asked-item.result in
    subst IsAskedSo (sym c.asked-item.is) (asked_at c.args.lines.now c.requires.lines c.loop-asked.asked-index asked c.loop-asked-test.true)

pub count_line-requires-clause-room : goal.count_line-requires-clause-room
count_line-requires-clause-room c =
    let i = c.loop-asked.asked-index in
    let lines = c.args.lines.now in
    let items = rewrites_of c.args.here.at (take i lines) in
    let below = c.loop-asked-test.true in
    let size = length-map (take i lines) (rewrite_of c.args.here.at) in
    let long = length-take-le i lines (omega (arith, below)) in
    room_behind (context_of c.args.body.now) c.args.body.now.operators.now items i 1 c.args.counts.now c.loop-asked.counts (omega (arith, size, long))
    c.loop-asked.invariant (less_room (i + 1) (length lines) c.args.counts.now (omega (arith, below)) c.requires.room)

pub loop-asked-preserved : goal.loop-asked-preserved
loop-asked-preserved c =
    let context = context_of c.args.body.now in
    let operators = c.args.body.now.operators.now in
    let i = c.loop-asked.asked-index in
    let lines = c.args.lines.now in
    let at = c.args.here.at in
    let asked = c.asked-item.result in
    subst (λ items. CountsFound context operators items c.args.counts.now c.count_line.new.counts)
    (rewrites_next at lines i asked c.loop-asked-test.true)
    (counts_append context operators (rewrites_of at (take i lines)) (rewrite_of at (get_or lines i asked) ∷ []) c.args.counts.now c.loop-asked.counts
    c.count_line.new.counts c.loop-asked.invariant
    (subst (λ (a : Asked). CountsFound context operators (rewrite_of at a ∷ []) c.loop-asked.counts c.count_line.new.counts) c.asked-item.is
    c.count_line.ensures))
