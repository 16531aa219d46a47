-- All rows were asked.
use Rattle.std.proofs.Common.{◌≡◌, ap, ◌∙◌, arith}
use Rattle.body_changes.specs.Others.{others_below}
use Rattle.body_changes.proofs.others.count_others.Goals as goal

pub returns : goal.returns
returns c =
    let all = c.loop-row-test.false in
    let end = c.loop-row.auto.row-end in
    let last : c.loop-row.row ≡ 446 = omega arith in
    c.loop-row.invariant.is ∙ ap (others_below c.args.asked.now) last
