-- Up to the end.
use Rattle.std.proofs.Common.{length, ap, arith}
use Rattle.std.proofs.lemmas.List.{drop_all}
use Rattle.rewrite_rules.specs.Table.{parts_for}
use Rattle.body_rewrites.proofs.PartsLemmas.{ends_here, one_part_more}
use Rattle.body_rewrites.proofs.parts.count_of.Goals as goal

pub returns-in-End : goal.returns-in-End
returns-in-End c = λ width.
    let i = c.loop-i.i in
    let so_far = c.loop-i.invariant width in
    let none = ap length (ends_here width c.args.side.now i _ c.loop-i-test.true c.in-End.is) in
    omega (arith, so_far, none)

pub loop-i-preserved : goal.loop-i-preserved
loop-i-preserved c = λ width.
    let i = c.loop-i.i in
    let so_far = c.loop-i.invariant width in
    let more = one_part_more width c.args.side.now i _ c.loop-i-test.true c.in_default.not-End in
    omega (arith, so_far, more)

pub returns : goal.returns
returns c = λ width.
    let i = c.loop-i.i in
    let side = c.args.side.now in
    let so_far = c.loop-i.invariant width in
    let none = ap (λ steps. length (parts_for width steps)) (drop_all i side c.loop-i-test.false) in
    let inside = c.loop-i.auto.i-end in
    omega (arith, so_far, none, inside, c.loop-i-test.false)
