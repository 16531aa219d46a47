-- Part by part, the last one first.
use Rattle.std.proofs.Common.{◌+◌, length, ap, sym, subst, ◌∙◌, arith}
use Rattle.body_rewrites.proofs.CutLemmas.{AreCutSo, nothing_cut, one_more, no_more, all_cut}
use Rattle.body_rewrites.proofs.cutting.cuts.Goals as goal

pub loop-i-init : goal.loop-i-init
loop-i-init c = (
  subst (λ l. AreCutSo c.args.operators.now c.args.trees.now c.args.parts.now l c.args.end 0 c.args.end) (sym c.new-starts.ensures)
      (nothing_cut c.args.operators.now c.args.trees.now c.args.parts.now c.args.end),
  ap length c.new-starts.ensures,
)

pub returns-in_default-clause-none : goal.returns-in_default-clause-none
returns-in_default-clause-none c =
    no_more c.args.operators.now c.args.trees.now c.args.parts.now c.args.end c.loop-i.starts.items c.loop-i.i c.loop-i.at _
    c.at.ensures c.loop-i.invariant.0 c.in_default.ensures.none

pub loop-i-preserved : goal.loop-i-preserved
loop-i-preserved c =
    let has = rw c.in-Some.is at c.part_start.ensures.some in
    let count = c.loop-i.invariant.1 in (
      subst (λ l. AreCutSo c.args.operators.now c.args.trees.now c.args.parts.now l c.args.end (c.loop-i.i + 1) c.in-Some.start) (sym c.push.ensures.items)
          (one_more c.args.operators.now c.args.trees.now c.args.parts.now c.args.end c.loop-i.starts.items c.loop-i.i c.loop-i.at c.in-Some.start _
          c.at.ensures c.loop-i.invariant.0 has),
      c.push.ensures.len ∙ ap (λ n. n + 1) count,
    )

pub returns-clause-some : goal.returns-clause-some
returns-clause-some c =
    all_cut c.args.operators.now c.args.trees.now c.args.parts.now c.args.end c.loop-i.starts.items c.loop-i.i c.loop-i.at
    (omega (arith, c.loop-i-test.false, c.len-i-end.ensures.count)) c.loop-i.invariant.0
