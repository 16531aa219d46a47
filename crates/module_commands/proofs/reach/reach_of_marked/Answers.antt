-- One operator more.
use Rattle.std.proofs.Common.{◌≡◌, ℕ, length, subst, arith}
use Rattle.body_rewrites.specs.Reached.{OperatorIsMarked}
use Rattle.module_commands.specs.Reach.{AreCounted, ToldReach}
use Rattle.module_commands.proofs.ReachLemmas.{counted_none, holds_none, told_next, told_nothing}
use Rattle.module_commands.proofs.reach.reach_of_marked.Goals as goal

pub loop-at-init : goal.loop-at-init
loop-at-init c =
    let Marked = OperatorIsMarked c.args.marks.now in
    let operators = c.args.operators.now in (
      holds_none Marked operators,
      told_nothing (AreCounted Marked operators 0) c.nothing-reach.result (counted_none Marked operators) c.nothing-reach.ensures,
    )

pub loop-at-preserved : goal.loop-at-preserved
loop-at-preserved c = (
  c.holds_marked-held.ensures,
  told_next (OperatorIsMarked c.args.marks.now) c.args.operators.now c.loop-at.at c.loop-at.reach c.reach_at.result c.plus-reach.result c.loop-at.invariant.1
      c.reach_at.ensures c.plus-reach.ensures,
)

pub returns : goal.returns
returns c =
    let end : c.loop-at.at ≡ length c.args.operators.now = omega (arith, c.loop-at-test.false, c.loop-at.auto.at-end) in
    subst (λ (n : ℕ). ToldReach (AreCounted (OperatorIsMarked c.args.marks.now) c.args.operators.now n) c.loop-at.reach) end c.loop-at.invariant.1
