-- Operator by operator.
use Rattle.std.proofs.Common.{◌+◌, sym, subst, arith}
use Rattle.wasm_execution.specs.Values.{context_in}
use Rattle.body_rewrites.specs.Open.{AreTreesBefore}
use Rattle.body_rewrites.proofs.PassLemmas.{none_before, one_more, all_trees}
use Rattle.body_rewrites.proofs.trees.trees_of.Goals as goal

pub loop-at-init : goal.loop-at-init
loop-at-init c =
    let context = context_in c.args.info.now c.args.locals.now in (
      c.new-open.ensures context c.args.operators.now,
      subst (AreTreesBefore context c.args.operators.now 0) (sym c.new-trees.ensures.items) (none_before context c.args.operators.now),
    )

pub next-requires-clause-open : goal.next-requires-clause-open
next-requires-clause-open c = c.loop-at.invariant.0

pub loop-at-preserved : goal.loop-at-preserved
loop-at-preserved c =
    let context = context_in c.args.info.now c.args.locals.now in (
      c.in_ok-next.ensures.open,
      subst (AreTreesBefore context c.args.operators.now (c.loop-at.at + 1)) (sym c.in_ok-push.ensures.items)
          (one_more context c.args.operators.now c.loop-at.at c.loop-at.trees.items c.in_ok-next.field-0 c.loop-at.invariant.1 c.in_ok-next.ensures.found),
    )

pub returns : goal.returns
returns c =
    all_trees (context_in c.args.info.now c.args.locals.now) c.args.operators.now c.loop-at.at c.loop-at.trees.items c.loop-at.invariant.1
    (omega (arith, c.loop-at-test.false))
