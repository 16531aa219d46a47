-- Operator by operator.
use Rattle.std.proofs.Common.{◌≡◌, ◌+◌, max, sym, subst, ◌∙◌, arith}
use Rattle.body_rewrites.proofs.BlockLemmas.{noted_next, AreMost, most_next, all_blocks}
use Rattle.body_rewrites.proofs.blocks.blocks_of.Goals as goal

pub next-nest-requires-clause-known : goal.next-nest-requires-clause-known
next-nest-requires-clause-known c =
    let h = c.loop-at.invariant in
    noted_next c.args.operators.now c.loop-at.at c.loop-at.innermost.items c.loop-at.nest.innermost h.noted h.nest.innermost_is c.deref.result.now
    (c.deref.ensures.value ∙ c.in_ok-push.ensures.items)

pub loop-at-preserved : goal.loop-at-preserved
loop-at-preserved c =
    let h = c.loop-at.invariant in
    let more : c.max-deepest.result ≡ max c.loop-at.deepest c.next-nest.result.depth = grind arith in record {
      noted = noted_next c.args.operators.now c.loop-at.at c.loop-at.innermost.items c.loop-at.nest.innermost h.noted h.nest.innermost_is
          c.push.new.self.items c.in_ok-push.ensures.items;
      nest = c.next-nest.ensures;
      most = subst (AreMost c.args.operators.now (c.loop-at.at + 1)) (sym more)
          (most_next c.args.operators.now c.loop-at.at c.loop-at.deepest c.next-nest.result h.most c.next-nest.ensures);
    }

pub returns : goal.returns
returns c =
    all_blocks c.args.operators.now (record { innermost = c.loop-at.innermost; deepest = c.loop-at.deepest }) c.loop-at.at (omega arith)
    c.loop-at.invariant.noted c.loop-at.invariant.most
