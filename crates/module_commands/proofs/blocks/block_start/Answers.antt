-- One operator more, which is no delimiter.
use Rattle.std.proofs.Common.{◌+◌, sym, arith}
use Rattle.module_commands.proofs.BlocksLemmas.{one_more}
use Rattle.module_commands.proofs.blocks.block_start.Goals as goal

pub loop-start-preserved : goal.loop-start-preserved
loop-start-preserved c =
    let low = c.loop-start.invariant.0 in (
      omega arith,
      one_more c.args.operators.now c.loop-start.start (c.args.last + 1) c.loop-start-test.true (sym c.if-delimits.ensures)
          c.loop-start.invariant.1,
    )
