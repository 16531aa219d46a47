use Rattle.std.proofs.Common.{◌∙◌, sym, arith}
use Rattle.peephole_commands.proofs.StartsLemmas.{one_back}
use Rattle.peephole_commands.proofs.starts.start_of.Goals as goal

pub loop-index-preserved : goal.loop-index-preserved
loop-index-preserved c =
    let within = c.loop-index.invariant.0 in
    let there = c.requires.there in
    let some = c.loop-index-test.true in (
      omega (arith, within),
      one_back c.args.operators.now c.loop-index.index c.index-operators-index.result some (omega (arith, within, there, some))
          (sym c.if-is_delimiter.ensures) ∙ c.loop-index.invariant.1,
    )
