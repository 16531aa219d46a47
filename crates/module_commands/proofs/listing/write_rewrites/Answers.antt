-- One line more.
use Rattle.wasm_execution.specs.declared.integer.IntegerType.TheVariants.{I32}
use Rattle.module_commands.proofs.ListingLemmas.{lines_next}
use Rattle.module_commands.proofs.listing.write_rewrites.Goals as goal

pub loop-rewrite-preserved : goal.loop-rewrite-preserved
loop-rewrite-preserved g c =
    lines_next (g.W.Write.contents c.args.output.now) (g.W.Write.contents c.loop-rewrite.output) (g.W.Write.contents c.write_rewrite.new.output)
    c.args.form c.args.function c.args.rewrites.now c.loop-rewrite.rewrite-index (record { operator = 0; row = 0; width = I32 }) c.loop-rewrite-test.true
    c.loop-rewrite.invariant c.in_ok-write_rewrite.ensures.line
