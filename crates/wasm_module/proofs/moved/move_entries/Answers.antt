use Rattle.wasm_module.proofs.MovedLemmas.{moved_more, moved_all, stay}
use Rattle.wasm_module.proofs.moved.move_entries.Goals as goal

pub loop-entry-preserved : goal.loop-entry-preserved
loop-entry-preserved c =
    moved_more c.args.from c.args.to c.args.entries.now c.loop-entry.entries c.loop-entry.entry-index _ c.loop-entry-test.true c.loop-entry.invariant

pub returns-then-from-to : goal.returns-then-from-to
returns-then-from-to c = stay c.args.from c.args.to c.args.entries.now c.if-from-to.true c.requires

pub returns : goal.returns
returns c =
    moved_all c.args.from c.args.to c.args.entries.now c.loop-entry.entries c.loop-entry.entry-index c.loop-entry-test.false c.loop-entry.invariant
