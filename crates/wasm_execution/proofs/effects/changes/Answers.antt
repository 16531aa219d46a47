use Rattle.wasm_execution.proofs.EffectLemmas.{listed_is, unlisted_is}
use Rattle.wasm_execution.proofs.effects.changes.Goals as goal

pub returns-then-listed : goal.returns-then-listed
returns-then-listed c =
    listed_is c.is_in_span-listed.result c.args.instr.now c.row-row.result c.is_in_span-listed.ensures c.row-row.ensures.row c.if-listed.true

pub returns-else-listed : goal.returns-else-listed
returns-else-listed c =
    unlisted_is c.is_in_span-listed.result c.args.instr.now c.row-row.result c.is_in_span-listed.ensures c.row-row.ensures.row c.if-listed.false
