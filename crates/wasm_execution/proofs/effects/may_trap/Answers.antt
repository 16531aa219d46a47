use Rattle.wasm_execution.proofs.EffectLemmas.{changed_traps, failing_traps}
use Rattle.wasm_execution.proofs.effects.may_trap.Goals as goal

pub returns-then-changed : goal.returns-then-changed
returns-then-changed c =
    changed_traps c.changes-changed.result c.args.instr.now c.row-row.result c.row-row.ensures.row c.changes-changed.ensures c.if-changed.true

pub returns-else-changed : goal.returns-else-changed
returns-else-changed c =
    failing_traps c.changes-changed.result c.is_in_span-listed.result c.args.instr.now c.row-row.result c.row-row.ensures.row
    c.changes-changed.ensures c.is_in_span-listed.ensures c.if-changed.false
