-- How many operands an instruction takes.
use Rattle.std.proofs.Common.{sym, subst, ap, ◌∙◌}
use Rattle.wasm_execution.specs.declared.row.Row.{Row}
use Rattle.wasm_execution.specs.IntegerRow.{row_or_other}
use Rattle.wasm_execution.specs.Row.{row_of, HasOperandCount}
use Rattle.wasm_execution.specs.CountLemmas.{has_operand_count, other_counted, row_counted, its_row}
use Rattle.wasm_execution.proofs.row.operand_count.Goals as goal

pub returns-in-Other-clause-count : goal.returns-in-Other-clause-count
returns-in-Other-clause-count c =
    other_counted c.args.info.now c.args.instr.now c.other_count.result
    (sym c.integer_row-row.ensures ∙ ap (λ (r : Row). row_or_other c.args.instr.now (row_of r)) c.in-Other.is) c.other_count.ensures

pub returns-in-Other-clause-only : goal.returns-in-Other-clause-only
returns-in-Other-clause-only c =
    let is = other_counted c.args.info.now c.args.instr.now c.other_count.result
    (sym c.integer_row-row.ensures ∙ ap (λ (r : Row). row_or_other c.args.instr.now (row_of r)) c.in-Other.is) c.other_count.ensures in
    subst (HasOperandCount c.args.info.now c.args.instr.now) (sym is) (has_operand_count c.args.info.now c.args.instr.now)

pub returns-in_default-clause-count : goal.returns-in_default-clause-count
returns-in_default-clause-count c =
    let p = its_row c.integer_row-row.result c.in_default.not-Other in
    row_counted c.args.info.now c.args.instr.now c.integer_row-row.result p.0 c.row_count.result c.integer_row-row.ensures p.1
    (c.row_count.ensures c.args.info.now)

pub returns-in_default-clause-only : goal.returns-in_default-clause-only
returns-in_default-clause-only c =
    let p = its_row c.integer_row-row.result c.in_default.not-Other in
    let is = row_counted c.args.info.now c.args.instr.now c.integer_row-row.result p.0 c.row_count.result c.integer_row-row.ensures p.1
    (c.row_count.ensures c.args.info.now) in
    subst (HasOperandCount c.args.info.now c.args.instr.now) (sym is) (has_operand_count c.args.info.now c.args.instr.now)
