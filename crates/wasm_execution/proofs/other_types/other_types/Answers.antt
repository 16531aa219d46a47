use Rattle.std.proofs.Common.{◌∙◌}
use Rattle.wasm_execution.proofs.OtherLemmas.{refused_is, accepted_is, not_accepted_is, tested_is, given_is}
use Rattle.wasm_execution.proofs.other_types.other_types.Goals as goal

pub returns-in_err-row : goal.returns-in_err-row
returns-in_err-row c =
    c.from_residual.ensures ∙ refused_is c.args.info.now c.args.instr.now c.args.operands.now c.row.result c.row_info.result c.row.ensures.row
    c.row_info.ensures c.in_err-row.was

pub returns-then-accepted : goal.returns-then-accepted
returns-then-accepted c =
    accepted_is c.args.info.now c.args.instr.now c.args.operands.now c.in_ok-row.row c.row.result c.row_info.result c.accept-accepted.result
    c.results.result c.row.ensures.row c.row_info.ensures c.in_ok-row.was
    (tested_is c.args.info.now c.args.instr.now c.args.operands.now c.imm.result c.row-2.result c.operand_column.result c.accept-accepted.result c.imm.ensures
    c.row-2.ensures.row c.operand_column.ensures c.accept-accepted.ensures) c.if-accepted.true
    (given_is c.args.info.now c.args.instr.now c.imm-then-accepted.result c.in_ok-row.row c.results.result c.imm-then-accepted.ensures c.results.ensures)

pub returns-else-accepted : goal.returns-else-accepted
returns-else-accepted c =
    not_accepted_is c.args.info.now c.args.instr.now c.args.operands.now c.in_ok-row.row c.row.result c.row_info.result c.accept-accepted.result
    c.row.ensures.row c.row_info.ensures c.in_ok-row.was
    (tested_is c.args.info.now c.args.instr.now c.args.operands.now c.imm.result c.row-2.result c.operand_column.result c.accept-accepted.result c.imm.ensures
    c.row-2.ensures.row c.operand_column.ensures c.accept-accepted.ensures) c.if-accepted.false
