use Rattle.std.proofs.Common.{ap, arith}
use Rattle.wasm_execution.proofs.OpcodeLemmas.{row_byte, byte_is, from_2, from_4, from_11, from_168, from_171}
use Rattle.wasm_execution.proofs.row.opcode_byte.Goals as goal

pub returns-in-0 : goal.returns-in-0
returns-in-0 c = byte_is c.row-row.result c.args.instr.now.row _ c.row-row.ensures.row (ap row_byte c.in-0.is)

pub returns-in-1 : goal.returns-in-1
returns-in-1 c = byte_is c.row-row.result c.args.instr.now.row _ c.row-row.ensures.row (ap row_byte c.in-1.is)

pub returns-in-445 : goal.returns-in-445
returns-in-445 c = byte_is c.row-row.result c.args.instr.now.row _ c.row-row.ensures.row (ap row_byte c.in-445.is)

pub returns-in-2-to-3 : goal.returns-in-2-to-3
returns-in-2-to-3 c =
    byte_is c.row-row.result c.args.instr.now.row _ c.row-row.ensures.row (from_2 c.row-row.result (omega arith) (omega arith))

pub returns-in-4-to-10 : goal.returns-in-4-to-10
returns-in-4-to-10 c =
    byte_is c.row-row.result c.args.instr.now.row _ c.row-row.ensures.row (from_4 c.row-row.result (omega arith) (omega arith))

pub returns-in-11-to-167 : goal.returns-in-11-to-167
returns-in-11-to-167 c =
    byte_is c.row-row.result c.args.instr.now.row _ c.row-row.ensures.row (from_11 c.row-row.result (omega arith) (omega arith))

pub returns-in-168-to-170 : goal.returns-in-168-to-170
returns-in-168-to-170 c =
    byte_is c.row-row.result c.args.instr.now.row _ c.row-row.ensures.row (from_168 c.row-row.result (omega arith) (omega arith))

pub returns-in_default : goal.returns-in_default
returns-in_default c =
    byte_is c.row-row.result c.args.instr.now.row _ c.row-row.ensures.row
    (from_171 c.row-row.result (omega arith) (λ e. absurd (omega arith)))
