-- By the opcode: one byte, or a prefix and a number.
use Rattle.std.proofs.Common.{sym, ap, ◌∙◌}
use Rattle.wasm_code.specs.Table.{row_at, opcode_in}
use Rattle.module_commands.specs.Families.{row_family}
use Rattle.module_commands.proofs.FamiliesLemmas.{by_byte, by_row, no_place}
use Rattle.module_commands.proofs.families.instruction_family.Goals as goal

pub returns-in-Some : goal.returns-in-Some
returns-in-Some c =
    let instr = c.args.instr.now in
    c.byte_family.ensures
    ∙ (by_byte (opcode_in (row_at instr.row)) c.in-Some.byte (sym c.opcode_byte.ensures ∙ c.in-Some.is)
    ∙ no_place instr c.imm.result c.has_place.result c.imm.ensures c.has_place.ensures c.if-has_place.false)

pub returns-in-None : goal.returns-in-None
returns-in-None c =
    let instr = c.args.instr.now in
    c.row_family.ensures
    ∙ (ap row_family c.row.ensures.row
    ∙ (by_row instr c.row.ensures.instruction (sym c.opcode_byte.ensures ∙ c.in-None.is)
    ∙ no_place instr c.imm.result c.has_place.result c.imm.ensures c.has_place.ensures c.if-has_place.false))
