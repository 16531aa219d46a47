use Rattle.std.proofs.Common.{◌∙◌, ap, length, arith}
use Rattle.peephole_nodes.specs.Payload.{payload_of_imm}
use Rattle.peephole_lang.proofs.InstrLemmas.{row_small, has_variant_row, payload_there, node_found, says_found, takes_found}
use Rattle.peephole_lang.proofs.lang.Lang.of_instr.Goals as goal

pub overflow_add-row : goal.overflow_add-row
overflow_add-row c =
    let small = row_small c.args.instr.now c.row.ensures.instruction in
    let same = c.row.ensures.row in
    omega (arith, small, same)

pub returns-in_err-variant-clause-complete : goal.returns-in_err-variant-clause-complete
returns-in_err-variant-clause-complete c =
    absurd (has_variant_row c.args.instr.now c.row.ensures.instruction c.row.result c.variant_row_at.result c.row.ensures.row c.variant_row_at.ensures
    c.in_err-variant.was)

pub returns-in_err-payload-clause-complete : goal.returns-in_err-payload-clause-complete
returns-in_err-payload-clause-complete c =
    absurd
    (payload_there c.args.instr.now c.row.ensures.instruction c.row.result c.variant_row_at.result c.row.ensures.row c.variant_row_at.ensures
    c.in_ok-variant.variant c.in_ok-variant.was c.of_imm.result
    (c.of_imm.ensures ∙ ap (payload_of_imm c.in_ok-variant.variant.payload) c.imm.ensures) c.in_err-payload.was)

pub returns-clause-instruction : goal.returns-clause-instruction
returns-clause-instruction c =
    says_found c.args.instr.now c.row.ensures.instruction c.in_ok-variant.variant c.in_ok-payload.payload
    (node_found c.args.instr.now c.row.ensures.instruction c.row.result c.variant_row_at.result c.row.ensures.row c.variant_row_at.ensures
    c.in_ok-variant.variant c.in_ok-variant.was c.of_imm.result
    (c.of_imm.ensures ∙ ap (payload_of_imm c.in_ok-variant.variant.payload) c.imm.ensures) c.in_ok-payload.payload c.in_ok-payload.was)
    c.make.result c.make.ensures.place c.make.ensures.payload

pub returns-clause-complete : goal.returns-clause-complete
returns-clause-complete c =
    takes_found c.args.instr.now c.row.ensures.instruction c.in_ok-variant.variant c.in_ok-payload.payload
    (node_found c.args.instr.now c.row.ensures.instruction c.row.result c.variant_row_at.result c.row.ensures.row c.variant_row_at.ensures
    c.in_ok-variant.variant c.in_ok-variant.was c.of_imm.result
    (c.of_imm.ensures ∙ ap (payload_of_imm c.in_ok-variant.variant.payload) c.imm.ensures) c.in_ok-payload.payload c.in_ok-payload.was)
    c.make.result (length c.args.children.items) c.make.ensures.place c.make.ensures.payload c.make.ensures.count c.make.ensures.complete
