use Rattle.std.proofs.Common.{◌∙◌, ap}
use Rattle.wasm_code.specs.declared.table.Opcode.{Opcode}
use Rattle.wasm_code.specs.declared.table.Opcode.TheVariants.{Byte, Fc, Fd}
use Rattle.wasm_code.specs.Finding.{row_with}
use Rattle.wasm_code.specs.Reader.{form_of, row_form}
use Rattle.wasm_code.proofs.FormLemmas.{is_form}
use Rattle.wasm_code.proofs.parse.form_of.Goals as goal

pub returns-in-Byte-clause-in_table : goal.returns-in-Byte-clause-in_table
unfolding form_of
returns-in-Byte-clause-in_table c = is_form (Byte c.in-Byte.b) c.byte_form_of.result c.byte_form_of.ensures

pub returns-in-Fc-clause-in_table : goal.returns-in-Fc-clause-in_table
unfolding form_of
returns-in-Fc-clause-in_table c = is_form (Fc c.in-Fc.field-0) c.row_form_of.result (c.row_form_of.ensures
    ∙ ap (λ (o : Opcode). row_form (row_with o)) c.in-Fc.is)

pub returns-in-Fd-clause-in_table : goal.returns-in-Fd-clause-in_table
unfolding form_of
returns-in-Fd-clause-in_table c = is_form (Fd c.in-Fd.field-0) c.row_form_of-in-Fd.result (c.row_form_of-in-Fd.ensures
    ∙ ap (λ (o : Opcode). row_form (row_with o)) c.in-Fd.is)
