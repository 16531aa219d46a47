-- The row of a constant is that of its type.
use Rattle.std.proofs.Common.{◌≡◌, ℕ, [], Some, sym, ap, ◌∙◌, subst}
use Rattle.std.specs.Prelude.{IsTrue}
use Rattle.wasm_code.specs.Instruction.{Instruction, fits_row}
use Rattle.wasm_code.specs.Table.{row_at}
use Rattle.wasm_execution.specs.Row.{instruction_types}
use Rattle.body_changes.proofs.ConstantLemmas.{constant_fits, constant_typed}
use Rattle.body_changes.proofs.constants.constant.Goals as goal

pub instr-requires : goal.instr-requires
instr-requires c =
    subst (λ (row : ℕ). IsTrue (fits_row (row_at row) c.immediate-imm.result)) (sym c.constant_row.ensures)
    (constant_fits c.args.wanted c.immediate-imm.result c.immediate-imm.ensures.is)

pub returns-clause-typed : goal.returns-clause-typed
returns-clause-typed c = λ context drawable.
    let is = c.instr.ensures.is
    ∙ ap (λ (row : ℕ). let i : Instruction = record { row = row; imm = c.immediate-imm.result } in i) c.constant_row.ensures in
    subst (λ (i : Instruction). instruction_types context i [] ≡ Some (Some c.args.wanted)) (sym is)
    (constant_typed c.args.wanted c.immediate-imm.result c.immediate-imm.ensures.is context drawable)
