-- It stands in the table.
use Rattle.std.proofs.Common.{ap₂, sym, ◌∙◌}
use Rattle.std.proofs.lemmas.Bool.{false≢true}
use Rattle.wasm_code.specs.Instruction.{fits_row}
use Rattle.wasm_code.specs.Table.{row_at}
use Rattle.body_rewrites.proofs.writing.operator_of.Goals as goal

pub unreachable-requires : goal.unreachable-requires
unreachable-requires c =
    absurd (false≢true (sym c.in-None.ensures.none ∙ (ap₂ (λ n i. fits_row (row_at n) i) c.row.ensures c.immediate.ensures ∙ c.requires)))
