use Rattle.std.proofs.Common.{◌≡◌, true, sym, ◌∙◌}
use Rattle.wasm_execution.specs.IntegerRow.{is_numeric}
use Rattle.wasm_execution.proofs.row.has_select_types.Goals as goal

pub returns-then-is_numeric : goal.returns-then-is_numeric
returns-then-is_numeric c =
    let e : is_numeric c.args.t ≡ true = sym c.is_numeric.ensures ∙ c.if-is_numeric.true in
    rw e c.same_types.ensures
