-- The holes of a side's steps (this project).
use Rattle.std.specs.Prelude.{◌≡◌, ℕ, true, List, [], ◌∷◌}
use Rattle.wasm_execution.specs.declared.integer.IntegerType.{IntegerType}
use Rattle.rewrite_rules.specs.declared.table.Step.{Step}
use Rattle.rewrite_rules.specs.declared.table.Step.TheVariants.{Operand, End}
use Rattle.rewrite_rules.specs.declared.table.Row.{Row}
use Rattle.rewrite_rules.specs.Pattern.{holes}
use Rattle.rewrite_rules.specs.Line.{is_formed}
use Rattle.rewrite_rules.specs.Table.{line_of}

-- in the order in which they run, up to the step before the end
abbrev pub holes_for : List Step → List ℕ
holes_for [] = []
holes_for (End ∷ steps) = []
holes_for (Operand n ∷ steps) = n ∷ holes_for steps
holes_for (s ∷ steps) = holes_for steps

-- Of a row whose line for a width is well formed the patterns have the holes of its sides.
abbrev pub HolesAreTold : Type 0
HolesAreTold =
    (row : Row) (t : IntegerType) → is_formed (line_of row t) ≡ true →
    (holes (line_of row t).left ≡ holes_for row.left) × (holes (line_of row t).right ≡ holes_for row.right)
