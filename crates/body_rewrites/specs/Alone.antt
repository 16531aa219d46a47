-- Lines whose left side is an operand alone, and what they do to the number of operators: for private functions (this project).
use Rattle.std.specs.Prelude.{zero, ◌&&◌, ◌||◌, not, nat_lt, if◌then◌else◌, Bool, true, false, Option, Some, None, List, ◌∷◌, length}
use Rattle.wasm_execution.specs.declared.integer.IntegerType.{IntegerType}
use Rattle.wasm_execution.specs.Values.{type_of, same_type}
use Rattle.rewrite_rules.specs.declared.table.Row.{Row}
use Rattle.rewrite_rules.specs.declared.table.Step.{Step}
use Rattle.rewrite_rules.specs.declared.table.Step.TheVariants.{Operand, End}
use Rattle.rewrite_rules.specs.declared.table.Widths.{Widths}
use Rattle.rewrite_rules.specs.declared.table.Widths.TheVariants.{Operands, Own}
use Rattle.rewrite_rules.specs.Holes.{holes_for}
use Rattle.body_rewrites.specs.declared.asked.Form.{Form}
use Rattle.body_rewrites.specs.declared.asked.Form.TheVariants as form
use Rattle.body_rewrites.specs.declared.growth.Growth.{Growth}
use Rattle.body_rewrites.specs.declared.growth.Growth.TheVariants.{Grows}
use Rattle.body_rewrites.specs.declared.trees.Tree.{Tree}

-- the steps are an operand alone
abbrev pub are_alone : List Step → Bool
are_alone (Operand zero ∷ End ∷ steps) = true
are_alone steps = false

-- the right side has it more than once
abbrev pub doubles : Row → Bool
doubles row = nat_lt 1 (length (holes_for row.right))

-- what a row's lines are
abbrev pub form_by : Row → Widths → Form
form_by row (Own o) = form.Own o
form_by row (Operands a b c) = form.Other
form_by row widths = if are_alone row.left then form.Alone (doubles row) else form.Other

abbrev pub form_of : Row → Form
form_of row = form_by row row.widths

-- The tree's value has the width's type, and where the right side has it more than once, the tree neither writes nor asks the world.
abbrev pub takes : IntegerType → (doubles : Bool) → Tree → Bool
takes t doubles tree = same_type tree.gives (type_of t) && not (doubles && (tree.writes || tree.asks))

-- what becomes of the number of operators where such a tree stands, or none does
abbrev pub alone_growth : IntegerType → (doubles : Bool) → Option Tree → Option Growth
alone_growth t doubles None = None
alone_growth t doubles (Some tree) = if takes t doubles tree then Some Grows else None
