-- What a row does to the number of instructions, as the code has it (this project).
use Rattle.std.specs.Prelude.{◌≡◌, ℕ, ◌+◌, List, [], ◌∷◌, Option, Some, None, slice_get}
use Rattle.wasm_execution.specs.declared.integer.IntegerType.{IntegerType}
use Rattle.rewrite_rules.specs.declared.growth.Growth as code
use Rattle.rewrite_rules.specs.declared.growth.Growth.TheVariants.{Shrinks, Keeps, Grows}
use Rattle.rewrite_rules.specs.declared.table.Own as beside
use Rattle.rewrite_rules.specs.declared.table.Own.TheVariants.{Unfold, ThroughGlobal, WithNop, Fold, Forget, TeeToSet, DropNop, SetToTee, Access, Wrap, Unwrap}
use Rattle.rewrite_rules.specs.declared.table.Own.TheVariants.{SelectToIf, IfToSelect, TestCondition, DropConditionTest, DoubleCondition}
use Rattle.rewrite_rules.specs.declared.table.Own.TheVariants.{DropDoubleCondition, PutDead, DropDead}
use Rattle.rewrite_rules.specs.declared.table.Own.TheVariants.{BoundIndex, DropIndexBound, BrIfToIf, IfToBrIf}
use Rattle.rewrite_rules.specs.declared.table.Row.{Row}
use Rattle.rewrite_rules.specs.declared.table.Step.{Step}
use Rattle.rewrite_rules.specs.declared.table.Step.TheVariants.{Operand, End}
use Rattle.rewrite_rules.specs.declared.table.Widths.TheVariants.{Own}
use Rattle.rewrite_rules.specs.declared.access.Access as listed
use Rattle.rewrite_rules.specs.Access.{access_at, access_growth}
use Rattle.rewrite_rules.specs.Growth.{Growth, shrinks, keeps, grows, line_growth_of}
use Rattle.rewrite_rules.specs.Applying.{IsFormed}
use Rattle.rewrite_rules.specs.Table.{widths_in, line_of}

abbrev pub shown : code.Growth → Growth
shown Shrinks = shrinks
shown Keeps = keeps
shown Grows = grows

-- how many steps of a side are instructions, besides its holes, up to the step before the end
abbrev pub own_steps : List Step → ℕ
own_steps [] = 0
own_steps (End ∷ steps) = 0
own_steps (Operand n ∷ steps) = own_steps steps
own_steps (s ∷ steps) = own_steps steps + 1

-- what an access does, where there is one
abbrev pub growth_told : Option listed.Access → code.Growth
growth_told (Some a) = access_growth a
growth_told None = Grows

-- what the rules beside the table do
abbrev pub own_growth : beside.Own → code.Growth
own_growth Unfold = Grows
own_growth ThroughGlobal = Grows
own_growth WithNop = Grows
own_growth Fold = Shrinks
own_growth Forget = Shrinks
own_growth TeeToSet = Grows
own_growth DropNop = Shrinks
own_growth SetToTee = Shrinks
own_growth (Access n) = growth_told (access_at n)
own_growth (Wrap w) = Grows
own_growth (Unwrap w) = Shrinks
own_growth SelectToIf = Grows
own_growth IfToSelect = Shrinks
own_growth TestCondition = Grows
own_growth DropConditionTest = Shrinks
own_growth DoubleCondition = Grows
own_growth DropDoubleCondition = Shrinks
own_growth PutDead = Grows
own_growth DropDead = Shrinks
own_growth BoundIndex = Grows
own_growth DropIndexBound = Shrinks
own_growth BrIfToIf = Grows
own_growth IfToBrIf = Shrinks

-- It is what each of the row's lines that is well formed does; of a rule beside the table, what that does.
pub record GrowsAs (row : Row) (growth : code.Growth) : Type 0 where
  pub of_lines : (k : ℕ) (t : IntegerType) → slice_get (widths_in row.widths) k ≡ Some t → IsFormed row t → shown growth ≡ line_growth_of (line_of row t)
  pub of_own : (own : beside.Own) → row.widths ≡ Own own → growth ≡ own_growth own
