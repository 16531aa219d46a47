-- What has to stand at an operator where a line of the table applies (this project).
use Rattle.std.specs.Prelude.{◌≡◌, ◌&&◌, ℕ, ◌≤◌, nat_le, nat_lt, if◌then◌else◌, Bool, true, Option, Some, None, List, [], ◌∷◌, map, slice_get}
use Rattle.wasm_code.specs.declared.operator.Operator.{Operator}
use Rattle.wasm_code.specs.declared.operator.Operator.TheVariants.{Instr}
use Rattle.wasm_types.specs.declared.types.PrimitiveTypeInfo.{PrimitiveTypeInfo}
use Rattle.wasm_execution.specs.declared.integer.IntegerType.{IntegerType}
use Rattle.wasm_execution.specs.declared.integer.IntegerType.TheVariants as integer
use Rattle.wasm_execution.specs.declared.operation.Operation.TheVariants as operation
use Rattle.wasm_execution.specs.Values.{Context}
use Rattle.rewrite_rules.specs.declared.pattern.Operator.TheVariants as operator
use Rattle.rewrite_rules.specs.declared.pattern.Part.{Part}
use Rattle.rewrite_rules.specs.declared.pattern.Part.TheVariants.{Hole, Constant, Drawn, Apply}
use Rattle.rewrite_rules.specs.declared.table.Step.{Step}
use Rattle.rewrite_rules.specs.declared.table.Step.TheVariants as step
use Rattle.rewrite_rules.specs.declared.table.Widths.{Widths}
use Rattle.rewrite_rules.specs.declared.table.Widths.TheVariants.{Own}
use Rattle.rewrite_rules.specs.declared.table.Own as own_rules
use Rattle.rewrite_rules.specs.declared.table.Own.TheVariants as own
use Rattle.rewrite_rules.specs.declared.access.Access.{Access}
use Rattle.rewrite_rules.specs.declared.access.AccessKind.{AccessKind}
use Rattle.rewrite_rules.specs.declared.access.AccessKind.TheVariants.{Load, Store, Constant}
use Rattle.rewrite_rules.specs.declared.access.AccessSide.{AccessSide}
use Rattle.rewrite_rules.specs.declared.access.Conversion.{Conversion}
use Rattle.rewrite_rules.specs.declared.access.Conversion.TheVariants.{Nothing, By, With}
use Rattle.rewrite_rules.specs.Access.{access_at}
use Rattle.rewrite_rules.specs.Instance.{row_number}
use Rattle.body_rewrites.specs.declared.places.Line.{Line}
use Rattle.body_rewrites.specs.declared.root.Root.{Root}
use Rattle.body_rewrites.specs.declared.root.Root.TheVariants as root
use Rattle.body_rewrites.specs.Trees.{IsTree}
use Rattle.body_rewrites.specs.Places.{left_parts}

-- ---- classes of instructions

-- that of the instructions of a row of the instruction table, of which there are 446: its number; and one more for what is no such instruction
abbrev pub class_of : (row : ℕ) → ℕ
class_of row = if nat_lt row 446 then row else 446

-- that of the operator there
abbrev pub class_in : Option Operator → ℕ
class_in (Some (Instr i)) = class_of i.row
class_in o = 446

abbrev pub class_told : List (Operator × ℕ) → (at : ℕ) → ℕ
class_told operators at = class_in (slice_get (map (λ (o : Operator × ℕ). o.0) operators) at)

-- it is that of the operator there
abbrev pub IsClassAt : List (Operator × ℕ) → (at class : ℕ) → Type 0
IsClassAt operators at class = class ≡ class_told operators at

-- ---- roots

abbrev pub one_row : (row : ℕ) → Root
one_row row = root.Classes (class_of row) (class_of row)

-- that of a part that stands last
abbrev pub constant_root : IntegerType → Root
constant_root integer.I32 = root.Classes 36 36
constant_root integer.I64 = root.Classes 37 37

abbrev pub part_root : Part → Root
part_root (Hole n) = root.Tree
part_root (Constant t e) = constant_root t
part_root (Drawn t) = root.Any
part_root (Apply o) = one_row (row_number o)

-- that of a step that stands last, for the width
abbrev pub step_root : IntegerType → Step → Root
step_root t (step.Operand n) = root.Tree
step_root t (step.Constant e) = constant_root t
step_root t step.Drawn = root.Any
step_root t (step.Binary f) = one_row (row_number (operator.Whole (operation.Binary t f)))
step_root t (step.Compare f) = one_row (row_number (operator.Whole (operation.Compare t f)))
step_root t step.Eqz = one_row (row_number (operator.Whole (operation.Eqz t)))
step_root t step.Select = one_row (row_number operator.Select)
step_root t (step.Whole f) = one_row (row_number (operator.Whole f))
step_root t (step.Exact n i) = one_row n
step_root t step.End = root.Any

-- of parts, the last one first
abbrev pub first_root : List Part → Root
first_root [] = root.Any
first_root (p ∷ ps) = part_root p

-- that of the last instruction of a conversion; of none, that of a row
abbrev pub conversion_root : (row : ℕ) → Conversion → Root
conversion_root row Nothing = one_row row
conversion_root row (By o) = one_row (row_number o)
conversion_root row (With t n o) = one_row (row_number o)

-- that of a load, a store or a constant with a conversion
abbrev pub side_root : AccessKind → AccessSide → Root
side_root Load side = conversion_root side.row side.conversion
side_root Constant side = conversion_root side.row side.conversion
side_root Store side = one_row side.row

abbrev pub access_root : Option Access → Root
access_root None = root.Any
access_root (Some a) = side_root a.kind a.left

-- that of a rule beside the table
abbrev pub own_root : own_rules.Own → Root
own_root own.Unfold = root.Classes 36 37
own_root own.ThroughGlobal = root.Tree
own_root own.WithNop = root.Tree
own_root own.Fold = root.Classes 40 446
own_root own.Forget = root.Classes 2 2
own_root own.TeeToSet = root.Classes 6 6
own_root own.DropNop = root.Classes 0 0
own_root own.SetToTee = root.Classes 4 4
own_root (own.Access n) = access_root (access_at n)
own_root (own.Wrap w) = root.Tree
own_root (own.Unwrap w) = root.Classes 446 446
own_root own.SelectToIf = root.Classes 3 3
own_root own.IfToSelect = root.Classes 446 446
own_root own.TestCondition = root.Tree
own_root own.DropConditionTest = root.Classes 42 42
own_root own.DoubleCondition = root.Tree
own_root own.DropDoubleCondition = root.Classes 40 40
own_root own.PutDead = root.Classes 446 446
own_root own.DropDead = root.Classes 2 2
own_root own.BoundIndex = root.Tree
own_root own.DropIndexBound = root.Classes 3 3
own_root own.BrIfToIf = root.Classes 446 446
own_root own.IfToBrIf = root.Classes 446 446

abbrev pub root_by : Line → Widths → Root
root_by line (Own o) = own_root o
root_by line widths = first_root (left_parts line)

-- that of a line
abbrev pub root_of : Line → Root
root_of line = root_by line line.row.widths

-- ---- what it says

-- that stands at the operator
abbrev pub HasRoot : Context → List (Operator × ℕ) → (at : ℕ) → Root → Type 0
HasRoot context operators at (root.Classes first last) = (first ≤ class_told operators at) × (class_told operators at ≤ last)
HasRoot context operators at root.Tree = (start : ℕ) × (t : PrimitiveTypeInfo) × IsTree context operators start at t
HasRoot context operators at root.Any = Unit {0}

-- whether it may stand there, by the instruction's class and whether a tree ends with it
abbrev pub fits : (class : ℕ) → (is_tree : Bool) → Root → Bool
fits class is_tree (root.Classes first last) = nat_le first class && nat_le class last
fits class is_tree root.Tree = is_tree
fits class is_tree root.Any = true
