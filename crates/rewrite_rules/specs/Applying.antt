-- Whether a row's line applies, by what is known of what stands in its holes and of its constants (this project).
use Rattle.std.specs.Prelude.{◌≡◌, ℕ, Bool, true, Option, List}
use Rattle.wasm_code.specs.Instruction.{Instruction}
use Rattle.wasm_types.specs.declared.types.PrimitiveTypeInfo.{PrimitiveTypeInfo}
use Rattle.wasm_execution.specs.declared.integer.IntegerType.{IntegerType}
use Rattle.wasm_execution.specs.Values.{Context}
use Rattle.rewrite_rules.specs.declared.order.Effects.{Effects}
use Rattle.rewrite_rules.specs.declared.table.Row.{Row}
use Rattle.rewrite_rules.specs.Code.{writes, traps, asks}
use Rattle.rewrite_rules.specs.Pattern.{holes}
use Rattle.rewrite_rules.specs.Numbers.{constant_at}
use Rattle.rewrite_rules.specs.Order.{is_in, effect_at}
use Rattle.rewrite_rules.specs.Instance.{Applies}
use Rattle.rewrite_rules.specs.Line.{is_formed, is_exact_line}
use Rattle.rewrite_rules.specs.Table.{line_of, needs_exact}
use Rattle.rewrite_rules.specs.Operands.{AreTypes}

-- The row's line for the width is well formed, as each line of the table is for each of its row's widths.
abbrev pub IsFormed : Row → IntegerType → Type 0
IsFormed row t = is_formed (line_of row t) ≡ true

-- what code may do
abbrev pub effects_of : List Instruction → Effects
effects_of code = record { writes = writes code; traps = traps code; asks = asks code }

-- The lists have of what stands in each hole of the row's left side the type that it leaves, and what it may do; and it is told whether what runs the module is
-- exact.
pub record AreFoundInHoles (context : Context) (x : ℕ → List Instruction) (row : Row) (t : IntegerType) (types : List (Option PrimitiveTypeInfo))
    (effects : List Effects) (exact : Bool) : Type 0 where
  pub types_are : AreTypes context x (is_in (holes (line_of row t).left)) types
  pub effects_are : (n : ℕ) → effect_at effects n ≡ effects_of (x n)
  pub exact_is : exact ≡ context.info.exact

-- What is answered is whether the row's line applies to what these are told of, and constants of these numbers.
pub record IsTold (row : Row) (t : IntegerType) (types : List (Option PrimitiveTypeInfo)) (effects : List Effects) (exact : Bool) (numbers : List ℕ)
    (answer : Bool) : Type 0 where
  pub same : answer ≡ true → (context : Context) (x : ℕ → List Instruction) → AreFoundInHoles context x row t types effects exact →
      Applies context (line_of row t) x (constant_at numbers)
  pub only : (context : Context) (x : ℕ → List Instruction) → AreFoundInHoles context x row t types effects exact →
      Applies context (line_of row t) x (constant_at numbers) → answer ≡ true

-- A line that is well formed has an exact row exactly where its row has the step.
abbrev pub ExactRowsAreTold : Type 0
ExactRowsAreTold = (row : Row) (t : IntegerType) → IsFormed row t → is_exact_line (line_of row t) ≡ needs_exact row
