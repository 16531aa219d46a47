-- Code that is copied: the unit of an operator that a word names, and what such code leaves elsewhere (this project).
use Rattle.std.specs.Prelude.{◌+◌, ◌%◌, ℕ, List, length, Option, Some, None}
use Rattle.wasm_code.specs.Instruction.{Instruction}
use Rattle.wasm_code.specs.declared.operator.Operator.{Operator}
use Rattle.wasm_types.specs.declared.types.PrimitiveTypeInfo.{PrimitiveTypeInfo}
use Rattle.wasm_execution.specs.Row.{list_of}
use Rattle.wasm_execution.specs.Values.{Context}
use Rattle.body_changes.specs.declared.units.Unit.{Unit}
use Rattle.body_changes.specs.Kinds.{Stand}
use Rattle.body_changes.specs.Typed.{LeavesTypes}
use Rattle.body_changes.specs.Units.{IsUnit}

-- the operator that the word names, modulo their number
abbrev pub operator_named : List (Operator × ℕ) → (word : ℕ) → ℕ
operator_named operators word = word % length operators

-- That is the code of its unit.
pub record IsUnitNamed (context : Context) (operators : List (Operator × ℕ)) (word : ℕ) (code : List Instruction) : Type 0 where
  pub unit : Unit
  pub is : IsUnit context operators (operator_named operators word) unit
  pub stand : Stand operators unit.start (operator_named operators word + 1) code

-- One value or none, which the code leaves; and where that isn't given, the code leaves neither.
abbrev pub IsGiven : Context → List Instruction → Option (Option PrimitiveTypeInfo) → Type 0
IsGiven context code (Some gives) = LeavesTypes context code (list_of gives)
IsGiven context code None = (gives : Option PrimitiveTypeInfo) → ¬ (LeavesTypes context code (list_of gives))
