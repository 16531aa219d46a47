-- Units of a body: the shortest code that ends with an operator and needs nothing from what stands before it (this project).
use Rattle.std.specs.Prelude.{◌≡◌, ◌+◌, ◌<◌, ◌≤◌, ℕ, List, [], ◌∷◌, length, Option, Some, None, slice_get}
use Rattle.wasm_code.specs.Instruction.{Instruction}
use Rattle.wasm_code.specs.declared.operator.Operator.{Operator}
use Rattle.wasm_types.specs.declared.types.PrimitiveTypeInfo.{PrimitiveTypeInfo}
use Rattle.wasm_execution.specs.Row.{instruction_count, list_of}
use Rattle.wasm_execution.specs.Values.{Context}
use Rattle.body_changes.specs.declared.units.Takes.{Takes}
use Rattle.body_changes.specs.declared.units.Takes.TheVariants as takes
use Rattle.body_changes.specs.declared.units.Unit.{Unit}
use Rattle.body_changes.specs.Replacing.{HasInstruction, IsClosed}

-- The operators in the range are the shortest code that ends there and needs nothing from what stands before it; it leaves values of these types.
pub record IsShortest (context : Context) (operators : List (Operator × ℕ)) (start end : ℕ) (types : List PrimitiveTypeInfo) : Type 0 where
  pub closed : IsClosed context operators start end types
  pub shortest : (k : ℕ) (ts : List PrimitiveTypeInfo) → IsClosed context operators k end ts → k ≤ start

-- Two operands stand there, one behind the other, each of one value.
pub record AreTwo (context : Context) (operators : List (Operator × ℕ)) (start second end : ℕ) (t u : PrimitiveTypeInfo) : Type 0 where
  pub first : IsClosed context operators start second (t ∷ [])
  pub last : IsClosed context operators second end (u ∷ [])

-- Several operands stand there, of one value each: the last one from `last` on, and all others before it.
pub record AreSeveral (context : Context) (operators : List (Operator × ℕ)) (start last end count : ℕ) : Type 0 where
  pub types : List PrimitiveTypeInfo
  pub count_is : length types + 1 ≡ count
  pub others : IsClosed context operators start last types
  pub type : PrimitiveTypeInfo
  pub one : IsClosed context operators last end (type ∷ [])

-- So many operands stand there, neither one nor two: several, or none.
pub record AreOthers (context : Context) (operators : List (Operator × ℕ)) (start last end count : ℕ) : Type 0 where
  pub not_one : ¬ (count ≡ 1)
  pub not_two : ¬ (count ≡ 2)
  pub none : count ≡ 0 → (start ≡ end) × (last ≡ end)
  pub several : 0 < count → AreSeveral context operators start last end count

-- These are the operands that an operator takes, of which there are so many: code from `start` up to the one before `end`, the last one from `last` on.
abbrev pub AreTaken : Context → List (Operator × ℕ) → (start last end count : ℕ) → Takes → Type 0
AreTaken context operators start last end count (takes.One t) = (count ≡ 1) × (last ≡ start) × IsClosed context operators start end (t ∷ [])
AreTaken context operators start last end count (takes.Two t u) = (count ≡ 2) × AreTwo context operators start last end t u
AreTaken context operators start last end count takes.Other = AreOthers context operators start last end count

-- The unit of the operator at `at`: the shortest code that ends with it, which leaves one value or none; and the operands that it takes.
pub record IsUnit (context : Context) (operators : List (Operator × ℕ)) (at : ℕ) (unit : Unit) : Type 0 where
  pub is : IsShortest context operators unit.start (at + 1) (list_of unit.gives)
  pub instruction : Instruction
  pub has : HasInstruction operators at instruction
  pub taken : AreTaken context operators unit.start unit.last at (instruction_count context.info instruction) unit.takes
  -- no code up to the operator that leaves a value begins later than its last operand does
  pub latest : (k : ℕ) (t : PrimitiveTypeInfo) (ts : List PrimitiveTypeInfo) → IsClosed context operators k at (t ∷ ts) → k ≤ unit.last

-- what is answered is the operator's unit, and none only where no such code ends with it
abbrev pub IsUnitAt : Context → List (Operator × ℕ) → (at : ℕ) → Option Unit → Type 0
IsUnitAt context operators at (Some unit) = IsUnit context operators at unit
IsUnitAt context operators at None = (start : ℕ) (types : List PrimitiveTypeInfo) → ¬ (IsClosed context operators start (at + 1) types)

-- The list has for each operator its unit, or none where it has none.
pub record AreUnits (context : Context) (operators : List (Operator × ℕ)) (list : List (Option Unit)) : Type 0 where
  pub count : length list ≡ length operators
  pub each : (at : ℕ) (o : Option Unit) → slice_get list at ≡ Some o → IsUnitAt context operators at o
