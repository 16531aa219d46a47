-- What the pass over a body keeps before its next operator (this project; the loop's own).
use Rattle.std.specs.Prelude.{◌≡◌, ◌+◌, ◌-◌, ◌≤◌, ℕ, min, List, [], ◌∷◌, length, get_or, drop, Option, Some, None, slice_get, slice_range}
use Rattle.wasm_code.specs.Instruction.{Instruction}
use Rattle.wasm_code.specs.declared.operator.Operator.{Operator}
use Rattle.wasm_types.specs.declared.types.PrimitiveTypeInfo.{PrimitiveTypeInfo}
use Rattle.wasm_execution.specs.Row.{instruction_count}
use Rattle.wasm_execution.specs.Values.{Context}
use Rattle.body_changes.specs.declared.units.Takes.{Takes}
use Rattle.body_changes.specs.declared.units.Takes.TheVariants as takes
use Rattle.body_changes.specs.declared.units.Unit.{Unit}
use Rattle.body_changes.specs.Replacing.{AreTheseInstructions}
use Rattle.body_changes.specs.Typed.{told_types, LeavesTypes}
use Rattle.body_changes.specs.Units.{IsUnitAt}

-- where the value with that number begins; where there is none, behind all of them
abbrev pub value_start_of : List ℕ → (number at : ℕ) → ℕ
value_start_of starts number at = get_or starts number at

-- Instructions stand there, or nothing does, which need nothing from what stands before them and leave values of these types.
pub record IsCodeLeaving (context : Context) (operators : List (Operator × ℕ)) (start end : ℕ) (types : List PrimitiveTypeInfo) : Type 0 where
  pub own : List Instruction
  pub stands : AreTheseInstructions (slice_range operators start end) own
  pub leaves : LeavesTypes context own types

-- The code from `start` up to here leaves these types: they are those from some number on, and it begins no later than the first of their values does.
pub record AreLastValues (starts : List ℕ) (types : List PrimitiveTypeInfo) (start at : ℕ) (ts : List PrimitiveTypeInfo) : Type 0 where
  pub number : ℕ
  pub few : number ≤ length types
  pub last : drop number types ≡ ts
  pub begins : start ≤ value_start_of starts number at

-- The values before the operator at `at`: where each begins, and the types.
pub record AreValues (context : Context) (operators : List (Operator × ℕ)) (at : ℕ) (starts : List ℕ) (types : List PrimitiveTypeInfo) : Type 0 where
  pub aligned : length types ≡ length starts
  pub sorted : (j k : ℕ) → j ≤ k → value_start_of starts j at ≤ value_start_of starts k at
  -- from the start of each value on the code leaves its type and those behind it
  pub leave : (j : ℕ) → IsCodeLeaving context operators (value_start_of starts j at) at (drop j types)
  -- and all code that ends here and needs nothing from before it leaves some of these, with statements before them or not
  pub most : (s : ℕ) (ts : List PrimitiveTypeInfo) → s ≤ at → IsCodeLeaving context operators s at ts → AreLastValues starts types s at ts

-- Of each operator so far its unit is in the list, or none where it has none.
pub record AreUnitsBefore (context : Context) (operators : List (Operator × ℕ)) (at : ℕ) (list : List (Option Unit)) : Type 0 where
  pub count : length list ≡ at
  pub each : (k : ℕ) (o : Option Unit) → slice_get list k ≡ Some o → IsUnitAt context operators k o

-- the operands by their types, where there are one or two
abbrev pub takes_of : List PrimitiveTypeInfo → Takes
takes_of (t ∷ []) = takes.One t
takes_of (t ∷ u ∷ []) = takes.Two t u
takes_of ts = takes.Other

-- where a value begins that is left, if one is
abbrev pub start_where : Option PrimitiveTypeInfo → ℕ → List ℕ
start_where (Some t) start = start ∷ []
start_where None start = []

-- The instruction's operands are the values behind the first `below`, and its unit begins with the first of them.
pub record UnitIsTold (context : Context) (i : Instruction) (at : ℕ) (starts : List ℕ) (types : List PrimitiveTypeInfo) (below : ℕ) (unit : Unit) : Type 0 where
  pub below_is : below + instruction_count context.info i ≡ length starts
  pub typed : told_types context i (drop below types) ≡ Some unit.gives
  pub start_is : unit.start ≡ value_start_of starts below at
  pub last_is : unit.last ≡ value_start_of starts (length starts - min (instruction_count context.info i) 1) at
  pub takes_is : unit.takes ≡ takes_of (drop below types)

-- so, or there are too few values, or these are no operands of it
abbrev pub IsNextUnit : Context → Instruction → (at : ℕ) → List ℕ → List PrimitiveTypeInfo → Option (ℕ × Unit) → Type 0
IsNextUnit context i at starts types (Some (below, unit)) = UnitIsTold context i at starts types below unit
IsNextUnit context i at starts types None =
    (below : ℕ) → below + instruction_count context.info i ≡ length starts → told_types context i (drop below types) ≡ None
