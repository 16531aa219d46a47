-- What the standard asks of an instruction beyond its types: an alignment, an offset, the index of a segment, that a global may be written (WebAssembly Core
-- Specification 3.0, Validation, Instructions; this project). Validity by types alone is `StaysValid`.
use Rattle.std.specs.Prelude.{◌≡◌, ℕ, List, Some, slice_get, IsTrue}
use Rattle.std.specs.List.{All}
use Rattle.wasm_code.specs.Instruction.{Instruction}
use Rattle.wasm_code.specs.declared.immediate.MemArg.{MemArg}
use Rattle.wasm_code.specs.declared.operator.Operator.{Operator}
use Rattle.wasm_execution.specs.Values.{Context}
use Rattle.body_changes.specs.declared.change.Change.{Change}
use Rattle.body_changes.specs.Drawing.{asks_types_alone}
use Rattle.body_changes.specs.Kinds.{access_with_argument, is_call_row, memory_argument, AsksNoGreater, IsChange, Material}
use Rattle.body_changes.specs.Replacing.{HasInstruction}

-- it is one of the operators
abbrev pub StandsSomewhere : List (Operator × ℕ) → Instruction → Type 0
StandsSomewhere operators i = (at : ℕ) × HasInstruction operators at i

-- It is one of the operators with another memory argument. The standard asks that the alignment is at most the width of the access, which holds where it held
-- of the operator, and that the offset fits the memory's addresses, as one of 32 bits does.
pub record IsEased (operators : List (Operator × ℕ)) (i : Instruction) : Type 0 where
  pub own : Instruction
  pub stands : StandsSomewhere operators own
  pub argument : MemArg
  pub own_argument : memory_argument own.imm ≡ Some argument
  pub other : MemArg
  pub asks : AsksNoGreater argument other
  pub is : i ≡ access_with_argument other own

-- The standard asks nothing of it that wasn't asked of the operators or of the code that is copied.
pub data IsAskedAlready (operators : List (Operator × ℕ)) (copied : List Instruction) (i : Instruction) : Type 0 where
  -- nothing beyond its types
  plain : IsTrue (asks_types_alone i) → IsAskedAlready operators copied i
  -- nor of a call: that the function is there is part of its types
  call : IsTrue (is_call_row i.row) → IsAskedAlready operators copied i
  -- it is one of the operators, of which the rest was asked already
  stands : StandsSomewhere operators i → IsAskedAlready operators copied i
  eased : IsEased operators i → IsAskedAlready operators copied i
  -- it stands in that code
  taken : (at : ℕ) → slice_get copied at ≡ Some i → IsAskedAlready operators copied i

-- so of each instruction of the code
abbrev pub AsksNoMore : List (Operator × ℕ) → (copied code : List Instruction) → Type 0
AsksNoMore operators copied code = All (IsAskedAlready operators copied) code

-- ---- law

-- This holds of the code that a change makes.
abbrev pub ChangesAskNoMore : Type 0
ChangesAskNoMore =
    (context : Context) (operators : List (Operator × ℕ)) (material : Material) (words : List ℕ) (change : Change) (at start : ℕ)
    (code : List Instruction) → IsChange context operators material words change at start code → AsksNoMore operators material.copied code
