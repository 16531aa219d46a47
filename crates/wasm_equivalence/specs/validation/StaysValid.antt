-- What stays valid in a module with further globals (this project).
use Rattle.std.specs.Prelude.{◌≡◌, ℕ, List, [], ◌∷◌, ◌++◌, map, Some, option_map}
use Rattle.wasm_code.specs.Instruction.{Instruction}
use Rattle.wasm_code.specs.declared.operator.Operator.{Operator}
use Rattle.wasm_code.specs.declared.operator.Operator.TheVariants.{Instr}
use Rattle.wasm_types.specs.declared.types.PrimitiveTypeInfo.{PrimitiveTypeInfo}
use Rattle.wasm_execution.specs.Values.{Context}
use Rattle.wasm_execution.specs.IntegerRow.{IntegerRow, row_types, integer_row}
use Rattle.wasm_equivalence.specs.control.Function.{structural}
use Rattle.wasm_equivalence.specs.control.Wider.{wider}
use Rattle.wasm_equivalence.specs.validation.Algorithm.{known, row_entries, Frame, check_code, Structural, check}

-- the frame with these types on top
abbrev pub with_types : List PrimitiveTypeInfo → Frame → Frame
with_types ts f = record f { operands = f.operands ++ known ts }

-- On every frame the code is valid with the first types on top, and leaves the others in their place.
abbrev pub Pushes : Context → List Instruction → (ts us : List PrimitiveTypeInfo) → Type 0
Pushes context code ts us = (f : Frame) → check_code context code (with_types ts f) ≡ Some (with_types us f)

-- Wherever the old code is valid, the new code is valid in the module with further globals, and leaves the same frame.
abbrev pub ChecksAs : (context after : Context) → (old new : List Instruction) → Type 0
ChecksAs context after old new = (f g : Frame) → check_code context old f ≡ Some g → check_code after new f ≡ Some g

-- The bodies have the same structural operators, and whatever these do to the frames, the new body is valid where the old one is, and leaves the same.
pub record StaysValid (context after : Context) (old new : List Operator) : Type 0 where
  pub structure : structural old ≡ structural new
  pub checks : (steps : Structural) (k : ℕ) (frames left : List Frame) → check context steps k old frames ≡ Some left →
      check after steps k new frames ≡ Some left

-- ---- laws

-- On known operands a row is valid where it has types, and gives these.
abbrev pub KnownOperandsCheckByTypes : Type 0
KnownOperandsCheckByTypes =
    (context : Context) (row : IntegerRow) (ts : List PrimitiveTypeInfo) →
    row_entries context row (known ts) ≡ option_map known (row_types context row ts)

-- What is valid stays valid in the module with further globals.
abbrev pub MoreGlobalsCheckAlike : Type 0
MoreGlobalsCheckAlike =
    (context : Context) (input : List ℕ) (more : List PrimitiveTypeInfo) (body : List Operator) → StaysValid context (wider input more context) body body

-- Where instructions in a body are replaced by others that are valid alike, the body stays valid.
abbrev pub ReplacedCodeStaysValid : Type 0
ReplacedCodeStaysValid =
    (context : Context) (input : List ℕ) (requests : List PrimitiveTypeInfo) (front back : List Operator) (i : Instruction) (own code : List Instruction) →
    ChecksAs context (wider input requests context) (i ∷ own) code →
    StaysValid context (wider input requests context) (front ++ (map (λ (i : Instruction). Instr i) (i ∷ own) ++ back))
    (front ++ (map (λ (i : Instruction). Instr i) code ++ back))

-- And one rewrite after another.
abbrev pub ValidityFollows : Type 0
ValidityFollows =
    (context between after : Context) (old middle new : List Operator) → StaysValid context between old middle → StaysValid between after middle new →
    StaysValid context after old new

-- ---- typed code

-- What typed code pushes: no code leaves what is there; an instruction pushes what its row gives; code goes on behind code, and above other types.
pub record TypedCodePushes : Type 0 where
  pub nothing : (context : Context) (ts : List PrimitiveTypeInfo) → Pushes context [] ts ts
  pub row : (context : Context) (i : Instruction) (ts us : List PrimitiveTypeInfo) → row_types context (integer_row i) ts ≡ Some us →
      Pushes context (i ∷ []) ts us
  pub follow : (context : Context) (a b : List Instruction) (ts us vs : List PrimitiveTypeInfo) → Pushes context a ts us → Pushes context b us vs →
      Pushes context (a ++ b) ts vs
  pub above : (context : Context) (code : List Instruction) (below ts us : List PrimitiveTypeInfo) → Pushes context code ts us →
      Pushes context code (below ++ ts) (below ++ us)

-- Code that needs nothing on a frame pushes its types there.
abbrev pub PushesOnFrames : Type 0
PushesOnFrames =
    (context : Context) (code : List Instruction) (list : List PrimitiveTypeInfo) → Pushes context code [] list →
    (f : Frame) → check_code context code f ≡ Some (with_types list f)

-- A row has the same types in the module with further globals.
abbrev pub RowTypesStay : Type 0
RowTypesStay =
    (context : Context) (input : List ℕ) (more : List PrimitiveTypeInfo) (row : IntegerRow) (ts us : List PrimitiveTypeInfo) →
    row_types context row ts ≡ Some us → row_types (wider input more context) row ts ≡ Some us
