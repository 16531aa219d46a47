-- What each change makes of the code that ends with an operator and needs nothing from what stands before it, its unit (this project).
use Rattle.std.specs.Prelude.{◌≡◌, ◌+◌, ◌%◌, ◌^◌, ◌<◌, ◌≤◌, ◌==◌, ⊤, ℕ, Bool, true, false, List, [], ◌∷◌, ◌++◌, length, get_or, min, Option, Some, None, IsTrue}
use Rattle.std.specs.Prelude.{slice_get, slice_range}
use Rattle.wasm_code.specs.Instruction.{Instruction, IsInstruction}
use Rattle.wasm_code.specs.declared.immediate.Imm.{Imm}
use Rattle.wasm_code.specs.declared.immediate.Imm.TheVariants as imm
use Rattle.wasm_code.specs.declared.immediate.MemArg.{MemArg}
use Rattle.wasm_code.specs.declared.operator.Operator.{Operator}
use Rattle.wasm_types.specs.Module.{function_type}
use Rattle.wasm_types.specs.declared.types.PrimitiveTypeInfo.{PrimitiveTypeInfo}
use Rattle.wasm_types.specs.declared.types.PrimitiveTypeInfo.TheVariants as primitive
use Rattle.wasm_execution.specs.Values.{Context}
use Rattle.body_changes.specs.declared.change.Change.{Change}
use Rattle.body_changes.specs.declared.change.Change.TheVariants as change
use Rattle.body_changes.specs.declared.units.Takes.{Takes}
use Rattle.body_changes.specs.declared.units.Takes.TheVariants as takes
use Rattle.body_changes.specs.declared.units.Unit.{Unit}
use Rattle.body_changes.specs.Drawing.{is_local_row, three_words, drawing_words_of, AskTypesAlone, IsLeaf}
use Rattle.body_changes.specs.Goals.{constant_row, indexed}
use Rattle.body_changes.specs.Others.{IsOther}
use Rattle.body_changes.specs.Replacing.{AreTheseInstructions, CanReplace, HasInstruction}
use Rattle.body_changes.specs.Units.{IsUnit}

-- these instructions stand from `start` up to the one before `end`
abbrev pub Stand : List (Operator × ℕ) → (start end : ℕ) → List Instruction → Type 0
Stand operators start end code = AreTheseInstructions (slice_range operators start end) code

-- numbers and vectors
abbrev pub is_number_or_vector : PrimitiveTypeInfo → Bool
is_number_or_vector primitive.FuncRef = false
is_number_or_vector primitive.ExternRef = false
is_number_or_vector primitive.Empty = false
is_number_or_vector t = true

-- ---- a value

-- A constant becomes another one of its type.
pub record MakesConstant (operators : List (Operator × ℕ)) (at : ℕ) (unit : Unit) (code : List Instruction) : Type 0 where
  pub type : PrimitiveTypeInfo
  pub gives : unit.gives ≡ Some type
  pub number : IsTrue (is_number_or_vector type)
  pub own : Instruction
  pub has : HasInstruction operators at own
  pub own_row : own.row ≡ constant_row type
  pub other : Instruction
  pub instruction : IsInstruction other
  pub other_row : other.row ≡ constant_row type
  pub code_is : code ≡ other ∷ []

-- A value that is no reference is drawn anew, by at most so many instructions, of which the standard asks nothing beyond their types.
pub record MakesDrawn (most : ℕ) (unit : Unit) (code : List Instruction) : Type 0 where
  pub type : PrimitiveTypeInfo
  pub gives : unit.gives ≡ Some type
  pub number : IsTrue (is_number_or_vector type)
  pub few : length code ≤ most
  pub plain : AskTypesAlone code

-- It becomes the code that is copied. (That this gives the same is part of what may stand there.)
pub record MakesCopy (copied code : List Instruction) : Type 0 where
  pub some : 0 < length copied
  pub code_is : code ≡ copied

-- ---- the operator

-- the types of an operator's operands, where it takes one or two
abbrev pub operand_types : Takes → Option (List PrimitiveTypeInfo)
operand_types (takes.One t) = Some (t ∷ [])
operand_types (takes.Two t u) = Some (t ∷ u ∷ [])
operand_types takes.Other = None

-- Another instruction stands behind the same operands.
pub record IsBehindOperands (operators : List (Operator × ℕ)) (at : ℕ) (unit : Unit) (other : Instruction) (code : List Instruction) : Type 0 where
  pub operands : List Instruction
  pub stand : Stand operators unit.start at operands
  pub code_is : code ≡ operands ++ other ∷ []

-- An operator on one or two operands becomes another one that takes the same types and gives the same.
pub record MakesOperator (context : Context) (operators : List (Operator × ℕ)) (at : ℕ) (unit : Unit) (code : List Instruction) : Type 0 where
  pub types : List PrimitiveTypeInfo
  pub takes : operand_types unit.takes ≡ Some types
  pub own : Instruction
  pub has : HasInstruction operators at own
  pub other : Instruction
  pub is : IsOther context types own other
  pub behind : IsBehindOperands operators at unit other code

-- the one that the first word names of so many, as far as an index of 32 bits does
abbrev pub named_of : (count : ℕ) → (words : List ℕ) → ℕ
named_of count words = get_or words 0 0 % min count (2 ^ 32)

-- An instruction with an index, of one of these rows, becomes the same one with that other index, of what is alike.
pub record MakesIndexed (is_one : (row : ℕ) → Bool) (AreAlike : (own other : ℕ) → Type 0) (operators : List (Operator × ℕ)) (at : ℕ) (unit : Unit)
    (other : ℕ) (code : List Instruction) : Type 0 where
  pub row : ℕ
  pub is_row : IsTrue (is_one row)
  pub own : ℕ
  pub has : HasInstruction operators at (indexed row own)
  pub alike : AreAlike own other
  pub instruction : IsInstruction (indexed row other)
  pub behind : IsBehindOperands operators at unit (indexed row other) code

-- both are there, and have one type
abbrev pub HaveOneType : {T : Type 0} → (type_with : (index : ℕ) → Option T) → (own other : ℕ) → Type 0
HaveOneType {T} type_with own other = (t : T) × (type_with own ≡ Some t) × (type_with other ≡ Some t)

-- An access to a local becomes one to the local that the words name, which has its type.
abbrev pub MakesLocal : Context → List (Operator × ℕ) → (words : List ℕ) → (at : ℕ) → Unit → List Instruction → Type 0
MakesLocal context operators words at unit code =
    MakesIndexed is_local_row (HaveOneType (slice_get context.locals)) operators at unit (named_of (length context.locals) words) code

-- global.get
abbrev pub is_global_row : ℕ → Bool
is_global_row n = n == 7

-- A global that is read becomes the one that they name, which has its type.
abbrev pub MakesGlobal : Context → List (Operator × ℕ) → (words : List ℕ) → (at : ℕ) → Unit → List Instruction → Type 0
MakesGlobal context operators words at unit code =
    MakesIndexed is_global_row (HaveOneType (slice_get context.info.globals)) operators at unit (named_of (length context.info.globals) words) code

-- call
abbrev pub is_call_row : ℕ → Bool
is_call_row n = n == 1

-- A function that is called becomes the one that they name, which has its type.
abbrev pub MakesCall : Context → List (Operator × ℕ) → (words : List ℕ) → (at : ℕ) → Unit → List Instruction → Type 0
MakesCall context operators words at unit code =
    MakesIndexed is_call_row (HaveOneType (function_type context.info)) operators at unit (named_of (length context.info.functions) words) code

-- ---- the memory argument

-- that of a load or a store
abbrev pub memory_argument : Imm → Option MemArg
memory_argument (imm.Mem m) = Some m
memory_argument (imm.MemLane m lane) = Some m
memory_argument i = None

-- the immediate with that one, beside its own lane
abbrev pub with_argument : MemArg → Imm → Imm
with_argument m (imm.Mem own) = imm.Mem m
with_argument m (imm.MemLane own lane) = imm.MemLane m lane
with_argument m i = i

-- the instruction with it
abbrev pub access_with_argument : MemArg → Instruction → Instruction
access_with_argument m i = record { row = i.row; imm = with_argument m i.imm }

-- On the same memory: the alignment is no greater, and the offset has 32 bits, so that it fits the addresses of any memory.
pub record AsksNoGreater (own other : MemArg) : Type 0 where
  pub memory : other.memory ≡ own.memory
  pub align : other.align ≤ own.align
  pub offset : other.offset < 2 ^ 32

-- A load or a store gets another offset and alignment.
pub record MakesMemoryArgument (operators : List (Operator × ℕ)) (at : ℕ) (unit : Unit) (code : List Instruction) : Type 0 where
  pub own : Instruction
  pub has : HasInstruction operators at own
  pub argument : MemArg
  pub own_argument : memory_argument own.imm ≡ Some argument
  pub other : MemArg
  pub asks : AsksNoGreater argument other
  pub behind : IsBehindOperands operators at unit (access_with_argument other own) code

-- ---- operands

-- The first of two operands stands for the whole, whose type it has.
pub record MakesFirst (operators : List (Operator × ℕ)) (unit : Unit) (code : List Instruction) : Type 0 where
  pub first : PrimitiveTypeInfo
  pub last : PrimitiveTypeInfo
  pub takes : unit.takes ≡ takes.Two first last
  pub gives : unit.gives ≡ Some first
  pub stand : Stand operators unit.start unit.last code

-- the type of the last operand, of one or two
abbrev pub last_type : Takes → Option PrimitiveTypeInfo
last_type (takes.One t) = Some t
last_type (takes.Two t u) = Some u
last_type takes.Other = None

-- The last operand does, the only one or the second.
pub record MakesLast (operators : List (Operator × ℕ)) (at : ℕ) (unit : Unit) (code : List Instruction) : Type 0 where
  pub type : PrimitiveTypeInfo
  pub takes : last_type unit.takes ≡ Some type
  pub gives : unit.gives ≡ Some type
  pub stand : Stand operators unit.last at code

-- Two operands of one type change places.
pub record MakesExchanged (operators : List (Operator × ℕ)) (at : ℕ) (unit : Unit) (code : List Instruction) : Type 0 where
  pub type : PrimitiveTypeInfo
  pub takes : unit.takes ≡ takes.Two type type
  pub first : List Instruction
  pub first_stands : Stand operators unit.start unit.last first
  pub last : List Instruction
  pub last_stands : Stand operators unit.last at last
  pub own : Instruction
  pub has : HasInstruction operators at own
  pub code_is : code ≡ last ++ first ++ own ∷ []

-- ---- statements, which leave no value

-- It is gone.
pub record MakesNoCode (unit : Unit) (code : List Instruction) : Type 0 where
  pub gives : unit.gives ≡ None
  pub code_is : code ≡ []

-- It stands there twice.
pub record MakesTwice (operators : List (Operator × ℕ)) (at : ℕ) (unit : Unit) (code : List Instruction) : Type 0 where
  pub gives : unit.gives ≡ None
  pub own : List Instruction
  pub stand : Stand operators unit.start (at + 1) own
  pub code_is : code ≡ own ++ own

-- It changes places with the statement right before it, which begins at `start`.
pub record MakesTurned (context : Context) (operators : List (Operator × ℕ)) (at : ℕ) (unit : Unit) (start : ℕ) (code : List Instruction) : Type 0 where
  pub gives : unit.gives ≡ None
  pub last : ℕ
  pub right_before : last + 1 ≡ unit.start
  pub before : Unit
  pub is : IsUnit context operators last before
  pub before_gives : before.gives ≡ None
  pub start_is : start ≡ before.start
  pub first : List Instruction
  pub first_stands : Stand operators before.start unit.start first
  pub own : List Instruction
  pub own_stands : Stand operators unit.start (at + 1) own
  pub code_is : code ≡ own ++ first

-- ---- all of them

-- What new code is made of: drawn code is of at most so many instructions, and this code may be copied.
pub record Material : Type 0 where
  pub most : ℕ
  pub copied : List Instruction

-- What the change makes of the unit of the operator at `at`: the code that stands in the place of the operators from `start` up to that one. `words` say which
-- local, global or function takes another one's place.
abbrev pub ChangeMakes : Context → List (Operator × ℕ) → Material → (words : List ℕ) → Change → (at : ℕ) → Unit → (start : ℕ) → List Instruction → Type 0
ChangeMakes context operators material words change.Constant at unit start code = (start ≡ unit.start) × MakesConstant operators at unit code
ChangeMakes context operators material words change.Operator at unit start code = (start ≡ unit.start) × MakesOperator context operators at unit code
ChangeMakes context operators material words change.Local at unit start code = (start ≡ unit.start) × MakesLocal context operators words at unit code
ChangeMakes context operators material words change.Draw at unit start code = (start ≡ unit.start) × MakesDrawn material.most unit code
ChangeMakes context operators material words change.Copy at unit start code = (start ≡ unit.start) × MakesCopy material.copied code
ChangeMakes context operators material words change.FirstOperand at unit start code = (start ≡ unit.start) × MakesFirst operators unit code
ChangeMakes context operators material words change.LastOperand at unit start code = (start ≡ unit.start) × MakesLast operators at unit code
ChangeMakes context operators material words change.ExchangeOperands at unit start code = (start ≡ unit.start) × MakesExchanged operators at unit code
ChangeMakes context operators material words change.Delete at unit start code = (start ≡ unit.start) × MakesNoCode unit code
ChangeMakes context operators material words change.Double at unit start code = (start ≡ unit.start) × MakesTwice operators at unit code
ChangeMakes context operators material words change.ExchangeStatements at unit start code = MakesTurned context operators at unit start code
ChangeMakes context operators material words change.Global at unit start code = (start ≡ unit.start) × MakesGlobal context operators words at unit code
ChangeMakes context operators material words change.Call at unit start code = (start ≡ unit.start) × MakesCall context operators words at unit code
ChangeMakes context operators material words change.MemoryArgument at unit start code = (start ≡ unit.start) × MakesMemoryArgument operators at unit code

-- The code may stand in the place of the operators from `start` up to the one before `end`, and isn't what stands there.
pub record IsNewWithin (context : Context) (operators : List (Operator × ℕ)) (start end : ℕ) (code : List Instruction) : Type 0 where
  pub can : CanReplace context operators start end code
  pub differs : ¬ (Stand operators start end code)

-- the same up to the operator at `at`
abbrev pub IsNew : Context → List (Operator × ℕ) → (start at : ℕ) → List Instruction → Type 0
IsNew context operators start at code = IsNewWithin context operators start (at + 1) code

-- The change makes this code of the operator's unit.
pub record IsChange (context : Context) (operators : List (Operator × ℕ)) (material : Material) (words : List ℕ) (change : Change) (at start : ℕ)
    (code : List Instruction) : Type 0 where
  pub unit : Unit
  pub is : IsUnit context operators at unit
  pub makes : ChangeMakes context operators material words change at unit start code
  pub new : IsNew context operators start at code

-- ---- the words for the code, where the change and the operator leave a choice

-- behind the word 4, the next two are the offset and the alignment of the last one
abbrev pub NamesArgument : (words : List ℕ) → List Instruction → Type 0
NamesArgument words code =
    (front : List Instruction) × (i : Instruction) × (m : MemArg) × (code ≡ front ++ i ∷ []) × (memory_argument i.imm ≡ Some m)
    × (get_or words 0 0 ≡ 4) × (get_or words 1 0 ≡ m.offset) × (get_or words 2 0 ≡ m.align)

-- These words draw it: a constant's own bits, a single instruction's words, the number of an operator's row, an offset and an alignment. Other changes
-- leave no choice.
abbrev pub WordsNameCode : Context → Change → Unit → (words : List ℕ) → List Instruction → Type 0
WordsNameCode context change.Constant unit words code =
    (t : PrimitiveTypeInfo) × (i : Instruction) × (unit.gives ≡ Some t) × IsLeaf context t i × (three_words words ≡ drawing_words_of context t i)
    × (code ≡ i ∷ [])
WordsNameCode context change.Draw unit words code =
    (t : PrimitiveTypeInfo) × (i : Instruction) × (unit.gives ≡ Some t) × IsLeaf context t i × (three_words words ≡ drawing_words_of context t i)
    × (code ≡ i ∷ [])
WordsNameCode context change.Operator unit words code = (front : List Instruction) × (i : Instruction) × (code ≡ front ++ i ∷ []) × (get_or words 0 0 ≡ i.row)
WordsNameCode context change.MemoryArgument unit words code = NamesArgument words code
WordsNameCode context change unit words code = ⊤
