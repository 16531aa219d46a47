-- Typed values, the state that instructions run in, and how a run ends: with values and a state, in a trap, or stuck
-- (WebAssembly Core Specification 3.0, Execution, Runtime Structure, and Validation, Conventions, Contexts; a stuck run, the rest and the world are
-- this project's words; what exact rows do: Execution, Numerics and Instructions, Memory Instructions).
use Rattle.std.specs.Prelude.{◌≡◌, ◌≢◌, ℕ, zero, suc, ◌+◌, ◌*◌, ◌/◌, ◌%◌, ◌^◌, ◌<◌, nat_le, Bool, true, false, ◌==◌, ◌&&◌, List, [], ◌∷◌}
use Rattle.std.specs.Prelude.{◌++◌, length, map, take, drop, slice_get, set as slice_set, Option, Some, None, option_and_then}
use Rattle.std.specs.Prelude.{if◌then◌else◌, ⊤}
use Rattle.std.specs.Int.{Width, w32, w64}
use Rattle.std.specs.List.{All}
use mir.Val.{bits}
use Rattle.wasm_code.specs.Instruction.{Instruction}
use Rattle.wasm_code.specs.declared.immediate.Imm.{Imm}
use Rattle.wasm_code.specs.declared.immediate.Imm.TheVariants as imm
use Rattle.wasm_types.specs.Module.{Module}
use Rattle.wasm_types.specs.declared.types.TypeInfo.{TypeInfo}
use Rattle.wasm_types.specs.declared.types.TypeInfo.TheVariants.{Func, Other}
use Rattle.wasm_types.specs.declared.types.PrimitiveTypeInfo.{PrimitiveTypeInfo}
use Rattle.wasm_types.specs.declared.types.PrimitiveTypeInfo.TheVariants as primitive
use Rattle.wasm_execution.specs.ExactRow.{Loading, ExactRow, computes, loads, stores, exact_row}
use Rattle.wasm_execution.specs.OtherRow.{Operand, typed, reference, OtherType, names_in, other_type, changes, may_trap}
-- the types of whole numbers
pub use Rattle.wasm_execution.specs.declared.integer.IntegerType.{IntegerType}
use Rattle.wasm_execution.specs.declared.integer.IntegerType.TheVariants as integer

-- ---- types

-- an integer type among the types of values
abbrev pub type_of : IntegerType → PrimitiveTypeInfo
type_of integer.I32 = primitive.I32
type_of integer.I64 = primitive.I64

-- the number of bits of an integer type, 32 or 64
abbrev pub width_of : IntegerType → Width
width_of integer.I32 = w32
width_of integer.I64 = w64

-- the place of a type among the eight
abbrev pub type_number : PrimitiveTypeInfo → ℕ
type_number primitive.I32 = 0
type_number primitive.I64 = 1
type_number primitive.F32 = 2
type_number primitive.F64 = 3
type_number primitive.V128 = 4
type_number primitive.FuncRef = 5
type_number primitive.ExternRef = 6
type_number primitive.Empty = 7

-- equal types; the subtypes that the standard has among references aren't used
abbrev pub same_type : PrimitiveTypeInfo → PrimitiveTypeInfo → Bool
same_type t u = type_number t == type_number u

-- as many types as there are others, equal in turn
abbrev pub same_types : List PrimitiveTypeInfo → List PrimitiveTypeInfo → Bool
same_types [] [] = true
same_types (t ∷ ts) (u ∷ us) = same_type t u && same_types ts us
same_types ts us = false

-- the types of references; among a module's types `Empty` stands for each that isn't one of the others, and these are references all
abbrev pub is_reference : PrimitiveTypeInfo → Bool
is_reference primitive.FuncRef = true
is_reference primitive.ExternRef = true
is_reference primitive.Empty = true
is_reference _ = false

-- the operand may be of the type; an operand whose type isn't there takes none
abbrev pub accepts : Operand → PrimitiveTypeInfo → Bool
accepts (typed (Some t)) u = same_type t u
accepts (typed None) u = false
accepts reference u = is_reference u

-- as many operands as types, each of which it may have
abbrev pub accept : List Operand → List PrimitiveTypeInfo → Bool
accept [] [] = true
accept (o ∷ os) (t ∷ ts) = accepts o t && accept os ts
accept os ts = false

-- what an instruction of that type gives on operands of these types; none where it takes others
abbrev pub results_on : List PrimitiveTypeInfo → OtherType → Option (List PrimitiveTypeInfo)
results_on ts t = if accept t.operands ts then Some t.results else None

-- what an instruction that is no integer row gives on operands of these types, where these are its own
abbrev pub other_types : Module → Instruction → List PrimitiveTypeInfo → Option (List PrimitiveTypeInfo)
other_types info i ts = option_and_then (results_on ts) (other_type (names_in info i.imm) i)

-- ---- what a world is asked for

-- The call of a foreign function: one that stands in a table and has no index in the module, by a mark that tells it from others, and the index of its type.
-- It is no instruction, since the table of these has no row 446; worlds are asked for it as for an instruction.
abbrev pub foreign_call : (mark type : ℕ) → Instruction
foreign_call mark type = record { row = 446; imm = imm.Pair mark type }

-- the index of the type, where it is such a call
abbrev pub foreign_in : (row : ℕ) → Imm → Option ℕ
foreign_in row (imm.Pair mark type) = if row == 446 then Some type else None
foreign_in row i = None

-- what a function of that type gives on operands of these types; none where it takes others, or the type is none of a function
abbrev pub function_results : List PrimitiveTypeInfo → TypeInfo → Option (List PrimitiveTypeInfo)
function_results ts (Func t) = if same_types ts t.params then Some t.returns else None
function_results ts Other = None

-- the first, or where it isn't there the second
abbrev pub or_else : Option (List PrimitiveTypeInfo) → Option (List PrimitiveTypeInfo) → Option (List PrimitiveTypeInfo)
or_else (Some ts) o = Some ts
or_else None o = o

-- what a world gives on operands of these types: for instructions that are no integer rows, and for calls of foreign functions
abbrev pub asked_types : Module → Instruction → List PrimitiveTypeInfo → Option (List PrimitiveTypeInfo)
asked_types info i ts =
    or_else (other_types info i ts) (option_and_then (function_results ts) (option_and_then (slice_get info.types) (foreign_in i.row i.imm)))

-- ---- values

-- a type with a number, its bits, or with any mark where the type is one of references; `IsValue` says that the number is of the type
pub record Value : Type 0 where
  pub type : PrimitiveTypeInfo
  pub number : ℕ

-- a number of an integer, float or vector type fits its bits; of other types any mark is a value
abbrev pub IsOfType : PrimitiveTypeInfo → ℕ → Type 0
IsOfType primitive.I32 n = n < 2 ^ 32
IsOfType primitive.I64 n = n < 2 ^ 64
IsOfType primitive.F32 n = n < 2 ^ 32
IsOfType primitive.F64 n = n < 2 ^ 64
IsOfType primitive.V128 n = n < 2 ^ 128
IsOfType _ n = ⊤

-- what is left of a number in the bits of a type; of a reference all
abbrev pub of_bits : PrimitiveTypeInfo → ℕ → ℕ
of_bits primitive.I32 n = n % 2 ^ 32
of_bits primitive.I64 n = n % 2 ^ 64
of_bits primitive.F32 n = n % 2 ^ 32
of_bits primitive.F64 n = n % 2 ^ 64
of_bits primitive.V128 n = n % 2 ^ 128
of_bits _ n = n

-- the number is one of the value's type
abbrev pub IsValue : Value → Type 0
IsValue v = IsOfType v.type v.number

-- what is left of a number in the bits of its type
abbrev pub whole : IntegerType → ℕ → Value
whole t n = record { type = type_of t; number = n % 2 ^ bits (width_of t) }

-- the types of values, in their order
abbrev pub types : List Value → List PrimitiveTypeInfo
types vs = map (λ v. v.type) vs

-- ---- states

-- what code is typed in: a module, and the types of a function's locals
pub record Context : Type 0 where
  pub info : Module
  pub locals : List PrimitiveTypeInfo

-- the context of a function's code: the module, and its parameters and locals
abbrev pub context_in : Module → (locals : List PrimitiveTypeInfo) → Context
context_in info locals = record { info = info; locals = locals }

-- why code gives no values: it traps, by a division by zero, a quotient that is too large, an `unreachable`, or what an instruction of the world's has met,
-- by a mark; or it called a function that hasn't ended, or that was stuck
pub data Cause : Type 0 where
  divide_by_zero overflow unreachable unfinished stuck : Cause
  met : (mark : ℕ) → Cause

-- What an instruction leaves: values, the module's globals and the rest; or a trap with its cause, and both.
pub data Answer : Type 0 where
  Gives : (values globals : List Value) → (rest : ℕ) → Answer
  Fails : Cause → (globals : List Value) → (rest : ℕ) → Answer

-- The module that code runs in; what those instructions do that are no integer rows, and foreign functions, with operands, the module's globals and the
-- rest; and what becomes of requested globals meanwhile, as where a call comes back into the function.
pub record World : Type 0 where
  pub info : Module
  pub answer : Instruction → (operands globals : List Value) → (rest : ℕ) → Answer
  pub others : Instruction → (operands globals : List Value) → (rest : ℕ) → List Value → List Value

-- `rest` is a mark of all else: memories, tables, segments, and what lies outside the module
pub record State : Type 0 where
  pub locals : List Value
  pub globals : List Value
  pub rest : ℕ
  pub world : World

-- those of the module; requested ones stand behind them
abbrev pub own_globals : State → List Value
own_globals s = take (length s.world.info.globals) s.globals

-- the requested ones
abbrev pub further_globals : State → List Value
further_globals s = drop (length s.world.info.globals) s.globals

-- a local or a global, by its index
pub data Variable : Type 0 where
  local global : ℕ → Variable

-- the value of a variable, where it is there
abbrev pub read : Variable → State → Option Value
read (local i) s = slice_get s.locals i
read (global i) s = slice_get s.globals i

-- the state with another value in the variable; the same state where it isn't there
abbrev pub write : Variable → Value → State → State
write (local i) v s = record s { locals = slice_set s.locals i v }
write (global i) v s = record s { globals = slice_set s.globals i v }

-- ---- what exact rows do

-- Memories, as far as the rest holds them: the bytes of each, by its index, which is no other one's; the rest with others in their place; and the mark of the
-- trap of an access beyond them. What is written is there, and no other memory has changed.
pub record Memories : Type 0 where
  pub bytes : (rest memory : ℕ) → List ℕ
  pub with_bytes : (rest memory : ℕ) → List ℕ → ℕ
  pub outside : ℕ
  pub are_bytes : (rest memory : ℕ) → All (λ b. b < 256) (bytes rest memory)
  pub written : (rest memory : ℕ) (new : List ℕ) → length new ≡ length (bytes rest memory) → All (λ b. b < 256) new →
      bytes (with_bytes rest memory new) memory ≡ new
  pub kept : (rest memory other : ℕ) (new : List ℕ) → other ≢ memory → bytes (with_bytes rest memory new) other ≡ bytes rest other

-- the number that bytes are, the lowest first
abbrev pub little : List ℕ → ℕ
little [] = 0
little (b ∷ bs) = little bs * 256 + b

-- so many bytes of a number
unfoldable pub bytes_of_number : (count : ℕ) → ℕ → List ℕ
bytes_of_number zero n = []
bytes_of_number (suc count) n = n % 256 ∷ bytes_of_number count (n / 256)

-- the bytes with these from a place on
abbrev pub put_at : (place : ℕ) → (new old : List ℕ) → List ℕ
put_at place new old = take place old ++ (new ++ drop (place + length new) old)

-- one value of each type, of the same number
abbrev pub numbered : List PrimitiveTypeInfo → ℕ → List Value
numbered [] n = []
numbered (t ∷ ts) n = record { type = t; number = of_bits t n } ∷ numbered ts n

-- the answer where the access is within the memory; else it traps
abbrev pub within : Bool → Answer → (outside : ℕ) → (globals : List Value) → (rest : ℕ) → Answer
within inside a outside gs r = if inside then a else Fails (met outside) gs r

-- what is loaded from a place on, and what a number that is stored there leaves
abbrev pub loaded : Memories → List PrimitiveTypeInfo → (memory place : ℕ) → Loading → (globals : List Value) → (rest : ℕ) → Answer
loaded m ts memory place l gs r =
    within (nat_le (place + l.count) (length (m.bytes r memory)))
    (Gives (numbered ts (l.extended (little (take l.count (drop place (m.bytes r memory)))))) gs r) m.outside gs r

abbrev pub stored : Memories → (memory place count number : ℕ) → (globals : List Value) → (rest : ℕ) → Answer
stored m memory place count n gs r =
    within (nat_le (place + count) (length (m.bytes r memory)))
    (Gives [] gs (m.with_bytes r memory (put_at place (bytes_of_number count n) (m.bytes r memory)))) m.outside gs r

-- what an exact row does with operands of its types: the number that it computes, cut to the bits of its type, and no change; or an access of a memory
abbrev pub exactly : Memories → ExactRow → List PrimitiveTypeInfo → (numbers : List ℕ) → (globals : List Value) → (rest : ℕ) → Answer
exactly m (computes f) ts ns gs r = Gives (numbered ts (f ns)) gs r
exactly m (loads a l) ts (n ∷ []) gs r = loaded m ts a.memory (n + a.offset) l gs r
exactly m (stores a count) [] (n ∷ k ∷ []) gs r = stored m a.memory (n + a.offset) count k gs r
exactly m row ts ns gs r = Fails (met m.outside) gs r

-- The world does on exact rows what the standard says, with memories that its rest holds.
pub record IsExact (w : World) : Type 0 where
  pub memories : Memories
  pub follows : (i : Instruction) (row : ExactRow) (results : List PrimitiveTypeInfo) (operands globals : List Value) (rest : ℕ) →
      exact_row i ≡ Some row → other_types w.info i (types operands) ≡ Some results → All IsValue operands → types globals ≡ w.info.globals →
      All IsValue globals →
      w.answer i operands globals rest ≡ exactly memories row results (map (λ v. v.number) operands) globals rest

-- ---- typed states

-- Values of the results' types, or a trap where the instruction may trap; both leave globals of their types, since whoever called may go on. An instruction
-- that changes nothing leaves the globals and the rest as they are.
abbrev pub IsAnswer : Module → Instruction → (results : List PrimitiveTypeInfo) → (globals : List Value) → (rest : ℕ) → Answer → Type 0
IsAnswer info i results globals rest (Gives vs gs r) =
    (types vs ≡ results) × All IsValue vs × (types gs ≡ info.globals) × All IsValue gs × (changes i ≡ false → (gs ≡ globals) × (r ≡ rest))
IsAnswer info i results globals rest (Fails cause gs r) =
    (may_trap i ≡ true) × (types gs ≡ info.globals) × All IsValue gs × (changes i ≡ false → (gs ≡ globals) × (r ≡ rest))

-- What the world does on operands of an instruction's types, or of a foreign function's, is such an answer; requested globals keep their types; and it is
-- exact where its module says that what runs it is.
pub record IsSound (w : World) : Type 0 where
  pub answers : (i : Instruction) (results : List PrimitiveTypeInfo) (operands globals : List Value) (rest : ℕ) →
      asked_types w.info i (types operands) ≡ Some results → All IsValue operands → types globals ≡ w.info.globals → All IsValue globals →
      IsAnswer w.info i results globals rest (w.answer i operands globals rest)
  pub kept : (i : Instruction) (operands globals : List Value) (rest : ℕ) (others : List Value) →
      types (w.others i operands globals rest others) ≡ types others
  pub exact : w.info.exact ≡ true → IsExact w

-- a value of its type for each variable of the context, in a sound world of its module
pub record HasTypes (context : Context) (s : State) : Type 0 where
  pub locals_are : types s.locals ≡ context.locals
  pub globals_are : types s.globals ≡ context.info.globals
  pub info_is : s.world.info ≡ context.info
  pub local_values : All IsValue s.locals
  pub global_values : All IsValue s.globals
  pub sound : IsSound s.world

-- ---- outcomes

-- it ends with values and a state, traps for a cause with the module's globals and the rest, or is stuck
pub data Outcome : Type 0 where
  Ends : List Value → State → Outcome
  Traps : Cause → (globals : List Value) → (rest : ℕ) → Outcome
  Stuck : Outcome

-- what follows a run that ends; a trap stays a trap, and a stuck run stuck
abbrev pub then_run : Outcome → (List Value → State → Outcome) → Outcome
then_run (Ends vs s) next = next vs s
then_run (Traps cause globals rest) next = Traps cause globals rest
then_run Stuck next = Stuck

-- the values stand above others
abbrev pub above : List Value → Outcome → Outcome
above below o = then_run o (λ vs s. Ends (below ++ vs) s)
