-- Bodies: whole operators, one after another, the last one `end`; and the first fault of bytes that are none
-- (WebAssembly Core Specification 3.0, Binary Format, Instructions, Expressions; the order of the faults is this project's own).
use Rattle.std.specs.Prelude.{◌≡◌, ℕ, ◌+◌, List, [], ◌∷◌, ◌++◌, length, Bool, true, false, IsTrue, if◌then◌else◌}
use Rattle.wasm_code.specs.declared.fault.ReadKind.{ReadKind}
use Rattle.wasm_code.specs.declared.fault.ReadKind.TheVariants as kinds
use Rattle.wasm_code.specs.declared.fault.Cause.{Cause}
use Rattle.wasm_code.specs.declared.fault.Cause.TheVariants.{Truncated, UnknownOpcode, BadInteger, BadImmediate}
use Rattle.wasm_code.specs.declared.operator.Operator.{Operator}
use Rattle.wasm_code.specs.declared.operator.Operator.TheVariants as op
use Rattle.wasm_code.specs.Operator.{is_known, SpellsAny, Fails, FailsAny}

-- ---- what bytes spell

-- a spelling of the operator, which stands with its offset, and the rest behind it
pub record IsNext (Rest : ℕ → List ℕ → Type 0) (start : ℕ) (text : List ℕ) (x : Operator × ℕ) : Type 0 where
  pub front : List ℕ
  pub back : List ℕ
  pub parts : text ≡ front ++ back
  pub offset : x.1 ≡ start
  pub spells : SpellsAny front x.0
  pub rest : Rest (start + length front) back

-- spellings of the operators, joined; the first byte has the offset `start`
abbrev pub SpellsAll : List (Operator × ℕ) → ℕ → List ℕ → Type 0
SpellsAll [] start text = text ≡ []
SpellsAll (x ∷ xs) start text = IsNext (SpellsAll xs) start text x

-- the operator `end`, which closes a block or the body itself
abbrev pub is_end : Operator → Bool
is_end op.End = true
is_end _ = false

-- the last operator is `end`
abbrev pub ends : List (Operator × ℕ) → Bool
ends [] = false
ends (x ∷ []) = is_end x.0
ends (x ∷ y ∷ xs) = ends (y ∷ xs)

-- ---- joined spellings

-- each operator has a spelling
abbrev pub AreSpelled : List (Operator × List ℕ) → Type 0
AreSpelled [] = Unit {0}
AreSpelled (x ∷ xs) = SpellsAny x.1 x.0 × AreSpelled xs

-- the spellings, joined
abbrev pub bytes_of : List (Operator × List ℕ) → List ℕ
bytes_of [] = []
bytes_of (x ∷ xs) = x.1 ++ bytes_of xs

-- the operators with their offsets, where the first byte of the joined spellings has the offset `start`
abbrev pub with_offsets : ℕ → List (Operator × List ℕ) → List (Operator × ℕ)
with_offsets start [] = []
with_offsets start (x ∷ xs) = (x.0, start) ∷ with_offsets (start + length x.1) xs

-- the operators with offsets that much larger
abbrev pub move_by : ℕ → List (Operator × ℕ) → List (Operator × ℕ)
move_by by [] = []
move_by by (x ∷ xs) = (x.0, x.1 + by) ∷ move_by by xs

-- the bytes, cut behind the spellings of the first operators
pub record IsCut (xs ys : List (Operator × ℕ)) (start : ℕ) (text : List ℕ) : Type 0 where
  pub front : List ℕ
  pub back : List ℕ
  pub parts : text ≡ front ++ back
  pub first : SpellsAll xs start front
  pub second : SpellsAll ys (start + length front) back

-- ---- bodies

-- The bytes spell these operators, known ones and others, and the last one is `end`.
pub record SpellsCode (start : ℕ) (text : List ℕ) (xs : List (Operator × ℕ)) : Type 0 where
  pub all : SpellsAll xs start text
  pub last : IsTrue (ends xs)

-- each is an instruction of the table or a control operator
abbrev pub are_known : List (Operator × ℕ) → Bool
are_known [] = true
are_known (x ∷ xs) = if is_known x.0 then are_known xs else false

-- The bytes spell these operators, which are all known, and the last one is `end`.
pub record SpellsBody (start : ℕ) (text : List ℕ) (xs : List (Operator × ℕ)) : Type 0 where
  pub all : SpellsAll xs start text
  pub last : IsTrue (ends xs)
  pub known : IsTrue (are_known xs)

-- ---- what is read: known operators alone, or any

-- it is read
abbrev pub is_read : (any : Bool) → Operator → Bool
is_read true x = true
is_read false x = is_known x

-- all are read
abbrev pub are_read : (any : Bool) → List (Operator × ℕ) → Bool
are_read true xs = true
are_read false xs = are_known xs

-- no operator that is read begins the bytes
abbrev pub FailsRead : (any : Bool) → List ℕ → Cause → Type 0
FailsRead true = FailsAny
FailsRead false = Fails

-- ---- the first fault

-- behind some whole operators that are read stand bytes that begin with none, for that cause
pub record StopsAt (any : Bool) (start : ℕ) (text : List ℕ) (offset : ℕ) (why : Cause) : Type 0 where
  pub operators : List (Operator × ℕ)
  pub front : List ℕ
  pub first : ℕ
  pub back : List ℕ
  pub parts : text ≡ front ++ first ∷ back
  pub before : SpellsAll operators start front
  pub read : IsTrue (are_read any operators)
  pub at : offset ≡ start + length front
  pub cause : FailsRead any (first ∷ back) why

-- all are whole operators that are read, and the last one isn't `end`
pub record LacksEnd (any : Bool) (start : ℕ) (text : List ℕ) : Type 0 where
  pub operators : List (Operator × ℕ)
  pub all : SpellsAll operators start text
  pub read : IsTrue (are_read any operators)
  pub last : ends operators ≡ false

-- an error's kind and offset are right
abbrev pub IsFaultOf : (any : Bool) → (start to : ℕ) → List ℕ → ReadKind → ℕ → Type 0
IsFaultOf any start to text kinds.Truncated offset = StopsAt any start text offset Truncated
IsFaultOf any start to text kinds.UnknownOpcode offset = StopsAt any start text offset UnknownOpcode
IsFaultOf any start to text kinds.BadInteger offset = StopsAt any start text offset BadInteger
IsFaultOf any start to text kinds.BadImmediate offset = StopsAt any start text offset BadImmediate
IsFaultOf any start to text kinds.NoEnd offset = LacksEnd any start text × (offset ≡ to)
IsFaultOf any start to text kinds.Memory offset = offset ≡ start

-- An error's kind and offset are right, where known operators alone are read.
abbrev pub IsFault : (start to : ℕ) → List ℕ → ReadKind → ℕ → Type 0
IsFault = IsFaultOf false

-- An error's kind and offset are right, where any operators are read.
abbrev pub IsCodeFault : (start to : ℕ) → List ℕ → ReadKind → ℕ → Type 0
IsCodeFault = IsFaultOf true

-- the kind of fault that reading a body reports for a cause; no cause stands for a missing `end` or a lack of memory
abbrev pub kind_of : Cause → ReadKind
kind_of Truncated = kinds.Truncated
kind_of UnknownOpcode = kinds.UnknownOpcode
kind_of BadInteger = kinds.BadInteger
kind_of BadImmediate = kinds.BadImmediate
