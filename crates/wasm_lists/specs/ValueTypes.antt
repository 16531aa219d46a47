-- Heap types, reference types and value types (WebAssembly Core Specification 3.0, Binary Format, Types, Heap Types, Reference
-- Types and Value Types).
use Rattle.std.specs.Prelude.{◌≡◌, ◌⊎◌, ℕ, pos, ◌==◌, nat_le, ◌&&◌, if◌then◌else◌, Bool, true, false, List, ◌++◌}
use Rattle.wasm_types.specs.declared.types.PrimitiveTypeInfo.{PrimitiveTypeInfo}
use Rattle.wasm_types.specs.declared.types.PrimitiveTypeInfo.TheVariants as primitives
use Rattle.wasm_code.specs.declared.fault.Cause.{Cause}
use Rattle.wasm_code.specs.declared.fault.Cause.TheVariants.{BadImmediate}
use Rattle.wasm_code.specs.Grammar.{NoBytes, NeverFails, Never, NamesNothing, Of}
use Rattle.wasm_code.specs.Number.{is_negative, SpellsUnsigned, SpellsSigned, FailsUnsigned}
use Rattle.wasm_lists.specs.First.{ByFirst, FailsByFirst}

-- ---- heap types

-- The index of a type: a signed number of 33 bits that isn't below zero.
abbrev pub SpellsIndexOfType : List ℕ → ℕ → Type 0
SpellsIndexOfType text n = SpellsSigned 33 text (pos n)

-- a number of 32 bits begins the bytes, whose last byte makes it one below zero where it is read as signed
pub record IsBelowZero (bytes : List ℕ) : Type 0 where
  pub n : ℕ
  pub front : List ℕ
  pub back : List ℕ
  pub parts : bytes ≡ front ++ back
  pub number : SpellsUnsigned 32 front n
  pub negative : is_negative front ≡ true

-- No index of a type begins the bytes: no number of 32 bits does, or one that is below zero.
abbrev pub FailsIndexOfType : List ℕ → Cause → Type 0
FailsIndexOfType bytes cause = FailsUnsigned 32 bytes cause ⊎ (IsBelowZero bytes × (cause ≡ BadImmediate))

-- whether the byte is that of an abstract heap type, from exn to noexn
abbrev pub is_abstract : ℕ → Bool
is_abstract b = nat_le 0x69 b && nat_le b 0x74

-- The byte of an abstract heap type, or the index of a type. What references to it refer to isn't kept: a value of one reference type may stand where
-- another is asked for (Validation, Matching, Reference Types), and nothing here tells them apart.
abbrev pub SpellsHeapTypeOrIndex : List ℕ → Unit {0} → Type 0
SpellsHeapTypeOrIndex = ByFirst is_abstract (λ _. NoBytes tt) (Of (λ _. tt) SpellsIndexOfType)

-- No heap type begins the bytes.
abbrev pub FailsHeapTypeOrIndex : List ℕ → Cause → Type 0
FailsHeapTypeOrIndex = FailsByFirst is_abstract (λ _. NeverFails) FailsIndexOfType

-- ---- reference types

-- The byte of an abstract heap type, for references to it that may be null.
abbrev pub SpellsAbstract : List ℕ → Unit {0} → Type 0
SpellsAbstract = ByFirst is_abstract (λ _. NoBytes tt) Never

-- There is no byte, or it is that of no abstract heap type.
abbrev pub FailsAbstract : List ℕ → Cause → Type 0
FailsAbstract = FailsByFirst is_abstract (λ _. NeverFails) NamesNothing

-- The byte 63 and a heap type, for references that may be null; 64 and a heap type, for those that may not; or the byte of an abstract heap type.
abbrev pub SpellsReferenceType : List ℕ → Unit {0} → Type 0
SpellsReferenceType = ByFirst (λ b. b == 0x63) (λ _. SpellsHeapTypeOrIndex) (ByFirst (λ b. b == 0x64) (λ _. SpellsHeapTypeOrIndex) SpellsAbstract)

-- No reference type begins the bytes.
abbrev pub FailsReferenceType : List ℕ → Cause → Type 0
FailsReferenceType = FailsByFirst (λ b. b == 0x63) (λ _. FailsHeapTypeOrIndex) (FailsByFirst (λ b. b == 0x64) (λ _. FailsHeapTypeOrIndex) FailsAbstract)

-- ---- value types

-- whether the byte is that of a type of numbers or of vectors
abbrev pub is_plain : ℕ → Bool
is_plain b = nat_le 0x7b b && nat_le b 0x7f

-- the type of numbers or of vectors with this byte
abbrev pub plain_type : ℕ → PrimitiveTypeInfo
plain_type b =
    if b == 0x7f then primitives.I32 else if b == 0x7e then primitives.I64 else if b == 0x7d then primitives.F32
    else if b == 0x7c then primitives.F64 else primitives.V128

-- The byte of a type of numbers or of vectors, or a reference type: of these each is `Empty`.
abbrev pub SpellsPrimitive : List ℕ → PrimitiveTypeInfo → Type 0
SpellsPrimitive = ByFirst is_plain (λ b. NoBytes (plain_type b)) (Of (λ _. primitives.Empty) SpellsReferenceType)

-- No value type begins the bytes.
abbrev pub FailsPrimitive : List ℕ → Cause → Type 0
FailsPrimitive = FailsByFirst is_plain (λ _. NeverFails) FailsReferenceType

-- ---- what may be written

-- the byte that says whether a global, or a field of a structure or an array, may be written
abbrev pub mutable_code : Bool → ℕ
mutable_code false = 0x00
mutable_code true = 0x01
