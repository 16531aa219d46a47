-- Immediates as bytes: what stands behind an opcode
-- (WebAssembly Core Specification 3.0, Binary Format, Types and Instructions).
use Rattle.std.specs.Prelude.{◌≡◌, nat_lt, ℕ, zero, suc, pos, negsuc, ◌+◌, ◌-◌, List, [], ◌∷◌, ◌++◌, Option, Some, None}
use Rattle.std.specs.Int.{w32, w64, w128, from_le_bytes, cast_signed}
use Rattle.wasm_code.specs.declared.fault.Cause.{Cause}
use Rattle.wasm_code.specs.declared.fault.Cause.TheVariants.{Truncated, UnknownOpcode, BadInteger, BadImmediate}
use Rattle.wasm_code.specs.declared.table.Kind.{Kind}
use Rattle.wasm_code.specs.declared.table.Kind.TheVariants as kind
use Rattle.wasm_code.specs.declared.immediate.ValType.{ValType}
use Rattle.wasm_code.specs.declared.immediate.ValType.TheVariants.{I32, I64, F32, F64, V128, FuncRef, ExternRef}
use Rattle.wasm_code.specs.declared.immediate.HeapType.{HeapType}
use Rattle.wasm_code.specs.declared.immediate.HeapType.TheVariants.{Abstract}
use Rattle.wasm_code.specs.declared.immediate.AbstractHeapType.TheVariants.{Func, Extern}
use Rattle.wasm_code.specs.declared.immediate.BlockType.{BlockType}
use Rattle.wasm_code.specs.declared.immediate.BlockType.TheVariants.{Empty, Value, FuncType, Reference}
use Rattle.wasm_code.specs.declared.immediate.MemArg.{MemArg}
use Rattle.wasm_code.specs.declared.immediate.Imm.{Imm}
use Rattle.wasm_code.specs.declared.immediate.Imm.TheVariants as imm
use Rattle.wasm_code.specs.Grammar.{IsByte, LacksByte, AreBytes, LacksBytes, IsCode, FailsCode, NoBytes, NeverFails, Never, NamesNothing}
use Rattle.wasm_code.specs.Grammar.{Of, Choose, FailsChosen, Then, FailsThen, Times, FailsTimes}
use Rattle.wasm_code.specs.Number.{SpellsUnsigned, SpellsSigned, FailsUnsigned, FailsSigned}

-- ---- types

-- the byte of a value type
abbrev pub val_type_code : ValType → ℕ
val_type_code I32 = 0x7f
val_type_code I64 = 0x7e
val_type_code F32 = 0x7d
val_type_code F64 = 0x7c
val_type_code V128 = 0x7b
val_type_code FuncRef = 0x70
val_type_code ExternRef = 0x6f

-- the byte of a heap type
abbrev pub heap_type_code : HeapType → ℕ
heap_type_code (Abstract Func) = 0x70
heap_type_code (Abstract Extern) = 0x6f

-- The bytes spell the value type.
abbrev pub SpellsValType : List ℕ → ValType → Type 0
SpellsValType = IsCode val_type_code

-- there is no byte, or the first one is that of none of the seven value types
abbrev pub FailsValType : List ℕ → Cause → Type 0
FailsValType = FailsCode val_type_code

-- The bytes spell the heap type.
abbrev pub SpellsHeapType : List ℕ → HeapType → Type 0
SpellsHeapType = IsCode heap_type_code

-- there is no byte, or the first one is that of neither `func` nor `extern`
abbrev pub FailsHeapType : List ℕ → Cause → Type 0
FailsHeapType = FailsCode heap_type_code

-- The bytes spell the block type: the byte 40, a value type, or a signed number of 33 bits that isn't below zero. (No other type of reference: that is
-- spelled by `SpellsAnyBlockType` of `Other`.)
abbrev pub SpellsBlockType : List ℕ → BlockType → Type 0
SpellsBlockType text Empty = text ≡ 0x40 ∷ []
SpellsBlockType text (Value t) = SpellsValType text t
SpellsBlockType text (FuncType n) = SpellsSigned 33 text (pos n)
SpellsBlockType text Reference = ⊥

-- a number below zero begins the bytes, which spells no block type
pub record IsNoBlockType (bytes : List ℕ) : Type 0 where
  pub n : ℕ
  pub front : List ℕ
  pub back : List ℕ
  pub parts : bytes ≡ front ++ back
  pub number : SpellsSigned 33 front (negsuc n)
  pub none : (t : BlockType) → SpellsBlockType front t → ⊥

-- No block type begins the bytes.
abbrev pub FailsBlockType : List ℕ → Cause → Type 0
FailsBlockType bytes Truncated = FailsSigned 33 bytes Truncated
FailsBlockType bytes UnknownOpcode = ⊥
FailsBlockType bytes BadInteger = FailsSigned 33 bytes BadInteger
FailsBlockType bytes BadImmediate = IsNoBlockType bytes

-- ---- memory arguments

-- an offset
abbrev pub SpellsOffset : ℕ → ℕ → List ℕ → MemArg → Type 0
SpellsOffset align memory = Of (λ offset. record { offset = offset; align = align; memory = memory }) (SpellsUnsigned 64)

-- A number: the exponent of the alignment below 64, or 64 more where the memory's index follows; then the offset.
abbrev pub SpellsMemArg : List ℕ → MemArg → Type 0
SpellsMemArg = Then (SpellsUnsigned 32) (λ n.
    Choose (nat_lt n 64) (SpellsOffset n 0)
    (Choose (nat_lt n 128) (Then (SpellsUnsigned 32) (λ memory. SpellsOffset (n - 64) memory)) Never))

-- No memory argument begins the bytes: one of its numbers fails, or the first one is 128 or more.
abbrev pub FailsMemArg : List ℕ → Cause → Type 0
FailsMemArg = FailsThen (FailsUnsigned 32) (SpellsUnsigned 32) (λ n.
    FailsChosen (nat_lt n 64) (FailsUnsigned 64)
    (FailsChosen (nat_lt n 128) (FailsThen (FailsUnsigned 32) (SpellsUnsigned 32) (λ _. FailsUnsigned 64)) NamesNothing))

-- ---- lists

-- two numbers
abbrev pub SpellsPair : List ℕ → ℕ × ℕ → Type 0
SpellsPair = Then (SpellsUnsigned 32) (λ a. Of (λ b. (a, b)) (SpellsUnsigned 32))

-- the first number fails, or the second one behind it
abbrev pub FailsPair : List ℕ → Cause → Type 0
FailsPair = FailsThen (FailsUnsigned 32) (SpellsUnsigned 32) (λ _. FailsUnsigned 32)

-- a count, and one label more than it counts
abbrev pub SpellsLabels : List ℕ → ℕ → Type 0
SpellsLabels = Then (SpellsUnsigned 32) (λ n. Of (λ _. n) (Times (n + 1) (SpellsUnsigned 32)))

-- the count fails, or one of the labels behind it, the default one included
abbrev pub FailsLabels : List ℕ → Cause → Type 0
FailsLabels = FailsThen (FailsUnsigned 32) (SpellsUnsigned 32) (λ n. FailsTimes (n + 1) (FailsUnsigned 32) (SpellsUnsigned 32))

-- so many value types, of which the first is kept
abbrev pub SpellsFirst : ℕ → List ℕ → Option ValType → Type 0
SpellsFirst zero = NoBytes None
SpellsFirst (suc n) = Then SpellsValType (λ t. Of (λ _. Some t) (Times n SpellsValType))

-- a count, and as many value types, of which the first is kept
abbrev pub SpellsTypes : List ℕ → ℕ × Option ValType → Type 0
SpellsTypes = Then (SpellsUnsigned 32) (λ n. Of (λ first. (n, first)) (SpellsFirst n))

-- the count fails, or one of the value types behind it
abbrev pub FailsTypes : List ℕ → Cause → Type 0
FailsTypes = FailsThen (FailsUnsigned 32) (SpellsUnsigned 32) (λ n. FailsTimes n FailsValType SpellsValType)

-- ---- by kind

-- the count 1, and one value type
abbrev pub SpellsOneType : List ℕ → Imm → Type 0
SpellsOneType text (imm.Val t) = SpellsTypes text (1, Some t)
SpellsOneType text _ = ⊥

-- The bytes spell the immediate, which is of the kind.
abbrev pub SpellsImm : Kind → List ℕ → Imm → Type 0
SpellsImm kind.Nothing = NoBytes imm.Nothing
SpellsImm kind.Index = Of (λ n. imm.Index n) (SpellsUnsigned 32)
SpellsImm kind.Pair = Of (λ p. imm.Pair p.0 p.1) SpellsPair
SpellsImm kind.Mem = Of (λ m. imm.Mem m) SpellsMemArg
SpellsImm kind.MemLane = Then SpellsMemArg (λ m. Of (λ lane. imm.MemLane m lane) IsByte)
SpellsImm kind.Lane = Of (λ lane. imm.Lane lane) IsByte
SpellsImm kind.I32 = Of (λ z. imm.I32 z) (SpellsSigned 32)
SpellsImm kind.I64 = Of (λ z. imm.I64 z) (SpellsSigned 64)
SpellsImm kind.F32 = Of (λ bytes. imm.F32 (from_le_bytes w32 bytes)) (AreBytes 4)
SpellsImm kind.F64 = Of (λ bytes. imm.F64 (from_le_bytes w64 bytes)) (AreBytes 8)
SpellsImm kind.V128 = Of (λ bytes. imm.V128 (cast_signed w128 (from_le_bytes w128 bytes))) (AreBytes 16)
SpellsImm kind.Shuffle = Of (λ lanes. imm.Shuffle lanes) (AreBytes 16)
SpellsImm kind.Heap = Of (λ t. imm.Heap t) SpellsHeapType
SpellsImm kind.Val = SpellsOneType

-- No immediate of the kind begins the bytes. For `Val`: no count and as many value types do, whatever the count is, since
-- any count but 1 makes an operator that is no row.
abbrev pub FailsImm : Kind → List ℕ → Cause → Type 0
FailsImm kind.Nothing = NeverFails
FailsImm kind.Index = FailsUnsigned 32
FailsImm kind.Pair = FailsPair
FailsImm kind.Mem = FailsMemArg
FailsImm kind.MemLane = FailsThen FailsMemArg SpellsMemArg (λ _. LacksByte)
FailsImm kind.Lane = LacksByte
FailsImm kind.I32 = FailsSigned 32
FailsImm kind.I64 = FailsSigned 64
FailsImm kind.F32 = LacksBytes 4
FailsImm kind.F64 = LacksBytes 8
FailsImm kind.V128 = LacksBytes 16
FailsImm kind.Shuffle = LacksBytes 16
FailsImm kind.Heap = FailsHeapType
FailsImm kind.Val = FailsTypes
