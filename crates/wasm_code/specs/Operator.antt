-- Operators as bytes (WebAssembly Core Specification 3.0, Binary Format, Instructions), and which of them end a basic block
-- (this project).
use Rattle.std.specs.Prelude.{◌≡◌, ◌≢◌, ◌⊎◌, ℕ, ◌==◌, List, [], ◌∷◌, Bool, true, false, if◌then◌else◌, Some}
use Rattle.wasm_code.specs.declared.fault.Cause.{Cause}
use Rattle.wasm_code.specs.declared.fault.Cause.TheVariants.{UnknownOpcode}
use Rattle.wasm_code.specs.declared.table.Opcode.{Opcode}
use Rattle.wasm_code.specs.declared.table.Opcode.TheVariants.{Byte, Fc, Fd}
use Rattle.wasm_code.specs.declared.table.Row.{Row}
use Rattle.wasm_code.specs.declared.immediate.BlockType.{BlockType}
use Rattle.wasm_code.specs.declared.immediate.BlockType.TheVariants.{Reference}
use Rattle.wasm_code.specs.declared.other.Other.{Other}
use Rattle.wasm_code.specs.declared.other.Other.TheVariants as others
use Rattle.wasm_code.specs.declared.operator.Operator.{Operator}
use Rattle.wasm_code.specs.declared.operator.Operator.TheVariants as op
use Rattle.wasm_code.specs.Grammar.{IsByte, LacksByte, NoBytes, NeverFails, Of, Choose, FailsChosen, Then, FailsThen}
use Rattle.wasm_code.specs.Other.{SpellsOther, FailsOther}
use Rattle.wasm_code.specs.Number.{SpellsUnsigned, FailsUnsigned}
use Rattle.wasm_code.specs.Immediate.{SpellsImm, FailsImm, SpellsBlockType, FailsBlockType, SpellsPair, FailsPair, SpellsLabels, FailsLabels, SpellsTypes}
use Rattle.wasm_code.specs.Table.{row_at, HasOpcode}
use Rattle.wasm_code.specs.Instruction.{Instruction}

-- an operator that ends a basic block
abbrev pub is_delimiter : Operator → Bool
is_delimiter (op.If t) = true
is_delimiter op.Else = true
is_delimiter op.End = true
is_delimiter (op.Block t) = true
is_delimiter (op.Loop t) = true
is_delimiter (op.Br label) = true
is_delimiter (op.BrIf label) = true
is_delimiter op.Return = true
is_delimiter op.Unreachable = true
is_delimiter (op.BrTable count) = true
is_delimiter (op.Other o) = true
is_delimiter _ = false

-- ---- opcodes

-- a byte, and behind FC and FD a number
abbrev pub SpellsOpcode : List ℕ → Opcode → Type 0
SpellsOpcode = Then IsByte (λ b.
    Choose (b == 0xfc) (Of (λ n. Fc n) (SpellsUnsigned 32))
    (Choose (b == 0xfd) (Of (λ n. Fd n) (SpellsUnsigned 32)) (NoBytes (Byte b))))

-- there is no byte, or the number behind FC or FD fails; whether anything has the opcode isn't asked
abbrev pub FailsOpcode : List ℕ → Cause → Type 0
FailsOpcode = FailsThen LacksByte IsByte (λ b.
    FailsChosen (b == 0xfc) (FailsUnsigned 32)
    (FailsChosen (b == 0xfd) (FailsUnsigned 32) NeverFails))

-- ---- what stands behind an opcode

-- the row has that opcode, and an immediate of its kind follows
pub record SpellsRow (o : Opcode) (text : List ℕ) (i : Instruction) : Type 0 where
  pub row : Row
  pub at : row_at i.row ≡ Some row
  pub opcode : row.opcode ≡ o
  pub imm : SpellsImm row.kind text i.imm

-- an instruction by its row; the control operators by their own opcodes; no other one
abbrev pub SpellsBehind : Opcode → List ℕ → Operator → Type 0
SpellsBehind o text (op.Instr i) = SpellsRow o text i
SpellsBehind o text op.Unreachable = (o ≡ Byte 0x00) × (text ≡ [])
SpellsBehind o text (op.Block t) = (o ≡ Byte 0x02) × SpellsBlockType text t
SpellsBehind o text (op.Loop t) = (o ≡ Byte 0x03) × SpellsBlockType text t
SpellsBehind o text (op.If t) = (o ≡ Byte 0x04) × SpellsBlockType text t
SpellsBehind o text op.Else = (o ≡ Byte 0x05) × (text ≡ [])
SpellsBehind o text op.End = (o ≡ Byte 0x0b) × (text ≡ [])
SpellsBehind o text (op.Br label) = (o ≡ Byte 0x0c) × SpellsUnsigned 32 text label
SpellsBehind o text (op.BrIf label) = (o ≡ Byte 0x0d) × SpellsUnsigned 32 text label
SpellsBehind o text (op.BrTable count) = (o ≡ Byte 0x0e) × SpellsLabels text count
SpellsBehind o text op.Return = (o ≡ Byte 0x0f) × (text ≡ [])
SpellsBehind o text (op.CallIndirect type table) = (o ≡ Byte 0x11) × SpellsPair text (type, table)
SpellsBehind o text (op.TypedSelect count first) = (o ≡ Byte 0x1c) × (count ≢ 1) × SpellsTypes text (count, first)
SpellsBehind o text (op.Other other) = ⊥

-- ---- faults

-- a row has that opcode, and its immediate fails
pub record FailsRow (o : Opcode) (bytes : List ℕ) (cause : Cause) : Type 0 where
  pub number : ℕ
  pub row : Row
  pub at : row_at number ≡ Some row
  pub opcode : row.opcode ≡ o
  pub imm : FailsImm row.kind bytes cause

-- the opcode is one of these bytes
abbrev pub IsOneOf : Opcode → List ℕ → Type 0
IsOneOf o [] = ⊥
IsOneOf o (b ∷ bytes) = (o ≡ Byte b) ⊎ IsOneOf o bytes

-- the opcode is that of an operator that is no row of the table, and its immediate fails (a select with value types, however
-- many, fails as row 445 does)
abbrev pub FailsControl : Opcode → List ℕ → Cause → Type 0
FailsControl o bytes cause =
    (IsOneOf o (0x02 ∷ 0x03 ∷ 0x04 ∷ []) × FailsBlockType bytes cause)
    ⊎ (IsOneOf o (0x0c ∷ 0x0d ∷ []) × FailsUnsigned 32 bytes cause)
    ⊎ (IsOneOf o (0x0e ∷ []) × FailsLabels bytes cause)
    ⊎ (IsOneOf o (0x11 ∷ []) × FailsPair bytes cause)

-- no row has that opcode, and no other operator
abbrev pub IsUnknown : Opcode → Type 0
IsUnknown o = ((r : ℕ) → HasOpcode r o → ⊥) × (IsOneOf o (0x00 ∷ 0x02 ∷ 0x03 ∷ 0x04 ∷ 0x05 ∷ 0x0b ∷ 0x0c ∷ 0x0d ∷ 0x0e ∷ 0x0f ∷ 0x11 ∷ []) → ⊥)

-- nothing has the opcode, or what stands behind it fails
abbrev pub FailsBehindOpcode : Opcode → List ℕ → Cause → Type 0
FailsBehindOpcode o bytes cause = (IsUnknown o × (cause ≡ UnknownOpcode)) ⊎ FailsRow o bytes cause ⊎ FailsControl o bytes cause

-- ---- operators

-- The bytes spell the operator: its opcode, and what stands behind it.
abbrev pub Spells : List ℕ → Operator → Type 0
Spells = Then SpellsOpcode SpellsBehind

-- No operator begins the bytes, for that cause.
abbrev pub Fails : List ℕ → Cause → Type 0
Fails = FailsThen FailsOpcode SpellsOpcode FailsBehindOpcode

-- ---- any operator

-- the block gives no reference of another type
abbrev pub is_known_type : BlockType → Bool
is_known_type Reference = false
is_known_type _ = true

-- an instruction of the table, or a control operator whose type is known
abbrev pub is_known : Operator → Bool
is_known (op.Other o) = false
is_known (op.Block t) = is_known_type t
is_known (op.Loop t) = is_known_type t
is_known (op.If t) = is_known_type t
is_known _ = true

-- the operator that another opcode stands for: a block, a loop or a conditional that gives a reference, or one of which the opcode alone is kept
abbrev pub other_operator : Other → Operator
other_operator (others.Byte b) = if b == 0x02 then op.Block Reference else if b == 0x03 then op.Loop Reference else if b == 0x04 then op.If Reference
    else op.Other (others.Byte b)
other_operator o = op.Other o

-- the bytes spell no known operator, but another one
pub record SpellsUnknown (text : List ℕ) (x : Operator) : Type 0 where
  pub other : Other
  pub spells : SpellsOther text other
  pub is : other_operator other ≡ x
  pub none : (y : Operator) → Spells text y → ⊥

-- the one or the other
abbrev pub SpellsBy : (known : Bool) → List ℕ → Operator → Type 0
SpellsBy true = Spells
SpellsBy false = SpellsUnknown

-- The bytes spell the operator: a known one, or, where they spell none of these, another one.
abbrev pub SpellsAny : List ℕ → Operator → Type 0
SpellsAny text x = SpellsBy (is_known x) text x

-- of the causes why neither a known operator nor another one begins the bytes, the one that is told: that of the others, if they have the opcode
abbrev pub cause_of : (known other : Cause) → Cause
cause_of known UnknownOpcode = known
cause_of known other = other

-- No operator begins the bytes, for that cause.
pub record FailsAny (bytes : List ℕ) (cause : Cause) : Type 0 where
  pub known : Cause
  pub other : Cause
  pub fails_known : Fails bytes known
  pub fails_other : FailsOther bytes other
  pub is : cause ≡ cause_of known other
