-- Reading as functions (this project): for proofs, and for programs that answer what reading answers.
-- The contracts go by the grammar; `laws` joins the two.
use Rattle.std.specs.Prelude.{◌≡◌, ◌≢◌, ℕ, ℤ, pos, negsuc, zero, suc, ◌+◌, ◌-◌, ◌^◌, ◌==◌, nat_lt, if◌then◌else◌, Bool, true, false, List}
use Rattle.std.specs.Prelude.{[], ◌∷◌, length, take, drop, Option, Some, None, Result, Ok, Err}
use Rattle.wasm_code.specs.declared.fault.Cause.{Cause}
use Rattle.wasm_code.specs.declared.fault.Cause.TheVariants.{Truncated, UnknownOpcode, BadInteger, BadImmediate}
use Rattle.wasm_code.specs.declared.fault.ReadKind.{ReadKind}
use Rattle.wasm_code.specs.declared.fault.ReadKind.TheVariants as kinds
use Rattle.wasm_code.specs.declared.table.Opcode.{Opcode}
use Rattle.wasm_code.specs.declared.table.Opcode.TheVariants.{Byte, Fc, Fd}
use Rattle.wasm_code.specs.declared.table.Kind.{Kind}
use Rattle.wasm_code.specs.declared.table.Kind.TheVariants as kind
use Rattle.wasm_code.specs.declared.table.Row.{Row}
use Rattle.std.specs.Int.{w32, w64, w128, from_le_bytes, cast_signed}
use Rattle.wasm_code.specs.declared.immediate.ValType.{ValType}
use Rattle.wasm_code.specs.declared.immediate.ValType.TheVariants.{I32, I64, F32, F64, V128, FuncRef, ExternRef}
use Rattle.wasm_code.specs.declared.immediate.HeapType.{HeapType}
use Rattle.wasm_code.specs.declared.immediate.HeapType.TheVariants.{Abstract}
use Rattle.wasm_code.specs.declared.immediate.AbstractHeapType.TheVariants.{Func, Extern}
use Rattle.wasm_code.specs.declared.immediate.BlockType.{BlockType}
use Rattle.wasm_code.specs.declared.immediate.BlockType.TheVariants.{Empty, Value, FuncType}
use Rattle.wasm_code.specs.declared.immediate.MemArg.{MemArg}
use Rattle.wasm_code.specs.declared.immediate.Imm.{Imm}
use Rattle.wasm_code.specs.declared.immediate.Imm.TheVariants as imm
use Rattle.wasm_code.specs.declared.operator.Operator.{Operator}
use Rattle.wasm_code.specs.declared.operator.Operator.TheVariants as op
use Rattle.wasm_code.specs.declared.other.Other.{Other}
use Rattle.wasm_code.specs.declared.other.Other.TheVariants as other
use Rattle.wasm_code.specs.declared.other.Shape.{Shape}
use Rattle.wasm_code.specs.declared.other.Shape.TheVariants as shape
use Rattle.wasm_code.specs.declared.parse.Form.{Form}
use Rattle.wasm_code.specs.declared.parse.Form.TheVariants as form
use Rattle.wasm_code.specs.Number.{value, signed_value, most_bytes}
use Rattle.wasm_code.specs.Other.{is_abstract, is_type, is_reference_type_byte, shape_of}
use Rattle.wasm_code.specs.Operator.{other_operator, cause_of}
use Rattle.wasm_code.specs.Body.{is_end, kind_of}
use Rattle.wasm_code.specs.Table.{row_at}
use Rattle.wasm_code.specs.Finding.{row_with}

-- what is read first decides how reading goes on; its fault is that of both
infixl 10 ◌>>=◌
abbrev pub ◌>>=◌ : {A B : Type 0} → Result A Cause → (A → Result B Cause) → Result B Cause
(Ok x) >>= f = f x
(Err e) >>= f = Err e

-- what a call answered, seen by view, is what reading gives
abbrev pub Gives : {X Y : Type 0} → (X → Y) → Result X Cause → Result Y Cause → Type 0
Gives view (Ok x) read = read ≡ Ok (view x)
Gives view (Err e) read = read ≡ Err e

-- the first byte, and what follows it
abbrev pub byte_at : List ℕ → Result (ℕ × List ℕ) Cause
byte_at [] = Err Truncated
byte_at (b ∷ rest) = Ok (b, rest)

-- ---- numbers

-- at most so many bytes up to the first below 128, that one included, and what follows them
unfoldable pub group_at : ℕ → List ℕ → Result (List ℕ × List ℕ) Cause
group_at zero bytes = Err BadInteger
group_at (suc most) [] = Err Truncated
group_at (suc most) (b ∷ bytes) = if nat_lt b 128 then Ok (b ∷ [], bytes) else (group_at most bytes >>= λ g. Ok (b ∷ g.0, g.1))

-- a group whose value is below the limit
unfoldable pub below_at : (limit most : ℕ) → List ℕ → Result (ℕ × List ℕ) Cause
below_at limit most bytes = do
  g ← group_at most bytes
  if nat_lt (value g.0) limit then Ok (value g.0, g.1) else Err BadInteger

-- from -half to half - 1
abbrev pub fits_half : ℕ → ℤ → Bool
fits_half half (pos n) = nat_lt n half
fits_half half (negsuc n) = nat_lt n half

-- a group whose signed value lies from -half to half - 1
unfoldable pub within_at : (half most : ℕ) → List ℕ → Result (ℤ × List ℕ) Cause
within_at half most bytes = do
  g ← group_at most bytes
  if fits_half half (signed_value g.0) then Ok (signed_value g.0, g.1) else Err BadInteger

-- an unsigned number of so many bits; one that is too long or too large is a bad integer
abbrev pub unsigned_at : (bits : ℕ) → List ℕ → Result (ℕ × List ℕ) Cause
unsigned_at bits bytes = below_at (2 ^ bits) (most_bytes bits) bytes

-- a signed number of so many bits, of which the sign is one; one that is too long or out of range is a bad integer
abbrev pub signed_at : (bits : ℕ) → List ℕ → Result (ℤ × List ℕ) Cause
signed_at bits bytes = within_at (2 ^ (bits - 1)) (most_bytes bits) bytes

-- ---- operators

-- an opcode, whether or not any operator has it
unfoldable pub opcode_at : List ℕ → Result (Opcode × List ℕ) Cause
opcode_at bytes = byte_at bytes >>= λ b.
    if b.0 == 0xfc then (unsigned_at 32 b.1 >>= λ n. Ok (Fc n.0, n.1))
    else if b.0 == 0xfd then (unsigned_at 32 b.1 >>= λ n. Ok (Fd n.0, n.1))
    else Ok (Byte b.0, b.1)

-- so many bytes
abbrev pub bytes_at : ℕ → List ℕ → Result (List ℕ × List ℕ) Cause
bytes_at n bytes = if nat_lt (length bytes) n then Err Truncated else Ok (take n bytes, drop n bytes)

-- what is named, or else no immediate
abbrev pub named_at : {A : Type 0} → Option A → List ℕ → Result (A × List ℕ) Cause
named_at None rest = Err BadImmediate
named_at (Some x) rest = Ok (x, rest)

-- the value type that has this byte
unfoldable pub val_type_of : ℕ → Option ValType
val_type_of b = if b == 0x7f then Some I32 else if b == 0x7e then Some I64 else if b == 0x7d then Some F32 else if b == 0x7c then Some F64 else if b
    == 0x7b then Some V128 else if b == 0x70 then Some FuncRef else if b == 0x6f then Some ExternRef else None

-- the heap type that has this byte
unfoldable pub heap_type_of : ℕ → Option HeapType
heap_type_of b = if b == 0x70 then Some (Abstract Func) else if b == 0x6f then Some (Abstract Extern) else None

-- a value type in one byte; a byte that stands for none is a bad immediate
unfoldable pub val_type_at : List ℕ → Result (ValType × List ℕ) Cause
val_type_at bytes = byte_at bytes >>= λ b. named_at (val_type_of b.0) b.1

-- `func` or `extern` in one byte; another byte is a bad immediate
unfoldable pub heap_type_at : List ℕ → Result (HeapType × List ℕ) Cause
heap_type_at bytes = byte_at bytes >>= λ b. named_at (heap_type_of b.0) b.1

-- the block type that a number of 33 bits names: the index of a function type; below zero there is none
abbrev pub func_type_at : ℤ → List ℕ → Result (BlockType × List ℕ) Cause
func_type_at (pos n) rest = Ok (FuncType n, rest)
func_type_at (negsuc n) rest = Err BadImmediate

-- the block type of the value type that was found, with `rest` behind it; else the bytes begin with a type's index
unfoldable pub block_type_of : Option ValType → List ℕ → List ℕ → Result (BlockType × List ℕ) Cause
block_type_of (Some t) bytes rest = Ok (Value t, rest)
block_type_of None bytes rest = signed_at 33 bytes >>= λ z. func_type_at z.0 z.1

-- a block type: the byte 40 for none, a value type, or the index of a function type
unfoldable pub block_type_at : List ℕ → Result (BlockType × List ℕ) Cause
block_type_at bytes = byte_at bytes >>= λ b. if b.0 == 0x40 then Ok (Empty, b.1) else block_type_of (val_type_of b.0) bytes b.1

-- the offset of a memory argument, whose alignment and memory stand before it
unfoldable pub offset_at : ℕ → ℕ → List ℕ → Result (MemArg × List ℕ) Cause
offset_at align memory bytes = unsigned_at 64 bytes >>= λ offset. Ok (record { offset = offset.0; align = align; memory = memory }, offset.1)

-- a memory argument; its first number is 64 more where the index of a memory follows, and never 128 or more
unfoldable pub memarg_at : List ℕ → Result (MemArg × List ℕ) Cause
memarg_at bytes = unsigned_at 32 bytes >>= λ n.
    if nat_lt n.0 64 then offset_at n.0 0 n.1
    else if nat_lt n.0 128 then (unsigned_at 32 n.1 >>= λ memory. offset_at (n.0 - 64) memory.0 memory.1)
    else Err BadImmediate

-- two indices, each of 32 bits
unfoldable pub pair_at : List ℕ → Result ((ℕ × ℕ) × List ℕ) Cause
pair_at bytes = unsigned_at 32 bytes >>= λ a. unsigned_at 32 a.1 >>= λ b. Ok ((a.0, b.0), b.1)

-- so many values one after another, which aren't kept
unfoldable pub times_at : {A : Type 0} → ℕ → (List ℕ → Result (A × List ℕ) Cause) → List ℕ → Result (Unit {0} × List ℕ) Cause
times_at zero at bytes = Ok (tt, bytes)
times_at (suc n) at bytes = at bytes >>= λ x. times_at n at x.1

-- the labels of a `br_table`, of which the count alone is kept; the default one, not counted, stands behind them
unfoldable pub labels_at : List ℕ → Result (ℕ × List ℕ) Cause
labels_at bytes = unsigned_at 32 bytes >>= λ n. times_at (n.0 + 1) (unsigned_at 32) n.1 >>= λ rest. Ok (n.0, rest.1)

-- so many value types, of which the first is kept, where there is one
unfoldable pub first_at : ℕ → List ℕ → Result (Option ValType × List ℕ) Cause
first_at n bytes = if n == 0 then Ok (None, bytes) else (val_type_at bytes >>= λ t. times_at (n - 1) val_type_at t.1 >>= λ rest. Ok (Some t.0, rest.1))

-- the types of a select: how many, and the first, where there is one
unfoldable pub types_at : List ℕ → Result ((ℕ × Option ValType) × List ℕ) Cause
types_at bytes = unsigned_at 32 bytes >>= λ n. first_at n.0 n.1 >>= λ first. Ok ((n.0, first.0), first.1)

-- the immediate of a kind (`Val` stands behind a count: `types_at`)
unfoldable pub imm_at : Kind → List ℕ → Result (Imm × List ℕ) Cause
imm_at kind.Nothing bytes = Ok (imm.Nothing, bytes)
imm_at kind.Index bytes = unsigned_at 32 bytes >>= λ n. Ok (imm.Index n.0, n.1)
imm_at kind.Pair bytes = pair_at bytes >>= λ p. Ok (imm.Pair p.0.0 p.0.1, p.1)
imm_at kind.Mem bytes = memarg_at bytes >>= λ m. Ok (imm.Mem m.0, m.1)
imm_at kind.MemLane bytes = memarg_at bytes >>= λ m. byte_at m.1 >>= λ lane. Ok (imm.MemLane m.0 lane.0, lane.1)
imm_at kind.Lane bytes = byte_at bytes >>= λ lane. Ok (imm.Lane lane.0, lane.1)
imm_at kind.I32 bytes = signed_at 32 bytes >>= λ z. Ok (imm.I32 z.0, z.1)
imm_at kind.I64 bytes = signed_at 64 bytes >>= λ z. Ok (imm.I64 z.0, z.1)
imm_at kind.F32 bytes = bytes_at 4 bytes >>= λ b. Ok (imm.F32 (from_le_bytes w32 b.0), b.1)
imm_at kind.F64 bytes = bytes_at 8 bytes >>= λ b. Ok (imm.F64 (from_le_bytes w64 b.0), b.1)
imm_at kind.V128 bytes = bytes_at 16 bytes >>= λ b. Ok (imm.V128 (cast_signed w128 (from_le_bytes w128 b.0)), b.1)
imm_at kind.Shuffle bytes = bytes_at 16 bytes >>= λ b. Ok (imm.Shuffle b.0, b.1)
imm_at kind.Heap bytes = heap_type_at bytes >>= λ t. Ok (imm.Heap t.0, t.1)
imm_at kind.Val bytes = Err BadImmediate

-- the instruction of the row that has that number and that kind
abbrev pub instr_at : ℕ → Kind → List ℕ → Result (Operator × List ℕ) Cause
instr_at number kind bytes = imm_at kind bytes >>= λ i. Ok (op.Instr (record { row = number; imm = i.0 }), i.1)

-- the form of the row that was found, with its number
abbrev pub row_form : Option (ℕ × Row) → Option Form
row_form None = None
row_form (Some found) = Some (form.Row found.0 found.1)

-- the form of an opcode of one byte: that of an operator that is no row of the table, or the row's
abbrev pub byte_form : ℕ → Option Form
byte_form b =
    if b == 0x00 then Some form.Unreachable else if b == 0x02 then Some form.Block else if b == 0x03 then Some form.Loop
    else if b == 0x04 then Some form.If else if b == 0x05 then Some form.Else else if b == 0x0b then Some form.End
    else if b == 0x0c then Some form.Br else if b == 0x0d then Some form.BrIf else if b == 0x0e then Some form.BrTable
    else if b == 0x0f then Some form.Return else if b == 0x11 then Some form.CallIndirect else if b == 0x1c then Some form.TypedSelect
    else row_form (row_with (Byte b))

-- how what stands behind the opcode is read; none where no operator has the opcode
unfoldable pub form_of : Opcode → Option Form
form_of (Byte b) = byte_form b
form_of (Fc n) = row_form (row_with (Fc n))
form_of (Fd n) = row_form (row_with (Fd n))

-- a row's form has a row of the table, and no value type behind it
abbrev pub IsForm : Form → Type 0
IsForm (form.Row number row) = (row_at number ≡ Some row) × (row.kind ≢ kind.Val)
IsForm _ = Unit {0}

-- one value type makes an instruction; any other number of them is an operator of its own
abbrev pub select_of : ℕ → Option ValType → Operator
select_of count None = op.TypedSelect count None
select_of count (Some t) = if count == 1 then op.Instr (record { row = 445; imm = imm.Val t }) else op.TypedSelect count (Some t)

-- the operator of a form, by what stands behind its opcode
unfoldable pub behind_at : Form → List ℕ → Result (Operator × List ℕ) Cause
behind_at (form.Row number row) bytes = instr_at number row.kind bytes
behind_at form.Unreachable bytes = Ok (op.Unreachable, bytes)
behind_at form.Block bytes = block_type_at bytes >>= λ t. Ok (op.Block t.0, t.1)
behind_at form.Loop bytes = block_type_at bytes >>= λ t. Ok (op.Loop t.0, t.1)
behind_at form.If bytes = block_type_at bytes >>= λ t. Ok (op.If t.0, t.1)
behind_at form.Else bytes = Ok (op.Else, bytes)
behind_at form.End bytes = Ok (op.End, bytes)
behind_at form.Br bytes = unsigned_at 32 bytes >>= λ n. Ok (op.Br n.0, n.1)
behind_at form.BrIf bytes = unsigned_at 32 bytes >>= λ n. Ok (op.BrIf n.0, n.1)
behind_at form.BrTable bytes = labels_at bytes >>= λ n. Ok (op.BrTable n.0, n.1)
behind_at form.Return bytes = Ok (op.Return, bytes)
behind_at form.CallIndirect bytes = pair_at bytes >>= λ p. Ok (op.CallIndirect p.0.0 p.0.1, p.1)
behind_at form.TypedSelect bytes = types_at bytes >>= λ t. Ok (select_of t.0.0 t.0.1, t.1)

-- the same where there is a form; else the opcode is unknown
abbrev pub formed_at : Option Form → List ℕ → Result (Operator × List ℕ) Cause
formed_at None bytes = Err UnknownOpcode
formed_at (Some f) bytes = behind_at f bytes

-- one whole operator, and what follows it
unfoldable pub operator_at : List ℕ → Result (Operator × List ℕ) Cause
operator_at bytes = opcode_at bytes >>= λ o. formed_at (form_of o.0) o.1

-- ---- other operators

-- a number that isn't below zero; one below names no type
abbrev pub not_below_at : ℤ → List ℕ → Result (Unit {0} × List ℕ) Cause
not_below_at (pos n) rest = Ok (tt, rest)
not_below_at (negsuc n) rest = Err BadImmediate

-- the index of a type
unfoldable pub type_index_at : List ℕ → Result (Unit {0} × List ℕ) Cause
type_index_at bytes = signed_at 33 bytes >>= λ z. not_below_at z.0 z.1

-- a heap type: an abstract one in one byte, or else an index
unfoldable pub any_heap_type_at : List ℕ → Result (Unit {0} × List ℕ) Cause
any_heap_type_at bytes = byte_at bytes >>= λ b. if is_abstract b.0 then Ok (tt, b.1) else type_index_at bytes

-- a value type: in one byte, or with its heap type
unfoldable pub any_val_type_at : List ℕ → Result (Unit {0} × List ℕ) Cause
any_val_type_at bytes = byte_at bytes >>= λ b.
    if is_type b.0 then Ok (tt, b.1) else if is_reference_type_byte b.0 then any_heap_type_at b.1 else Err BadImmediate

-- a block type: the byte 40, a value type, or else an index
unfoldable pub any_block_type_at : List ℕ → Result (Unit {0} × List ℕ) Cause
any_block_type_at bytes = byte_at bytes >>= λ b.
    if b.0 == 0x40 then Ok (tt, b.1) else if is_type b.0 then Ok (tt, b.1)
    else if is_reference_type_byte b.0 then any_heap_type_at b.1 else type_index_at bytes

-- a count, and as many value types
unfoldable pub any_types_at : List ℕ → Result (Unit {0} × List ℕ) Cause
any_types_at bytes = unsigned_at 32 bytes >>= λ n. times_at n.0 any_val_type_at n.1

-- a catch clause, by its first byte
unfoldable pub catch_at : List ℕ → Result (Unit {0} × List ℕ) Cause
catch_at bytes = byte_at bytes >>= λ b.
    if nat_lt b.0 2 then (pair_at b.1 >>= λ p. Ok (tt, p.1))
    else if nat_lt b.0 4 then (unsigned_at 32 b.1 >>= λ n. Ok (tt, n.1))
    else Err BadImmediate

-- a block type, a count, and as many catch clauses
unfoldable pub catches_at : List ℕ → Result (Unit {0} × List ℕ) Cause
catches_at bytes = any_block_type_at bytes >>= λ t. unsigned_at 32 t.1 >>= λ n. times_at n.0 catch_at n.1

-- two flags, a label, and two heap types
unfoldable pub cast_at : List ℕ → Result (Unit {0} × List ℕ) Cause
cast_at bytes = byte_at bytes >>= λ b.
    if nat_lt b.0 4 then (unsigned_at 32 b.1 >>= λ n. any_heap_type_at n.1 >>= λ t. any_heap_type_at t.1)
    else Err BadImmediate

-- the byte 0
unfoldable pub zero_at : List ℕ → Result (Unit {0} × List ℕ) Cause
zero_at bytes = byte_at bytes >>= λ b. if b.0 == 0 then Ok (tt, b.1) else Err BadImmediate

-- what has that shape
unfoldable pub shape_at : Shape → List ℕ → Result (Unit {0} × List ℕ) Cause
shape_at shape.Nothing bytes = Ok (tt, bytes)
shape_at shape.Index bytes = unsigned_at 32 bytes >>= λ n. Ok (tt, n.1)
shape_at shape.Pair bytes = pair_at bytes >>= λ p. Ok (tt, p.1)
shape_at shape.Mem bytes = memarg_at bytes >>= λ m. Ok (tt, m.1)
shape_at shape.Zero bytes = zero_at bytes
shape_at shape.Heap bytes = any_heap_type_at bytes
shape_at shape.Types bytes = any_types_at bytes
shape_at shape.Block bytes = any_block_type_at bytes
shape_at shape.Catches bytes = catches_at bytes
shape_at shape.Cast bytes = cast_at bytes

-- an opcode, whether or not it has a shape
unfoldable pub other_opcode_at : List ℕ → Result (Other × List ℕ) Cause
other_opcode_at bytes = byte_at bytes >>= λ b.
    if b.0 == 0xfb then (unsigned_at 32 b.1 >>= λ n. Ok (other.Fb n.0, n.1))
    else if b.0 == 0xfe then (unsigned_at 32 b.1 >>= λ n. Ok (other.Fe n.0, n.1))
    else Ok (other.Byte b.0, b.1)

-- what stands behind an opcode of that shape; an opcode without a shape is unknown
abbrev pub shaped_at : Option Shape → Other → List ℕ → Result (Other × List ℕ) Cause
shaped_at None o bytes = Err UnknownOpcode
shaped_at (Some s) o bytes = shape_at s bytes >>= λ rest. Ok (o, rest.1)

-- one operator by its opcode and its shape, and what follows it
unfoldable pub other_at : List ℕ → Result (Other × List ℕ) Cause
other_at bytes = other_opcode_at bytes >>= λ o. shaped_at (shape_of o.0) o.0 o.1

-- a known operator where there is one, or else another one
abbrev pub either_at : Result (Operator × List ℕ) Cause → Result (Other × List ℕ) Cause → Result (Operator × List ℕ) Cause
either_at (Ok x) r = Ok x
either_at (Err known) (Ok o) = Ok (other_operator o.0, o.1)
either_at (Err known) (Err cause) = Err (cause_of known cause)

-- one whole operator, known or not, and what follows it
unfoldable pub any_at : List ℕ → Result (Operator × List ℕ) Cause
any_at bytes = either_at (operator_at bytes) (other_at bytes)

-- one whole operator that is read, and what follows it
abbrev pub next_at : (any : Bool) → List ℕ → Result (Operator × List ℕ) Cause
next_at true bytes = any_at bytes
next_at false bytes = operator_at bytes

-- ---- bodies

-- the operators with their offsets, or the kind of the first fault and its offset
abbrev pub Read : Type 0
Read = Result (List (Operator × ℕ)) (ReadKind × ℕ)

-- one operator more before those that were read; a fault behind it stays the answer
abbrev pub and_first : Operator × ℕ → Read → Read
and_first x (Ok xs) = Ok (x ∷ xs)
and_first x (Err e) = Err e

-- no more operators, or else the fault that the last one isn't `end`, at the offset behind the bytes
abbrev pub at_end : Bool → ℕ → Read
at_end true to = Ok []
at_end false to = Err (kinds.NoEnd, to)

-- what an operator that was read asks for, or its fault at the offset
abbrev pub after : (Operator → List ℕ → Read) → ℕ → Result (Operator × List ℕ) Cause → Read
after next offset (Ok x) = next x.0 x.1
after next offset (Err cause) = Err (kind_of cause, offset)

-- At most `most` operators, of bytes that end at the offset `to`; `ended`: the last one before them was `end`.
unfoldable pub operators_at : (any : Bool) (most to : ℕ) (ended : Bool) → List ℕ → Read
operators_at any most to ended [] = at_end ended to
operators_at any zero to ended (b ∷ bytes) = at_end ended to
operators_at any (suc most) to ended (b ∷ bytes) = after (λ x rest. and_first (x, to - length (b ∷ bytes)) (operators_at any most to (is_end x) rest))
    (to - length (b ∷ bytes)) (next_at any (b ∷ bytes))

-- what reading known operators, or any, answers; the first byte has the offset `start` (each operator has a byte or more)
abbrev pub read_at : (any : Bool) (start : ℕ) → List ℕ → Read
read_at any start text = operators_at any (length text) (start + length text) false text

-- What reading a body answers, whose first byte has the offset `start`.
unfoldable pub body_at : (start : ℕ) → List ℕ → Read
body_at start text = read_at false start text

-- The same where any operators are read.
unfoldable pub any_code_at : (start : ℕ) → List ℕ → Read
any_code_at start text = read_at true start text
