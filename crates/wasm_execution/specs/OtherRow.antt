-- The instructions that are no integer rows: what they take and give, by their opcodes, and whether they may trap or change anything
-- (WebAssembly Core Specification 3.0, Validation, Instructions, and Execution, Instructions; the results are those of the instruction table).
use Rattle.std.specs.Prelude.{ℕ, Bool, true, false, ◌==◌, ◌&&◌, ◌||◌, nat_lt, nat_le, if◌then◌else◌, List, [], ◌∷◌, map, slice_get, Option}
use Rattle.std.specs.Prelude.{Some, None, option_map, option_and_then}
use Rattle.wasm_code.specs.Instruction.{Instruction}
use Rattle.wasm_code.specs.Table.{row_at, opcode_in}
use Rattle.wasm_code.specs.declared.immediate.AbstractHeapType.TheVariants as heap
use Rattle.wasm_code.specs.declared.immediate.HeapType.{HeapType}
use Rattle.wasm_code.specs.declared.immediate.HeapType.TheVariants.{Abstract}
use Rattle.wasm_code.specs.declared.immediate.Imm.{Imm}
use Rattle.wasm_code.specs.declared.immediate.Imm.TheVariants as imm
use Rattle.wasm_code.specs.declared.immediate.ValType.{ValType}
use Rattle.wasm_code.specs.declared.immediate.ValType.TheVariants as value
use Rattle.wasm_code.specs.declared.table.Opcode.{Opcode}
use Rattle.wasm_code.specs.declared.table.Opcode.TheVariants.{Byte, Fc, Fd}
use Rattle.wasm_code.specs.declared.table.ResultKind.{ResultKind}
use Rattle.wasm_code.specs.declared.table.ResultKind.TheVariants as by
use Rattle.wasm_code.specs.declared.table.Row.{Row}
use Rattle.wasm_types.specs.Module.{Module, merged}
use Rattle.wasm_types.specs.declared.types.ElementType.{ElementType}
use Rattle.wasm_types.specs.declared.types.ElementType.TheVariants as elements
use Rattle.wasm_types.specs.declared.types.PrimitiveTypeInfo.{PrimitiveTypeInfo}
use Rattle.wasm_types.specs.declared.types.PrimitiveTypeInfo.TheVariants.{I32, I64, F32, F64, V128, FuncRef, ExternRef, Empty}
use Rattle.wasm_types.specs.declared.types.MemoryType.{MemoryType}
use Rattle.wasm_types.specs.declared.types.TableType.{TableType}
use Rattle.wasm_types.specs.declared.types.TypeInfo.{TypeInfo}
use Rattle.wasm_types.specs.declared.types.TypeInfo.TheVariants.{Func, Other}
use Rattle.wasm_execution.specs.declared.operand.OperandKind.{OperandKind}
use Rattle.wasm_execution.specs.declared.operand.OperandKind.TheVariants as kind
use Rattle.wasm_execution.specs.declared.operand.OperandColumn.{OperandColumn}
use Rattle.wasm_execution.specs.declared.operand.OperandColumn.TheVariants as column

-- ---- what an immediate names

-- the type of values that an immediate writes, as modules' lists have it
abbrev pub value_type : ValType → PrimitiveTypeInfo
value_type value.I32 = I32
value_type value.I64 = I64
value_type value.F32 = F32
value_type value.F64 = F64
value_type value.V128 = V128
value_type value.FuncRef = FuncRef
value_type value.ExternRef = ExternRef

-- the type of references to what the heap type names
abbrev pub reference_type : HeapType → PrimitiveTypeInfo
reference_type (Abstract heap.Func) = FuncRef
reference_type (Abstract heap.Extern) = ExternRef

-- the type of a table's elements; `Empty` stands for any that is neither a funcref nor an externref
abbrev pub element_type : ElementType → PrimitiveTypeInfo
element_type elements.Func = FuncRef
element_type elements.Extern = ExternRef
element_type elements.Other = Empty

-- of an address, by whether it has 64 bits
abbrev pub address_type : Bool → PrimitiveTypeInfo
address_type true = I64
address_type false = I32

-- the memory, table or function
abbrev pub first_index : Imm → ℕ
first_index (imm.Index i) = i
first_index (imm.Pair i j) = i
first_index (imm.Mem m) = m.memory
first_index (imm.MemLane m lane) = m.memory
first_index _ = 0

-- the memory or table that is copied from, or that a segment is for
abbrev pub second_index : Imm → ℕ
second_index (imm.Pair i j) = j
second_index _ = 0

-- the type that an immediate writes: that of a `ref.null`, or of a select; other immediates write none
abbrev pub named_type : Imm → Option PrimitiveTypeInfo
named_type (imm.Heap h) = Some (reference_type h)
named_type (imm.Val t) = Some (value_type t)
named_type _ = None

-- What an immediate names, where it is there: the address types of a memory and a table and the table's element type, those of a second memory or
-- table, a function's type, and a type; and whether all references have one.
pub record Named : Type 0 where
  pub address : Option PrimitiveTypeInfo
  pub index : Option PrimitiveTypeInfo
  pub element : Option PrimitiveTypeInfo
  pub other_address : Option PrimitiveTypeInfo
  pub other_index : Option PrimitiveTypeInfo
  pub function : Option TypeInfo
  pub type : Option PrimitiveTypeInfo
  pub one_reference : Bool

-- the type of addresses in the memory with the index; none where there is no such memory
abbrev pub address_in : List MemoryType → ℕ → Option PrimitiveTypeInfo
address_in memories i = option_map (λ x. address_type x.memory64) (slice_get memories i)

-- the type of indices into the table with the index; none where there is no such table
abbrev pub index_in : List TableType → ℕ → Option PrimitiveTypeInfo
index_in tables i = option_map (λ x. address_type x.table64) (slice_get tables i)

-- an index is looked up in every list, whichever of them the instruction means
abbrev pub names_in : Module → Imm → Named
names_in m i = record {
  address = address_in m.memories (first_index i);
  index = index_in m.tables (first_index i);
  element = option_map (λ x. element_type x.element_type) (slice_get m.tables (first_index i));
  other_address = address_in m.memories (second_index i);
  other_index = index_in m.tables (second_index i);
  function = option_and_then (slice_get m.types) (slice_get m.functions (first_index i));
  type = option_map (merged m.one_reference) (named_type i);
  one_reference = m.one_reference;
}

-- ---- operands

-- an operand is of one type, where that is there, or any reference
pub data Operand : Type 0 where
  typed : Option PrimitiveTypeInfo → Operand
  reference : Operand

-- the one with fewer bits of two types of addresses
abbrev pub smaller : Option PrimitiveTypeInfo → Option PrimitiveTypeInfo → Option PrimitiveTypeInfo
smaller (Some I64) o = o
smaller o r = o

-- the operand that an entry of the column means, by what the instruction's immediate names
abbrev pub operand_by : Named → OperandKind → Operand
operand_by n (kind.Of t) = typed (Some t)
operand_by n kind.Reference = reference
operand_by n kind.Address = typed n.address
operand_by n kind.OtherAddress = typed n.other_address
operand_by n kind.SmallerAddress = typed (smaller n.address n.other_address)
operand_by n kind.Index = typed n.index
operand_by n kind.OtherIndex = typed n.other_index
operand_by n kind.SmallerIndex = typed (smaller n.index n.other_index)
operand_by n kind.Element = typed n.element
operand_by n kind.Named = typed n.type

-- what a call takes: the parameters of the function's type; none where that is no known function type
abbrev pub parameters : Option TypeInfo → Option (List Operand)
parameters None = None
parameters (Some (Func t)) = Some (map (λ p. typed (Some p)) t.params)
parameters (Some Other) = None

-- the operands of a column, the last on top of the stack; none where they aren't known
abbrev pub operands_in : Named → OperandColumn → Option (List Operand)
operands_in n column.Unknown = None
operands_in n column.Parameters = parameters n.function
operands_in n column.Zero = Some []
operands_in n (column.One a) = Some (operand_by n a ∷ [])
operands_in n (column.Two a b) = Some (operand_by n a ∷ operand_by n b ∷ [])
operands_in n (column.Three a b c) = Some (operand_by n a ∷ operand_by n b ∷ operand_by n c ∷ [])

-- ---- the operand column

-- an operand of type i32, whatever the immediate names
abbrev pub i32 : OperandKind
i32 = kind.Of I32

-- an operand of type i64
abbrev pub i64 : OperandKind
i64 = kind.Of I64

-- an operand of type f32
abbrev pub f32 : OperandKind
f32 = kind.Of F32

-- an operand of type f64
abbrev pub f64 : OperandKind
f64 = kind.Of F64

-- an operand of type v128
abbrev pub v128 : OperandKind
v128 = kind.Of V128

-- an address in the memory that the immediate names: i32, or i64 in a memory of 64 bits
abbrev pub address : OperandKind
address = kind.Address

-- an index into the table that the immediate names, of its address type
abbrev pub index : OperandKind
index = kind.Index

-- a reference of the element type of the table that the immediate names
abbrev pub element : OperandKind
element = kind.Element

-- no operands are told: no row has the opcode, or it is that of an integer row
abbrev pub unknown : OperandColumn
unknown = column.Unknown

-- the instruction takes nothing
abbrev pub none : OperandColumn
none = column.Zero

-- one operand
abbrev pub one : OperandKind → OperandColumn
one a = column.One a

-- two operands, the second on top
abbrev pub two : OperandKind → OperandKind → OperandColumn
two a b = column.Two a b

-- three operands, the third on top
abbrev pub three : OperandKind → OperandKind → OperandKind → OperandColumn
three a b c = column.Three a b c

-- the entry of the first span that ends behind the number
abbrev pub by_spans : List (ℕ × OperandColumn) → ℕ → OperandColumn
by_spans [] n = column.Unknown
by_spans (span ∷ spans) n = if nat_lt n span.0 then span.1 else by_spans spans n

-- of the opcodes of one byte, each span up to where the next begins; unknown where there is no row, and for integer rows but `1C`
abbrev pub byte_spans : List (ℕ × OperandColumn)
byte_spans =
    (0x10, unknown) ∷ (0x11, column.Parameters) ∷ (0x1c, unknown) ∷ (0x1d, three kind.Named kind.Named i32) ∷ (0x25, unknown)
    ∷ (0x26, one index) ∷ (0x27, two index element) ∷ (0x28, unknown) ∷ (0x36, one address)
    ∷ (0x37, two address i32) ∷ (0x38, two address i64) ∷ (0x39, two address f32) ∷ (0x3a, two address f64)
    ∷ (0x3c, two address i32) ∷ (0x3f, two address i64) ∷ (0x40, none) ∷ (0x41, one address)
    ∷ (0x43, unknown) ∷ (0x45, none) ∷ (0x5b, unknown) ∷ (0x61, two f32 f32) ∷ (0x67, two f64 f64)
    ∷ (0x8b, unknown) ∷ (0x92, one f32) ∷ (0x99, two f32 f32) ∷ (0xa0, one f64) ∷ (0xa7, two f64 f64)
    ∷ (0xa8, unknown) ∷ (0xaa, one f32) ∷ (0xac, one f64) ∷ (0xae, unknown) ∷ (0xb0, one f32) ∷ (0xb2, one f64) ∷ (0xb4, one i32) ∷ (0xb6, one i64)
    ∷ (0xb7, one f64) ∷ (0xb9, one i32) ∷ (0xbb, one i64) ∷ (0xbd, one f32) ∷ (0xbe, one f64) ∷ (0xbf, one i32) ∷ (0xc0, one i64)
    ∷ (0xd0, unknown) ∷ (0xd1, none) ∷ (0xd2, one kind.Reference) ∷ (0xd3, none) ∷ []

-- of the opcodes behind FC
abbrev pub fc_spans : List (ℕ × OperandColumn)
fc_spans =
    (2, one f32) ∷ (4, one f64) ∷ (6, one f32) ∷ (8, one f64)
    ∷ (9, three kind.OtherAddress i32 i32) ∷ (10, none) ∷ (11, three address kind.OtherAddress kind.SmallerAddress) ∷ (12, three address i32 address)
    ∷ (13, three kind.OtherIndex i32 i32) ∷ (14, none) ∷ (15, three index kind.OtherIndex kind.SmallerIndex)
    ∷ (16, two element index) ∷ (17, none) ∷ (18, three index element index) ∷ []

-- of those behind FD up to 93; the later ones take one to three vectors, and shifts an i32 behind one
abbrev pub fd_spans : List (ℕ × OperandColumn)
fd_spans =
    (11, one address) ∷ (12, two address v128) ∷ (13, none) ∷ (15, two v128 v128)
    ∷ (18, one i32) ∷ (19, one i64) ∷ (20, one f32) ∷ (21, one f64)
    ∷ (23, one v128) ∷ (24, two v128 i32) ∷ (26, one v128) ∷ (27, two v128 i32) ∷ (28, one v128) ∷ (29, two v128 i32)
    ∷ (30, one v128) ∷ (31, two v128 i64) ∷ (32, one v128) ∷ (33, two v128 f32) ∷ (34, one v128) ∷ (35, two v128 f64)
    ∷ (77, two v128 v128) ∷ (78, one v128) ∷ (82, two v128 v128) ∷ (83, three v128 v128 v128) ∷ (84, one v128)
    ∷ (92, two address v128) ∷ (94, one address) ∷ []

-- the number is in one of the spans, each its first and its last
abbrev pub is_in_span : List (ℕ × ℕ) → ℕ → Bool
is_in_span [] n = false
is_in_span (span ∷ spans) n = (nat_le span.0 n && nat_le n span.1) || is_in_span spans n

-- as many vectors as the instruction table counts operands
abbrev pub vectors : Option ℕ → OperandColumn
vectors (Some n) = if n == 1 then one v128 else (if n == 2 then two v128 v128 else three v128 v128 v128)
vectors None = unknown

-- of the opcodes behind FD from 94 on: vectors alone, but for the shifts, whose count is an i32
abbrev pub vector_column : Option ℕ → ℕ → OperandColumn
vector_column count opcode =
    if is_in_span ((107, 109) ∷ (139, 141) ∷ (171, 173) ∷ (203, 205) ∷ []) opcode then two v128 i32 else vectors count

-- the column of an opcode; the count of operands, by the instruction table, matters for vectors alone
abbrev pub column_by : Option ℕ → Opcode → OperandColumn
column_by count (Byte byte) = by_spans byte_spans byte
column_by count (Fc opcode) = by_spans fc_spans opcode
column_by count (Fd opcode) = if nat_lt opcode 94 then by_spans fd_spans opcode else vector_column count opcode

-- the column of a row, where the table has that row
abbrev pub column_in : Option Row → OperandColumn
column_in None = unknown
column_in (Some row) = column_by row.info.operands row.opcode

-- ---- results, by the table

-- what a call gives: the results of the function's type; none where that is no known function type
abbrev pub returned : Option TypeInfo → Option (List PrimitiveTypeInfo)
returned None = None
returned (Some (Func t)) = Some t.returns
returned (Some Other) = None

-- the result types; not there where the module lacks what is named, nor where a variable or an operand decides
abbrev pub results_by : Named → ResultKind → Option (List PrimitiveTypeInfo)
results_by n by.Nothing = Some []
results_by n (by.Fixed t) = Some (merged n.one_reference (value_type t) ∷ [])
results_by n by.Call = returned n.function
results_by n by.Memory = option_map (λ t. t ∷ []) n.address
results_by n by.Table = option_map (λ t. t ∷ []) n.index
results_by n by.Element = option_map (λ t. t ∷ []) n.element
results_by n by.Immediate = option_map (λ t. t ∷ []) n.type
results_by n _ = None

-- ---- both

-- the type of an instruction: what it takes, the last operand on top, and what it gives
pub record OtherType : Type 0 where
  pub operands : List Operand
  pub results : List PrimitiveTypeInfo

-- a type, where operands and results both are known
abbrev pub both_of : Option (List Operand) → Option (List PrimitiveTypeInfo) → Option OtherType
both_of o r = option_and_then (λ operands. option_map (λ results. record { operands = operands; results = results }) r) o

-- the type of a row's instruction, where the table has the row and the module what it names
abbrev pub type_by_row : Named → Option Row → Option OtherType
type_by_row n None = None
type_by_row n (Some row) = both_of (operands_in n (column_by row.info.operands row.opcode)) (results_by n row.info.result)

-- what an instruction takes and gives that is no integer row; none for an integer row but the typed select, whose types these are too
unfoldable pub other_type : Named → Instruction → Option OtherType
other_type n i = type_by_row n (row_at i.row)

-- ---- what else they do

-- calls, stores and whatever else writes globals, memories, tables and segments
abbrev pub opcode_changes : Option Opcode → Bool
opcode_changes (Some (Byte byte)) = is_in_span ((0x10, 0x10) ∷ (0x26, 0x26) ∷ (0x36, 0x3e) ∷ (0x40, 0x40) ∷ []) byte
opcode_changes (Some (Fc n)) = is_in_span ((8, 15) ∷ (17, 17) ∷ []) n
opcode_changes (Some (Fd n)) = is_in_span ((11, 11) ∷ (88, 91) ∷ []) n
opcode_changes None = true

-- loads and table.get, and truncations of floats
abbrev pub opcode_fails : Option Opcode → Bool
opcode_fails (Some (Byte byte)) = is_in_span ((0x25, 0x25) ∷ (0x28, 0x35) ∷ (0xa8, 0xab) ∷ (0xae, 0xb1) ∷ []) byte
opcode_fails (Some (Fc n)) = false
opcode_fails (Some (Fd n)) = is_in_span ((0, 10) ∷ (84, 87) ∷ (92, 93) ∷ []) n
opcode_fails None = true

-- one that is no integer row may change globals, memories, tables, segments or what lies outside
unfoldable pub changes : Instruction → Bool
changes i = opcode_changes (opcode_in (row_at i.row))

-- and it may trap, as a call or a store may
unfoldable pub may_trap : Instruction → Bool
may_trap i = changes i || opcode_fails (opcode_in (row_at i.row))
