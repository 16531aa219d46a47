-- The type of a node's result: the result column of the instruction table, read from a module's lists and the types of a
-- function's locals (the types of results: WebAssembly Core Specification 3.0, Validation, Instructions; the nodes without
-- an instruction, and `empty` for no result, are this project's).
use Rattle.std.specs.Prelude.{ℕ, ◌-◌, nat_lt, Bool, true, false, List, [], ◌∷◌, slice_get, Option, Some, None, option_map, Result, Ok, Err, if◌then◌else◌}
use Rattle.wasm_code.specs.Instruction.{Instruction}
use Rattle.wasm_code.specs.Table.{row_info_of}
use Rattle.wasm_code.specs.declared.immediate.AbstractHeapType.TheVariants as heap
use Rattle.wasm_code.specs.declared.immediate.HeapType.{HeapType}
use Rattle.wasm_code.specs.declared.immediate.HeapType.TheVariants.{Abstract}
use Rattle.wasm_code.specs.declared.immediate.Imm.{Imm}
use Rattle.wasm_code.specs.declared.immediate.Imm.TheVariants as imm
use Rattle.wasm_code.specs.declared.immediate.ValType.{ValType}
use Rattle.wasm_code.specs.declared.immediate.ValType.TheVariants as value
use Rattle.wasm_code.specs.declared.table.ResultKind.{ResultKind}
use Rattle.wasm_code.specs.declared.table.ResultKind.TheVariants as by
use Rattle.wasm_code.specs.declared.table.RowInfo.{RowInfo}
use Rattle.wasm_types.specs.Module.{Module, function_type}
use Rattle.mutate_base.specs.declared.error.Error.{Error}
use Rattle.mutate_base.specs.declared.error.Error.TheVariants.{NoMutationsApplicable, UnknownFunction, UnknownLocal, UnknownGlobal}
use Rattle.mutate_base.specs.declared.error.Error.TheVariants.{UnknownTable, UnknownMemory, UnknownOperand}
use Rattle.wasm_types.specs.declared.types.ElementType.{ElementType}
use Rattle.wasm_types.specs.declared.types.ElementType.TheVariants as element
use Rattle.wasm_types.specs.declared.types.PrimitiveTypeInfo.{PrimitiveTypeInfo}
use Rattle.wasm_types.specs.declared.types.PrimitiveTypeInfo.TheVariants.{I32, I64, F32, F64, V128, FuncRef, ExternRef, Empty}
use Rattle.wasm_types.specs.declared.types.TypeInfo.{TypeInfo}
use Rattle.wasm_types.specs.declared.types.TypeInfo.TheVariants.{Func, Other}
use Rattle.peephole_lang.specs.Lang.{ids_of, payload_of}
use Rattle.peephole_lang.specs.Node.{head_of}
use Rattle.peephole_lang.specs.declared.lang.Head.{Head}
use Rattle.peephole_lang.specs.declared.lang.Lang.{Lang}
use Rattle.peephole_nodes.specs.Payload.{imm_of}
use Rattle.peephole_nodes.specs.declared.id.Id.{Id}

-- what types are read from: a module, and the types of a function's locals
pub record Analysis : Type 0 where
  pub info : Module
  pub locals : List PrimitiveTypeInfo

-- ---- types by their names in the standard

-- of a value of the type that an immediate or a row of the table writes
abbrev pub value_type : ValType → PrimitiveTypeInfo
value_type value.I32 = I32
value_type value.I64 = I64
value_type value.F32 = F32
value_type value.F64 = F64
value_type value.V128 = V128
value_type value.FuncRef = FuncRef
value_type value.ExternRef = ExternRef

-- of a reference to what the type names
abbrev pub reference_type : HeapType → PrimitiveTypeInfo
reference_type (Abstract heap.Func) = FuncRef
reference_type (Abstract heap.Extern) = ExternRef

-- of an element of a table: `empty` where it is a reference of another type than funcref and externref
abbrev pub element_type : ElementType → PrimitiveTypeInfo
element_type element.Func = FuncRef
element_type element.Extern = ExternRef
element_type element.Other = Empty

-- of an address, by whether it has 64 bits
abbrev pub address_type : Bool → PrimitiveTypeInfo
address_type true = I64
address_type false = I32

-- ---- the result column

-- what is found, or the refusal where nothing is
abbrev pub or_refusal : Option PrimitiveTypeInfo → Error → Result PrimitiveTypeInfo Error
or_refusal (Some t) e = Ok t
or_refusal None e = Err e

-- the one type of a list, or none of an empty one
abbrev pub one_result : List PrimitiveTypeInfo → Result PrimitiveTypeInfo Error
one_result [] = Ok Empty
one_result (t ∷ []) = Ok t
one_result _ = Err NoMutationsApplicable

-- of a call of the function with an index, by its type
abbrev pub call_type : ℕ → Option TypeInfo → Result PrimitiveTypeInfo Error
call_type index None = Err (UnknownFunction index)
call_type index (Some (Func t)) = one_result t.returns
call_type index (Some Other) = Err (UnknownFunction index)

-- of an instruction that names something by its index
abbrev pub index_type : Analysis → ResultKind → ℕ → Result PrimitiveTypeInfo Error
index_type a by.Local i = or_refusal (slice_get a.locals i) (UnknownLocal i)
index_type a by.Global i = or_refusal (slice_get a.info.globals i) (UnknownGlobal i)
index_type a by.Call i = call_type i (function_type a.info i)
index_type a by.Memory i = or_refusal (option_map (λ m. address_type m.memory64) (slice_get a.info.memories i)) (UnknownMemory i)
index_type a by.Table i = or_refusal (option_map (λ t. address_type t.table64) (slice_get a.info.tables i)) (UnknownTable i)
index_type a by.Element i = or_refusal (option_map (λ t. element_type t.element_type) (slice_get a.info.tables i)) (UnknownTable i)
index_type a _ i = Ok Empty

-- the index of an immediate; no instruction whose result needs one has another immediate
abbrev pub immediate_index : Imm → ℕ
immediate_index (imm.Index i) = i
immediate_index _ = 0

-- the type that an immediate names; no instruction whose result needs one names none
abbrev pub immediate_type : Imm → PrimitiveTypeInfo
immediate_type (imm.Heap h) = reference_type h
immediate_type (imm.Val t) = value_type t
immediate_type _ = Empty

-- of an instruction, by what decides the type of its result, and by the type of its first operand, where that is known
abbrev pub result_type : Analysis → (first : Option PrimitiveTypeInfo) → Imm → ResultKind → Result PrimitiveTypeInfo Error
result_type a first i by.Nothing = Ok Empty
result_type a first i (by.Fixed t) = Ok (value_type t)
result_type a first i by.First = or_refusal first UnknownOperand
result_type a first i by.Immediate = Ok (immediate_type i)
result_type a first i kind = index_type a kind (immediate_index i)

-- of an instruction with that row; `empty` where the table has no such row
abbrev pub row_type : Analysis → (first : Option PrimitiveTypeInfo) → Imm → Option RowInfo → Result PrimitiveTypeInfo Error
row_type a first i None = Ok Empty
row_type a first i (Some row) = result_type a first i row.result

-- of an instruction outside any node; `first` is the type of its first operand, where that is known
abbrev pub instruction_type : Analysis → (first : Option PrimitiveTypeInfo) → Instruction → Result PrimitiveTypeInfo Error
instruction_type a first i = row_type a first i.imm (row_info_of i.row)

-- ---- nodes

-- of the twelve nodes without an instruction, in their order: four random numbers, a missing operand, two unfolds, four
-- uses of a global, a container
abbrev pub rowless_types : List PrimitiveTypeInfo
rowless_types = I32 ∷ I64 ∷ F32 ∷ F64 ∷ Empty ∷ I32 ∷ I64 ∷ I32 ∷ I64 ∷ F32 ∷ F64 ∷ Empty ∷ []

-- the type, where the list of those nodes has one; it always has
abbrev pub or_empty : Option PrimitiveTypeInfo → PrimitiveTypeInfo
or_empty None = Empty
or_empty (Some t) = t

-- of a node, by its place and its payload
abbrev pub head_type : Analysis → (first : Option PrimitiveTypeInfo) → Head → Result PrimitiveTypeInfo Error
head_type a first h =
    if nat_lt h.place 12 then Ok (or_empty (slice_get rowless_types h.place))
    else row_type a first (imm_of h.payload) (row_info_of (h.place - 12))

-- what a look-up says of the first of some operands
abbrev pub first_type : (ℕ → Option PrimitiveTypeInfo) → List Id → Option PrimitiveTypeInfo
first_type types [] = None
first_type types (id ∷ ids) = types id.0

-- of a node, by what a look-up says of its operands
abbrev pub returning_type : Analysis → (ℕ → Option PrimitiveTypeInfo) → Lang → Result PrimitiveTypeInfo Error
returning_type a types l = head_type a (first_type types (ids_of l)) (head_of l)

-- of a node whose instruction's result is decided so
abbrev pub kind_type : Analysis → (ℕ → Option PrimitiveTypeInfo) → Lang → ResultKind → Result PrimitiveTypeInfo Error
kind_type a types l kind = result_type a (first_type types (ids_of l)) (imm_of (payload_of l)) kind
