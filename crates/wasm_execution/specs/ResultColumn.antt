-- What the result column of the instruction table says that an instruction leaves (WebAssembly Core Specification 3.0, Validation, Instructions;
-- the column is this project's).
use Rattle.std.specs.Prelude.{ℕ, List, [], ◌∷◌, Option, Some, None, slice_get, option_map, option_and_then}
use Rattle.wasm_code.specs.Instruction.{Instruction}
use Rattle.wasm_code.specs.Table.{row_info_of}
use Rattle.wasm_code.specs.declared.immediate.Imm.{Imm}
use Rattle.wasm_code.specs.declared.table.ResultKind.{ResultKind}
use Rattle.wasm_code.specs.declared.table.ResultKind.TheVariants as by
use Rattle.wasm_types.specs.declared.types.PrimitiveTypeInfo.{PrimitiveTypeInfo}
use Rattle.wasm_execution.specs.OtherRow.{first_index, names_in, results_by}
use Rattle.wasm_execution.specs.Values.{Context}

-- one result, of the type at that place, where it is there
abbrev pub one_at : List PrimitiveTypeInfo → ℕ → Option (List PrimitiveTypeInfo)
one_at list i = option_map (λ t. t ∷ []) (slice_get list i)

-- by the context's variables, the immediate and the types of the operands
abbrev pub results_in : Context → Imm → List PrimitiveTypeInfo → ResultKind → Option (List PrimitiveTypeInfo)
results_in context i ts by.Local = one_at context.locals (first_index i)
results_in context i ts by.Global = one_at context.info.globals (first_index i)
results_in context i ts by.First = one_at ts 0
results_in context i ts kind = results_by (names_in context.info i) kind

-- none where there is no such row
abbrev pub column_results : Context → Instruction → List PrimitiveTypeInfo → Option (List PrimitiveTypeInfo)
column_results context i ts = option_and_then (λ info. results_in context i.imm ts info.result) (row_info_of i.row)

-- the one item of a list
abbrev pub the_one : {A : Type 0} → Option (List A) → Option A
the_one (Some (x ∷ [])) = Some x
the_one o = None

-- the type of the one value that an instruction leaves by its column, where `first` is all that is known of its operands' types
abbrev pub column_type : Context → Instruction → (first : List PrimitiveTypeInfo) → Option PrimitiveTypeInfo
column_type context i first = the_one (column_results context i first)
