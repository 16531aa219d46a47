-- A function of a module: the types of its parameters and locals, and its body
-- (WebAssembly Core Specification 3.0, Binary Format, Modules, Code Section).
use Rattle.std.specs.Prelude.{◌≡◌, ℕ, ◌+◌, List, Option, Some, None, slice_get, slice_range}
use Rattle.wasm_code.specs.Body.{SpellsCode, IsCodeFault}
use Rattle.wasm_code.specs.declared.operator.Operator.{Operator}
use Rattle.wasm_code.specs.declared.fault.ReadError.{ReadError}
use Rattle.wasm_code.specs.declared.fault.ReadKind.{ReadKind}
use Rattle.wasm_code.specs.declared.fault.ReadKind.TheVariants as kinds
use Rattle.wasm_types.specs.Module.{Module, function_type}
use Rattle.wasm_types.specs.declared.types.PrimitiveTypeInfo.{PrimitiveTypeInfo}
use Rattle.wasm_types.specs.declared.types.TypeInfo.{TypeInfo}
use Rattle.wasm_types.specs.declared.types.TypeInfo.TheVariants.{Func, Other}
use Rattle.wasm_lists.specs.declared.entries.Entry.{Entry}
use Rattle.wasm_lists.specs.Locals.{SpellsLocals, IsLocalsFault}
use Rattle.wasm_sections.specs.declared.fault.ModuleError.{ModuleError}
use Rattle.wasm_sections.specs.declared.fault.ModuleFault.{ModuleFault}
use Rattle.wasm_sections.specs.declared.fault.ModuleFault.TheVariants as faults
use Rattle.wasm_module.specs.Module.{Layout}
use Rattle.module_rewrites.specs.OperatorCode.{code_at}
use Rattle.module_rewrites.specs.declared.function.FunctionError.{FunctionError}
use Rattle.module_rewrites.specs.declared.function.FunctionError.TheVariants.{Unknown, UnknownType, Locals, Body}
use Rattle.module_rewrites.specs.declared.operator_code.OperatorCode.{OperatorCode}

-- the types of the parameters of a function's type
abbrev pub parameters_in : Option TypeInfo → Option (List PrimitiveTypeInfo)
parameters_in None = None
parameters_in (Some (Func type)) = Some type.params
parameters_in (Some Other) = None

-- those of the module's function with the index, where it has such a function and a type for it
abbrev pub parameters_of : Module → ℕ → Option (List PrimitiveTypeInfo)
parameters_of info index = parameters_in (function_type info index)

-- every import and every global is of a form that is known, so that indices are
pub record KnowsIndices (layout : Layout) : Type 0 where
  pub imports : layout.unknown.imports ≡ None
  pub globals : layout.unknown.globals ≡ None

-- Where the function of the n-th code entry stands, and the types of its parameters; the module's indices are known.
pub record IsCodeEntryOf (info : Module) (layout : Layout) (n : ℕ) (entry : Entry) (params : List PrimitiveTypeInfo) : Type 0 where
  pub indices : KnowsIndices layout
  pub at : slice_get layout.entries n ≡ Some entry
  pub parameters : parameters_of info (layout.imported_functions + n) ≡ Some params

-- The n-th code entry spells these types of parameters and locals, and behind them, from `expression` on, a body of these operators.
pub record IsFunction (bytes : List ℕ) (info : Module) (layout : Layout) (n : ℕ) (locals : List PrimitiveTypeInfo) (expression : ℕ)
    (operators : List (Operator × ℕ)) : Type 0 where
  pub entry : Entry
  pub params : List PrimitiveTypeInfo
  pub is : IsCodeEntryOf info layout n entry params
  pub locals_are : SpellsLocals params entry.contents (slice_range bytes entry.contents entry.end) locals expression
  pub body : SpellsCode expression (slice_range bytes expression entry.end) operators

-- ---- why it can't be read

-- no memory was left
abbrev pub IsWantOfMemory : FunctionError → Type 0
IsWantOfMemory (Unknown e) = ⊥
IsWantOfMemory UnknownType = ⊥
IsWantOfMemory (Locals e) = e.kind ≡ faults.Memory
IsWantOfMemory (Body e) = e.fault.kind ≡ kinds.Memory

-- the entry's locals are refused
pub record FailsLocals (bytes : List ℕ) (info : Module) (layout : Layout) (n : ℕ) (kind : ModuleFault)
    (offset : ℕ) : Type 0 where
  pub entry : Entry
  pub params : List PrimitiveTypeInfo
  pub is : IsCodeEntryOf info layout n entry params
  pub fault : IsLocalsFault params entry.contents (slice_range bytes entry.contents entry.end) kind offset

-- behind its locals stands no body
pub record FailsBody (bytes : List ℕ) (info : Module) (layout : Layout) (n : ℕ) (kind : ReadKind)
    (offset : ℕ) : Type 0 where
  pub entry : Entry
  pub params : List PrimitiveTypeInfo
  pub is : IsCodeEntryOf info layout n entry params
  pub locals : List PrimitiveTypeInfo
  pub expression : ℕ
  pub locals_are : SpellsLocals params entry.contents (slice_range bytes entry.contents entry.end) locals expression
  pub fault : IsCodeFault expression entry.end (slice_range bytes expression entry.end) kind offset

-- the code of an operator that isn't known, or an immediate of which isn't; of other faults none
abbrev pub operator_for : ReadKind → Option OperatorCode → Option OperatorCode
operator_for kinds.UnknownOpcode code = code
operator_for kinds.BadImmediate code = code
operator_for kind code = None

-- the same of the operator at fault
abbrev pub operator_at_fault : (bytes : List ℕ) → ReadError → Option OperatorCode
operator_at_fault bytes fault = operator_for fault.kind (code_at bytes fault.offset)

-- the module has no type for the function of the n-th code entry
abbrev pub HasNoType : Module → Layout → ℕ → Type 0
HasNoType info layout n = parameters_of info (layout.imported_functions + n) ≡ None

-- An import has that fault, a global where every import is known, or a type where indices are known and the function has no type that is.
pub data FunctionIsUnknown (info : Module) (layout : Layout) (n : ℕ) (e : ModuleError) : Type 0 where
  by_import : layout.unknown.imports ≡ Some e → FunctionIsUnknown info layout n e
  by_global : layout.unknown.imports ≡ None → layout.unknown.globals ≡ Some e → FunctionIsUnknown info layout n e
  by_type : KnowsIndices layout → layout.unknown.types ≡ Some e → HasNoType info layout n → FunctionIsUnknown info layout n e

-- every type is known, and so are indices, but the module has no type for the function
pub record LacksType (info : Module) (layout : Layout) (n : ℕ) : Type 0 where
  pub indices : KnowsIndices layout
  pub types : layout.unknown.types ≡ None
  pub none : HasNoType info layout n

-- An error of a function is right: what it needs of the module is of an unknown form, the module has no type for it, or its locals or its body have that
-- first fault, of a body with the code of an operator that isn't known.
abbrev pub IsFunctionFault : (bytes : List ℕ) → Module → Layout → (n : ℕ) → FunctionError → Type 0
IsFunctionFault bytes info layout n (Unknown e) = FunctionIsUnknown info layout n e
IsFunctionFault bytes info layout n UnknownType = LacksType info layout n
IsFunctionFault bytes info layout n (Locals e) = FailsLocals bytes info layout n e.kind e.offset
IsFunctionFault bytes info layout n (Body e) = FailsBody bytes info layout n e.fault.kind e.fault.offset × (e.operator ≡ operator_at_fault bytes e.fault)
