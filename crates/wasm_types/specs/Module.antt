-- What is known of a module, as lists: its bytes, and the types of its globals, functions, tables and memories (this project).
use Rattle.std.specs.Prelude.{ℕ, Bool, false, if◌then◌else◌, List, [], Option, Some, None, slice_get}
use Rattle.wasm_types.specs.declared.types.PrimitiveTypeInfo.{PrimitiveTypeInfo}
use Rattle.wasm_types.specs.declared.types.PrimitiveTypeInfo.TheVariants.{FuncRef, ExternRef, Empty}
use Rattle.wasm_types.specs.declared.types.TypeInfo.{TypeInfo}
use Rattle.wasm_types.specs.declared.types.TableType.{TableType}
use Rattle.wasm_types.specs.declared.types.MemoryType.{MemoryType}

pub record Module : Type 0 where
  pub input : List ℕ
  pub globals : List PrimitiveTypeInfo
  pub types : List TypeInfo
  -- of each function the place of its type
  pub functions : List ℕ
  pub tables : List TableType
  pub memories : List MemoryType
  -- whether what runs it does what the standard says on the exact rows; where not, nothing is said of these
  pub exact : Bool
  -- whether its references all have one type, `Empty`, whatever they refer to
  pub one_reference : Bool

-- the type where all references may have one: that is `Empty` for each of them
abbrev pub merged : (one_reference : Bool) → PrimitiveTypeInfo → PrimitiveTypeInfo
merged one_reference FuncRef = if one_reference then Empty else FuncRef
merged one_reference ExternRef = if one_reference then Empty else ExternRef
merged one_reference t = t

-- a module of which nothing is known but its bytes
abbrev pub module_of : List ℕ → Module
module_of input = record { input = input; globals = []; types = []; functions = []; tables = []; memories = []; exact = false; one_reference = false }

-- the declared type at this place, where there is a place
abbrev pub type_at : Module → Option ℕ → Option TypeInfo
type_at m None = None
type_at m (Some place) = slice_get m.types place

-- the type of the function with this index
abbrev pub function_type : Module → ℕ → Option TypeInfo
function_type m index = type_at m (slice_get m.functions index)
