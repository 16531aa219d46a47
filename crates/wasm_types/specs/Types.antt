-- The value types' names (WebAssembly Core Specification 3.0, Text Format, Types), `empty` for no value, and a function's
-- type as two lists (this project).
use Rattle.std.specs.Prelude.{ℕ, List, codes}
use Rattle.wasm_types.specs.declared.types.PrimitiveTypeInfo.{PrimitiveTypeInfo}
use Rattle.wasm_types.specs.declared.types.PrimitiveTypeInfo.TheVariants.{I32, I64, F32, F64, V128, FuncRef, ExternRef, Empty}

abbrev pub type_name : PrimitiveTypeInfo → List ℕ
type_name I32 = codes "i32"
type_name I64 = codes "i64"
type_name F32 = codes "f32"
type_name F64 = codes "f64"
type_name V128 = codes "v128"
type_name FuncRef = codes "funcref"
type_name ExternRef = codes "externref"
type_name Empty = codes "empty"

-- what a function takes and what it returns
pub record FuncType : Type 0 where
  pub params : List PrimitiveTypeInfo
  pub returns : List PrimitiveTypeInfo
