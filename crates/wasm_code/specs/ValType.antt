-- The names of the value types (WebAssembly Core Specification 3.0, Text Format, Types).
use Rattle.std.specs.Prelude.{ℕ, List, codes}
use Rattle.wasm_code.specs.declared.immediate.ValType.{ValType}
use Rattle.wasm_code.specs.declared.immediate.ValType.TheVariants.{I32, I64, F32, F64, V128, FuncRef, ExternRef}

-- references by the short names of the text format, `funcref` and `externref`
abbrev pub val_type_name : ValType → List ℕ
val_type_name I32 = codes "i32"
val_type_name I64 = codes "i64"
val_type_name F32 = codes "f32"
val_type_name F64 = codes "f64"
val_type_name V128 = codes "v128"
val_type_name FuncRef = codes "funcref"
val_type_name ExternRef = codes "externref"
