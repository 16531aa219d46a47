-- Values whose numbers are of their types (this project).
use Rattle.std.specs.Prelude.{ℕ, ◌^◌, nat_lt, Bool, true, ◌&&◌, List, [], ◌∷◌}
use Rattle.wasm_types.specs.declared.types.PrimitiveTypeInfo.{PrimitiveTypeInfo}
use Rattle.wasm_types.specs.declared.types.PrimitiveTypeInfo.TheVariants as primitive
use Rattle.wasm_execution.specs.Values.{Value}

-- the number is one of the type; of references any mark is
abbrev pub is_number_of_type : PrimitiveTypeInfo → ℕ → Bool
is_number_of_type primitive.I32 n = nat_lt n (2 ^ 32)
is_number_of_type primitive.I64 n = nat_lt n (2 ^ 64)
is_number_of_type primitive.F32 n = nat_lt n (2 ^ 32)
is_number_of_type primitive.F64 n = nat_lt n (2 ^ 64)
is_number_of_type primitive.V128 n = nat_lt n (2 ^ 128)
is_number_of_type _ n = true

-- each number is one of its value's type
abbrev pub are_values : List Value → Bool
are_values [] = true
are_values (v ∷ vs) = is_number_of_type v.type v.number && are_values vs
