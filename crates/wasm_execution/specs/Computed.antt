-- What an operator gives, the bits of its result's type kept, and numbers that fit types (this project).
use Rattle.std.specs.Prelude.{ℕ, ◌%◌, ◌^◌, List, ◌∷◌, Option, option_map, ⊤}
use Rattle.std.specs.Int.{Width}
use mir.Val.{bits}
use Rattle.wasm_types.specs.declared.types.PrimitiveTypeInfo.{PrimitiveTypeInfo}
use Rattle.wasm_execution.specs.Values.{width_of, IsOfType}
use Rattle.wasm_execution.specs.Integer.{IntegerOperator}

-- each number is one of the type in its place, as far as both lists go
abbrev pub AreOfTypes : List PrimitiveTypeInfo → List ℕ → Type 0
AreOfTypes (t ∷ ts) (n ∷ ns) = IsOfType t n × AreOfTypes ts ns
AreOfTypes ts ns = ⊤

-- the low bits, where there is a number
abbrev pub kept : Width → Option ℕ → Option ℕ
kept w o = option_map (λ n. n % 2 ^ bits w) o

-- none where the operator traps, and for another number of operands
abbrev pub computed : IntegerOperator → List ℕ → Option ℕ
computed f ns = kept (width_of f.result) (f.value ns)
