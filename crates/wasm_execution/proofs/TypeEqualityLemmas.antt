-- Equal lists of types, by a test of two types.
use Rattle.std.proofs.Common.{◌≡◌, Bool, List, [], ◌∷◌, refl, ap₂}
use Rattle.std.specs.Prelude.{◌&&◌}
use lib.Pointwise.{pointwise}
use Rattle.wasm_types.specs.declared.types.PrimitiveTypeInfo.{PrimitiveTypeInfo}
use Rattle.wasm_execution.specs.Values.{same_type, same_types}

pub pointwise_is : (f : PrimitiveTypeInfo → PrimitiveTypeInfo → Bool) → ((t u : PrimitiveTypeInfo) → f t u ≡ same_type t u) →
    (ts us : List PrimitiveTypeInfo) → pointwise f ts us ≡ same_types ts us
pointwise_is f h [] [] = refl
pointwise_is f h [] (u ∷ us) = refl
pointwise_is f h (t ∷ ts) [] = refl
pointwise_is f h (t ∷ ts) (u ∷ us) = ap₂ (λ a b. a && b) (h t u) (pointwise_is f h ts us)
