-- Values whose numbers are of their types: the test and the fact, both ways.
use Rattle.std.proofs.Common.{◌≡◌, ℕ, Bool, true, List, [], ◌∷◌, refl, ap₂}
use Rattle.std.specs.Prelude.{◌&&◌, ◌^◌}
use Rattle.std.specs.List.{All}
use Rattle.std.proofs.lemmas.List.Elements.{All-nil, All-cons, All-head, All-tail}
use Rattle.wasm_types.specs.declared.types.PrimitiveTypeInfo.{PrimitiveTypeInfo}
use Rattle.wasm_types.specs.declared.types.PrimitiveTypeInfo.TheVariants as primitive
use Rattle.wasm_execution.specs.Values.{same_type, same_types, Value, IsValue, IsOfType}
use Rattle.wasm_execution.specs.RowLemmas.{same_type_self}
use Rattle.std.proofs.lemmas.Bool.{and_parts, ltb-true, lt-ltb}
use Rattle.wasm_equivalence.specs.control.Numbers.{is_number_of_type, are_values}

number_is : (t : PrimitiveTypeInfo) (n : ℕ) → is_number_of_type t n ≡ true → IsOfType t n
number_is primitive.I32 n e = ltb-true n (2 ^ 32) e
number_is primitive.I64 n e = ltb-true n (2 ^ 64) e
number_is primitive.F32 n e = ltb-true n (2 ^ 32) e
number_is primitive.F64 n e = ltb-true n (2 ^ 64) e
number_is primitive.V128 n e = ltb-true n (2 ^ 128) e
number_is primitive.FuncRef n e = tt
number_is primitive.ExternRef n e = tt
number_is primitive.Empty n e = tt

pub values_are : (vs : List Value) → are_values vs ≡ true → All IsValue vs
values_are [] e = All-nil IsValue
values_are (v ∷ vs) e =
    let p = and_parts (is_number_of_type v.type v.number) (are_values vs) e in
    All-cons IsValue v vs (number_is v.type v.number p.0) (values_are vs p.1)

number_fits : (t : PrimitiveTypeInfo) (n : ℕ) → IsOfType t n → is_number_of_type t n ≡ true
number_fits primitive.I32 n e = lt-ltb n (2 ^ 32) e
number_fits primitive.I64 n e = lt-ltb n (2 ^ 64) e
number_fits primitive.F32 n e = lt-ltb n (2 ^ 32) e
number_fits primitive.F64 n e = lt-ltb n (2 ^ 64) e
number_fits primitive.V128 n e = lt-ltb n (2 ^ 128) e
number_fits primitive.FuncRef n e = refl
number_fits primitive.ExternRef n e = refl
number_fits primitive.Empty n e = refl

pub both_true : (a b : Bool) → a ≡ true → b ≡ true → (a && b) ≡ true
both_true a b x y = ap₂ (λ (p q : Bool). p && q) x y

pub values_fit : (vs : List Value) → All IsValue vs → are_values vs ≡ true
values_fit [] a = refl
values_fit (v ∷ vs) a =
    both_true (is_number_of_type v.type v.number) (are_values vs) (number_fits v.type v.number (All-head IsValue v vs a))
    (values_fit vs (All-tail IsValue v vs a))

pub same_types_self : (ts : List PrimitiveTypeInfo) → same_types ts ts ≡ true
same_types_self [] = refl
same_types_self (t ∷ ts) = both_true (same_type t t) (same_types ts ts) (same_type_self t) (same_types_self ts)
