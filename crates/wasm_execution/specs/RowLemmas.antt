-- One row: its operands, and its step where they stand on top (this project).
use Rattle.std.proofs.Common.{◌≡◌, ℕ, ◌-◌, Bool, true, false, List, [], ◌∷◌, ◌++◌, length, get_or, Option, Some, None, refl, sym, ap, ap₂}
use Rattle.std.proofs.Common.{◌∙◌, arith, length-append}
use Rattle.std.specs.Prelude.{option_and_then, option_map, is_some}
use Rattle.std.proofs.lemmas.Bool.{and_parts, eqb-true, eq-eqb}
use Rattle.std.proofs.lemmas.List.{take_at, drop_at}
use Rattle.wasm_types.specs.declared.types.PrimitiveTypeInfo.{PrimitiveTypeInfo}
use Rattle.wasm_types.specs.declared.types.PrimitiveTypeInfo.TheVariants as primitive
use Rattle.wasm_execution.specs.OtherRow.{Operand, OtherType, names_in, other_type}
use Rattle.wasm_execution.specs.Values.{type_number, same_type, same_types, accepts, accept, results_on, Value, types, Context, State, above}
use Rattle.wasm_execution.specs.IntegerRow.{IntegerRow, constant, operation, get, set, tee, discard, select, nop, other}
use Rattle.wasm_execution.specs.IntegerRow.{typed_operand_count, operand_count, if_typed, row_types}
use Rattle.wasm_execution.specs.Machine.{effect, only_if, state_context, act, step}

-- ---- options

pub some_if : {A : Type 0} (b : Bool) (a x : A) → if_typed b a ≡ Some x → (b ≡ true) × (a ≡ x)
some_if true a x e = (refl, cc)
some_if false a x e = absurd cc

pub if_typed_is : {A : Type 0} (b : Bool) (a : A) → b ≡ true → if_typed b a ≡ Some a
if_typed_is true a e = refl
if_typed_is false a e = absurd cc

pub and_then_some : {A B : Type 0} (f : A → Option B) (o : Option A) (y : B) → option_and_then f o ≡ Some y →
    (x : A) × (o ≡ Some x) × (f x ≡ Some y)
and_then_some f None y e = absurd cc
and_then_some f (Some x) y e = (x, refl, e)

pub map_some : {A B : Type 0} (f : A → B) (o : Option A) (y : B) → option_map f o ≡ Some y → (x : A) × (o ≡ Some x) × (f x ≡ y)
map_some f None y e = absurd cc
map_some f (Some x) y e = (x, refl, cc)

-- ---- types

abbrev type_at : ℕ → PrimitiveTypeInfo
type_at n =
    get_or (primitive.I32 ∷ primitive.I64 ∷ primitive.F32 ∷ primitive.F64 ∷ primitive.V128 ∷ primitive.FuncRef ∷ primitive.ExternRef ∷ []) n
    primitive.Empty

type_at-number : (t : PrimitiveTypeInfo) → type_at (type_number t) ≡ t
type_at-number primitive.I32 = refl
type_at-number primitive.I64 = refl
type_at-number primitive.F32 = refl
type_at-number primitive.F64 = refl
type_at-number primitive.V128 = refl
type_at-number primitive.FuncRef = refl
type_at-number primitive.ExternRef = refl
type_at-number primitive.Empty = refl

pub same_type_is : (t u : PrimitiveTypeInfo) → same_type t u ≡ true → t ≡ u
same_type_is t u e = sym (type_at-number t) ∙ (ap type_at (eqb-true (type_number t) (type_number u) e) ∙ type_at-number u)

pub same_type_self : (t : PrimitiveTypeInfo) → same_type t t ≡ true
same_type_self t = eq-eqb (type_number t) (type_number t) refl

pub same_types_is : (ts us : List PrimitiveTypeInfo) → same_types ts us ≡ true → ts ≡ us
same_types_is [] [] e = refl
same_types_is [] (u ∷ us) e = absurd cc
same_types_is (t ∷ ts) [] e = absurd cc
same_types_is (t ∷ ts) (u ∷ us) e =
    let p = and_parts (same_type t u) (same_types ts us) e in
    ap₂ (λ x y. x ∷ y) (same_type_is t u p.0) (same_types_is ts us p.1)

-- ---- operands

accept_count : (os : List Operand) (ts : List PrimitiveTypeInfo) → accept os ts ≡ true → length os ≡ length ts
accept_count [] [] e = refl
accept_count [] (t ∷ ts) e = absurd cc
accept_count (o ∷ os) [] e = absurd cc
accept_count (o ∷ os) (t ∷ ts) e = let n = accept_count os ts (and_parts (accepts o t) (accept os ts) e).1 in omega arith

other_count : (ts rs : List PrimitiveTypeInfo) (o : Option OtherType) → option_and_then (results_on ts) o ≡ Some rs → typed_operand_count o ≡ length ts
other_count ts rs None e = absurd cc
other_count ts rs (Some t) e = accept_count t.operands ts (some_if (accept t.operands ts) t.results rs e).0

pub row_types_count : (context : Context) (row : IntegerRow) (ts rs : List PrimitiveTypeInfo) →
    row_types context row ts ≡ Some rs → operand_count context.info row ≡ length ts
row_types_count context (constant t n) [] rs e = refl
row_types_count context (constant t n) (u ∷ us) rs e = absurd cc
row_types_count context (operation f) ts rs e = sym (ap length (same_types_is ts f.operands (some_if _ _ _ e).0))
row_types_count context (get x) [] rs e = refl
row_types_count context (get x) (u ∷ us) rs e = absurd cc
row_types_count context (set x) [] rs e = absurd cc
row_types_count context (set x) (u ∷ []) rs e = refl
row_types_count context (set x) (u ∷ v ∷ us) rs e = absurd cc
row_types_count context (tee x) [] rs e = absurd cc
row_types_count context (tee x) (u ∷ []) rs e = refl
row_types_count context (tee x) (u ∷ v ∷ us) rs e = absurd cc
row_types_count context discard [] rs e = absurd cc
row_types_count context discard (u ∷ []) rs e = refl
row_types_count context discard (u ∷ v ∷ us) rs e = absurd cc
row_types_count context select [] rs e = absurd cc
row_types_count context select (t ∷ []) rs e = absurd cc
row_types_count context select (t ∷ u ∷ []) rs e = absurd cc
row_types_count context select (t ∷ u ∷ c ∷ []) rs e = refl
row_types_count context select (t ∷ u ∷ c ∷ v ∷ us) rs e = absurd cc
row_types_count context nop [] rs e = refl
row_types_count context nop (u ∷ us) rs e = absurd cc
row_types_count context (other i) ts rs e = other_count ts rs (other_type (names_in context.info i.imm) i) e

-- the operands stand on top
pub step_at : (row : IntegerRow) (stack vs : List Value) (s : State) → operand_count s.world.info row ≡ length vs →
    step row (stack ++ vs) s ≡ above stack (act row vs s)
step_at row stack vs s e =
    let n : length stack ≡ length (stack ++ vs) - operand_count s.world.info row = omega (arith, length-append stack vs) in
    ap₂ (λ a b. above a (act row b s)) (take_at stack vs _ n) (drop_at stack vs _ n)

-- the operands are of the row's types
pub act_is : (row : IntegerRow) (vs : List Value) (rs : List PrimitiveTypeInfo) (s : State) →
    row_types (state_context s) row (types vs) ≡ Some rs → act row vs s ≡ effect row vs s
act_is row vs rs s e = ap (λ r. only_if (is_some r) (effect row vs s)) e
