-- The operands in a line's holes by their types, computed from a list of what stands in each (this project).
use Rattle.std.specs.Prelude.{◌≡◌, ℕ, suc, ◌&&◌, Bool, true, false, Option, Some, None, List, [], ◌∷◌, slice_get}
use Rattle.std.specs.Option.{option_flatten}
use Rattle.wasm_code.specs.Instruction.{Instruction}
use Rattle.wasm_types.specs.declared.types.PrimitiveTypeInfo.{PrimitiveTypeInfo}
use Rattle.wasm_types.specs.declared.types.PrimitiveTypeInfo.TheVariants as primitive
use Rattle.wasm_execution.specs.Values.{Context, same_type}
use Rattle.wasm_execution.specs.IntegerRow.{is_numeric}
use Rattle.rewrite_rules.specs.Code.{Leaves}
use Rattle.rewrite_rules.specs.Pattern.{Kind, fixed, any, kind_at, hole_kind_of}

-- the type of a hole, where it is not any
abbrev pub fixed_in : Kind → Option PrimitiveTypeInfo
fixed_in (fixed t) = Some t
fixed_in any = None

-- the type that a select is of: that of the first operand, from the hole with the index on, whose hole may have any; where there is none, i32
abbrev pub type_given : PrimitiveTypeInfo → Option PrimitiveTypeInfo → PrimitiveTypeInfo → PrimitiveTypeInfo
type_given t None u = t
type_given t (Some k) u = u

abbrev pub select_type : (kinds : List Kind) → (n : ℕ) → List (Option PrimitiveTypeInfo) → PrimitiveTypeInfo
select_type kinds n [] = primitive.I32
select_type kinds n (None ∷ ts) = select_type kinds (suc n) ts
select_type kinds n (Some t ∷ ts) = type_given t (fixed_in (hole_kind_of kinds n)) (select_type kinds (suc n) ts)

-- an operand has its hole's type, where there is one, and a select is of type `u`
abbrev pub type_in : PrimitiveTypeInfo → Option PrimitiveTypeInfo → PrimitiveTypeInfo
type_in u (Some t) = t
type_in u None = u

abbrev pub has_type : (u : PrimitiveTypeInfo) → (kinds : List Kind) → (n : ℕ) → Option PrimitiveTypeInfo → Bool
has_type u kinds n (Some t) = same_type t (type_in u (fixed_in (hole_kind_of kinds n)))
has_type u kinds n None = true

-- each has
abbrev pub have_types : (u : PrimitiveTypeInfo) → (kinds : List Kind) → (n : ℕ) → List (Option PrimitiveTypeInfo) → Bool
have_types u kinds n [] = true
have_types u kinds n (o ∷ ts) = has_type u kinds n o && have_types u kinds (suc n) ts

-- so it is, and a select is of a number or a vector
abbrev pub types_fit : (kinds : List Kind) → List (Option PrimitiveTypeInfo) → Bool
types_fit kinds ts = is_numeric (select_type kinds 0 ts) && have_types (select_type kinds 0 ts) kinds 0 ts

-- what is said of the type in a hole, or of none
abbrev pub IsTypeIn : Context → (code : List Instruction) → (is_there : Bool) → Option PrimitiveTypeInfo → Type 0
IsTypeIn context code is_there (Some t) = (is_there ≡ true) × Leaves context code t
IsTypeIn context code is_there None = is_there ≡ false

-- The list has of each of these holes the type that the operand in it leaves, and of no other one any.
abbrev pub AreTypes : Context → (x : ℕ → List Instruction) → (is_there : ℕ → Bool) → List (Option PrimitiveTypeInfo) → Type 0
AreTypes context x is_there ts = (n : ℕ) → IsTypeIn context (x n) (is_there n) (option_flatten (slice_get ts n))

-- Each of these operands leaves its hole's type, a select being of some number or vector.
pub record HaveTypes (context : Context) (x : ℕ → List Instruction) (is_there : ℕ → Bool) (kinds : List Kind) : Type 0 where
  pub type : PrimitiveTypeInfo
  pub numeric : is_numeric type ≡ true
  pub leave : (n : ℕ) → is_there n ≡ true → Leaves context (x n) (kind_at type (hole_kind_of kinds n))

-- Types fit exactly where the operands have those of their holes.
pub record TypesAreTold : Type 0 where
  pub same : (context : Context) (x : ℕ → List Instruction) (is_there : ℕ → Bool) (kinds : List Kind) (ts : List (Option PrimitiveTypeInfo)) →
      AreTypes context x is_there ts → types_fit kinds ts ≡ true → HaveTypes context x is_there kinds
  pub only : (context : Context) (x : ℕ → List Instruction) (is_there : ℕ → Bool) (kinds : List Kind) (ts : List (Option PrimitiveTypeInfo)) →
      AreTypes context x is_there ts → HaveTypes context x is_there kinds → types_fit kinds ts ≡ true
