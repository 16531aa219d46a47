-- Values in the order of their numbers (this project), and the numbers of value types.
use Rattle.std.specs.Prelude.{◌≡◌, ℕ, List, Option, Some}
use Rattle.std.specs.Ordering.{nat_cmp}
use Rattle.std.specs.Cmp.Lexicographic.{slice_cmp}
use Rattle.std.specs.declared.cmp.Ordering.{Ordering}
use Rattle.wasm_code.specs.declared.immediate.ValType.{ValType}
use Rattle.wasm_code.specs.declared.immediate.ValType.TheVariants.{I32, I64, F32, F64, V128, FuncRef, ExternRef}

-- two lists of numbers compare as the first two numbers that differ; where none do, as their lengths
abbrev pub lexicographic : List ℕ → List ℕ → Ordering
lexicographic xs ys = slice_cmp nat_cmp xs ys

-- two values compare, by `cmp` and by `partial_cmp`, as the lists of their numbers do
pub record IsOrderedBy {A : Type 0} (numbers : A → List ℕ) (cmp : A → A → Ordering) (partial_cmp : A → A → Option Ordering) : Type 0 where
  pub total : (x y : A) → cmp x y ≡ lexicographic (numbers x) (numbers y)
  pub partial : (x y : A) → partial_cmp x y ≡ Some (lexicographic (numbers x) (numbers y))

-- the place of a value type among the variants
abbrev pub val_type_place : ValType → ℕ
val_type_place I32 = 0
val_type_place I64 = 1
val_type_place F32 = 2
val_type_place F64 = 3
val_type_place V128 = 4
val_type_place FuncRef = 5
val_type_place ExternRef = 6
