-- What rules are written in: patterns of code, with holes for operands and constants for numbers; and what a reader of one sees at once: its holes, its
-- types, whether it is well formed (this project).
use Rattle.std.specs.Prelude.{ℕ, ◌+◌, ◌&&◌, ◌||◌, not, Bool, true, false, List, [], ◌∷◌, ◌++◌, map, get_or, Option, Some, None, is_some}
use Rattle.wasm_types.specs.declared.types.PrimitiveTypeInfo.{PrimitiveTypeInfo}
use Rattle.wasm_types.specs.declared.types.PrimitiveTypeInfo.TheVariants as primitive
use Rattle.wasm_execution.specs.declared.integer.IntegerType.{IntegerType}
use Rattle.wasm_execution.specs.Values.{type_of, same_type}
use Rattle.wasm_execution.specs.Operation.{operator_of}
use Rattle.rewrite_rules.specs.declared.pattern.Operator.{Operator}
use Rattle.rewrite_rules.specs.declared.pattern.Operator.TheVariants.{Whole, Select, Exact}
use Rattle.rewrite_rules.specs.declared.pattern.Number.{Number}
use Rattle.rewrite_rules.specs.Code.{operation_traps}
use Rattle.rewrite_rules.specs.Exact.{ExactOperator, exact_at}

-- ---- operators

-- it has a value on all numbers
abbrev pub is_total : Operator → Bool
is_total (Whole f) = not (operation_traps f)
is_total Select = true
is_total (Exact row lane) = true

-- it is one that is known: a row and a lane may be none that is exact
abbrev pub is_operator_known : Operator → Bool
is_operator_known (Exact row lane) = is_some (exact_at row lane)
is_operator_known o = true

-- it is an exact row, which does as it does in exact worlds alone
abbrev pub is_exact_operator : Operator → Bool
is_exact_operator (Exact row lane) = true
is_exact_operator o = false

-- ---- types

-- a type, or the one that a select is of
pub data Kind : Type 0 where
  fixed : PrimitiveTypeInfo → Kind
  any : Kind

-- the type, where a select is of type `u`
abbrev pub kind_at : (u : PrimitiveTypeInfo) → Kind → PrimitiveTypeInfo
kind_at u (fixed t) = t
kind_at u any = u

-- those of an exact row that is known
abbrev pub operands_told : Option ExactOperator → List PrimitiveTypeInfo
operands_told None = []
operands_told (Some o) = o.operands

abbrev pub result_told : Option ExactOperator → PrimitiveTypeInfo
result_told None = primitive.I32
result_told (Some o) = o.result

-- the types of an operator's operands, and of its result
abbrev pub operands_of : Operator → List Kind
operands_of (Whole f) = map fixed (operator_of f).operands
operands_of Select = any ∷ any ∷ fixed primitive.I32 ∷ []
operands_of (Exact row lane) = map fixed (operands_told (exact_at row lane))

abbrev pub result_of : Operator → Kind
result_of (Whole f) = fixed (type_of (operator_of f).result)
result_of Select = any
result_of (Exact row lane) = fixed (result_told (exact_at row lane))

-- ---- patterns

infixr 50 ◌▹◌
mutual
  pub data Pattern : Type 0 where
    -- any operand that leaves one value; the same index stands for the same code
    hole : ℕ → Pattern
    -- a constant, and a drawn one
    constant : IntegerType → Number → Pattern
    drawn : IntegerType → Pattern
    -- an operator behind its operands
    apply : Operator → Patterns → Pattern

  pub data Patterns : Type 0 where
    none : Patterns
    ◌▹◌ : Pattern → Patterns → Patterns

-- its holes, in the order in which they run
abbrev mutual
  pub holes : Pattern → List ℕ
  holes (hole n) = n ∷ []
  holes (constant t e) = []
  holes (drawn t) = []
  holes (apply o ps) = holes_in ps

  pub holes_in : Patterns → List ℕ
  holes_in none = []
  holes_in (p ▹ ps) = holes p ++ holes_in ps

-- how many numbers it draws
abbrev mutual
  pub draws_by : Pattern → ℕ
  draws_by (hole n) = 0
  draws_by (constant t e) = 0
  draws_by (drawn t) = 1
  draws_by (apply o ps) = draws_all ps

  pub draws_all : Patterns → ℕ
  draws_all none = 0
  draws_all (p ▹ ps) = draws_by p + draws_all ps

-- ---- well formed

-- a hole's type, by its index
abbrev pub hole_kind_of : (kinds : List Kind) → ℕ → Kind
hole_kind_of kinds n = get_or kinds n any

-- what the pattern leaves
abbrev pub kind_in : (kinds : List Kind) → Pattern → Kind
kind_in kinds (hole n) = hole_kind_of kinds n
kind_in kinds (constant t e) = fixed (type_of t)
kind_in kinds (drawn t) = fixed (type_of t)
kind_in kinds (apply o ps) = result_of o

abbrev pub kinds_in : (kinds : List Kind) → Patterns → List Kind
kinds_in kinds none = []
kinds_in kinds (p ▹ ps) = kind_in kinds p ∷ kinds_in kinds ps

abbrev pub same_kind : Kind → Kind → Bool
same_kind (fixed t) (fixed u) = same_type t u
same_kind any any = true
same_kind k l = false

abbrev pub same_kinds : List Kind → List Kind → Bool
same_kinds [] [] = true
same_kinds (k ∷ ks) (l ∷ ls) = same_kind k l && same_kinds ks ls
same_kinds ks ls = false

-- each operator is known, and has operands of its types
abbrev mutual
  pub fits : (kinds : List Kind) → Pattern → Bool
  fits kinds (hole n) = true
  fits kinds (constant t e) = true
  fits kinds (drawn t) = true
  fits kinds (apply o ps) = is_operator_known o && (same_kinds (kinds_in kinds ps) (operands_of o) && fit kinds ps)

  pub fit : (kinds : List Kind) → Patterns → Bool
  fit kinds none = true
  fit kinds (p ▹ ps) = fits kinds p && fit kinds ps

-- one of its operators is an exact row
abbrev mutual
  pub uses_exact : Pattern → Bool
  uses_exact (hole n) = false
  uses_exact (constant t e) = false
  uses_exact (drawn t) = false
  uses_exact (apply o ps) = is_exact_operator o || some_exact ps

  pub some_exact : Patterns → Bool
  some_exact none = false
  some_exact (p ▹ ps) = uses_exact p || some_exact ps

-- all its operators have values on all numbers
abbrev mutual
  pub never_traps : Pattern → Bool
  never_traps (hole n) = true
  never_traps (constant t e) = true
  never_traps (drawn t) = true
  never_traps (apply o ps) = is_total o && none_traps ps

  pub none_traps : Patterns → Bool
  none_traps none = true
  none_traps (p ▹ ps) = never_traps p && none_traps ps

-- all but the root's
abbrev pub traps_at_root : Pattern → Bool
traps_at_root (apply o ps) = none_traps ps
traps_at_root p = true
