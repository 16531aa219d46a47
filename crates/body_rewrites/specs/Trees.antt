-- The trees of a body's operators: code that stands together, each instruction of which leaves one value, and which needs nothing from before it
-- (this project).
use Rattle.std.specs.Prelude.{◌≡◌, ℕ, ◌-◌, ◌+◌, ◌≤◌, ◌<◌, nat_le, if◌then◌else◌, List, [], ◌∷◌, ◌++◌, length, map, take, drop, Option, Some}
use Rattle.std.specs.Prelude.{None, option_map, option_and_then, slice_get, slice_range}
use Rattle.wasm_code.specs.Instruction.{Instruction}
use Rattle.wasm_code.specs.declared.operator.Operator.{Operator}
use Rattle.wasm_code.specs.declared.operator.Operator.TheVariants.{Instr}
use Rattle.wasm_types.specs.declared.types.PrimitiveTypeInfo.{PrimitiveTypeInfo}
use Rattle.wasm_execution.specs.Values.{Context}
use Rattle.wasm_execution.specs.Row.{instruction_types, instruction_count}
use Rattle.rewrite_rules.specs.Code.{Leaves, writes, traps, asks}
use Rattle.body_rewrites.specs.declared.trees.Tree.{Tree}

-- ---- types

-- the one type that is given
abbrev pub one_type : Option (Option PrimitiveTypeInfo) → Option PrimitiveTypeInfo
one_type (Some (Some t)) = Some t
one_type o = None

-- the types behind an instruction that leaves one value, and finds its operands on top of these
abbrev pub tree_behind : Context → Instruction → List PrimitiveTypeInfo → Option (List PrimitiveTypeInfo)
tree_behind context i ts =
    let below = length ts - instruction_count context.info i in
    if nat_le (instruction_count context.info i) (length ts)
    then option_map (λ t. take below ts ++ t ∷ []) (one_type (instruction_types context i (drop below ts))) else None

-- the types behind instructions each of which does
abbrev pub tree_after : Context → List Instruction → List PrimitiveTypeInfo → Option (List PrimitiveTypeInfo)
tree_after context [] ts = Some ts
tree_after context (i ∷ code) ts = option_and_then (tree_after context code) (tree_behind context i ts)

-- ---- in a body

-- those instructions stand there, from `start` up to the one before `end`
abbrev pub Stands : List (Operator × ℕ) → (start end : ℕ) → List Instruction → Type 0
Stands operators start end code = map (λ (o : Operator × ℕ). o.0) (slice_range operators start end) ≡ map (λ (i : Instruction). Instr i) code

-- The code from `start` up to the operator at `at` is a tree, which leaves a value of the type.
pub record IsTree (context : Context) (operators : List (Operator × ℕ)) (start at : ℕ) (t : PrimitiveTypeInfo) : Type 0 where
  pub inside : at < length operators
  pub ordered : start ≤ at
  pub code : List Instruction
  pub stands : Stands operators start (at + 1) code
  pub typed : tree_after context code [] ≡ Some (t ∷ [])

-- The operator at `at` has that tree, and its code may do what is told of it.
pub record HasTree (context : Context) (operators : List (Operator × ℕ)) (at : ℕ) (tree : Tree) : Type 0 where
  pub is : IsTree context operators tree.start at tree.gives
  pub writes_is : tree.writes ≡ writes is.code
  pub traps_is : tree.traps ≡ traps is.code
  pub asks_is : tree.asks ≡ asks is.code

-- What is answered is the operator's tree, and none only where it has none.
abbrev pub IsTreeAt : Context → List (Operator × ℕ) → (at : ℕ) → Option Tree → Type 0
IsTreeAt context operators at (Some tree) = HasTree context operators at tree
IsTreeAt context operators at None = (start : ℕ) (t : PrimitiveTypeInfo) → ¬ (IsTree context operators start at t)

-- The list has for each operator its tree, or none where it has none.
pub record AreTrees (context : Context) (operators : List (Operator × ℕ)) (list : List (Option Tree)) : Type 0 where
  pub count : length list ≡ length operators
  pub each : (at : ℕ) (o : Option Tree) → slice_get list at ≡ Some o → IsTreeAt context operators at o

-- A tree's code needs nothing from before it, and leaves its value.
abbrev pub TreesLeave : Type 0
TreesLeave =
    (context : Context) (operators : List (Operator × ℕ)) (start at : ℕ) (t : PrimitiveTypeInfo) (tree : IsTree context operators start at t) →
    Leaves context tree.code t
