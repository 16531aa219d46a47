-- Blocks: what their types take and leave, and where they part and end
-- (WebAssembly Core Specification 3.0, Validation, Types, Block Types; Syntax, Instructions, Control Instructions).
use Rattle.std.specs.Prelude.{ℕ, zero, suc, ◌==◌, Bool, true, false, if◌then◌else◌, List, [], ◌∷◌, ◌++◌, slice_get, Option, Some, None}
use Rattle.wasm_code.specs.declared.immediate.BlockType.{BlockType}
use Rattle.wasm_code.specs.declared.immediate.BlockType.TheVariants as block
use Rattle.wasm_code.specs.declared.operator.Operator.{Operator}
use Rattle.wasm_code.specs.declared.operator.Operator.TheVariants as op
use Rattle.wasm_code.specs.declared.other.Other.{Other}
use Rattle.wasm_code.specs.declared.other.Other.TheVariants as others
use Rattle.wasm_types.specs.Module.{Module, merged}
use Rattle.wasm_types.specs.declared.types.PrimitiveTypeInfo.{PrimitiveTypeInfo}
use Rattle.wasm_types.specs.declared.types.PrimitiveTypeInfo.TheVariants as primitive
use Rattle.wasm_types.specs.declared.types.TypeInfo.{TypeInfo}
use Rattle.wasm_types.specs.declared.types.TypeInfo.TheVariants as declared
use Rattle.wasm_types.specs.declared.types.TableType.{TableType}
use Rattle.wasm_execution.specs.OtherRow.{value_type, address_type}

-- ---- block types

-- a block type or a function type: what is taken at the start, and what is left at the end
pub record Arity : Type 0 where
  pub starts : List PrimitiveTypeInfo
  pub ends : List PrimitiveTypeInfo

-- what a function type takes and leaves: nothing where the module has none such
abbrev pub function_arity : Option TypeInfo → Arity
function_arity (Some (declared.Func t)) = record { starts = t.params; ends = t.returns }
function_arity (Some declared.Other) = record { starts = []; ends = [] }
function_arity None = record { starts = []; ends = [] }

-- the type of a block: none, one result, or a function type of the module; of other references than to functions and outside there is one type, `Empty`
abbrev pub arity_of : Module → BlockType → Arity
arity_of m block.Empty = record { starts = []; ends = [] }
arity_of m (block.Value t) = record { starts = []; ends = merged m.one_reference (value_type t) ∷ [] }
arity_of m (block.FuncType i) = function_arity (slice_get m.types i)
arity_of m block.Reference = record { starts = []; ends = primitive.Empty ∷ [] }

-- a function's type is there
abbrev pub is_arity : Option TypeInfo → Bool
is_arity (Some (declared.Func t)) = true
is_arity (Some declared.Other) = false
is_arity None = false

-- the block type is valid: a function type that it names is there
abbrev pub has_arity : Module → BlockType → Bool
has_arity m (block.FuncType i) = is_arity (slice_get m.types i)
has_arity m t = true

-- the type of a table's indices; i32 where there is no such table
abbrev pub table_index_type : Option TableType → PrimitiveTypeInfo
table_index_type (Some t) = address_type t.table64
table_index_type None = primitive.I32

-- a call through a table takes the function's parameters and an index into the table
abbrev pub call_arity : Module → (type table : ℕ) → Arity
call_arity m type table =
    let f = function_arity (slice_get m.types type) in
    record { starts = f.starts ++ table_index_type (slice_get m.tables table) ∷ []; ends = f.ends }

-- ---- where blocks end

-- what an operator is to blocks: it opens one, begins its other part, closes it, or stands in it
pub data Nesting : Type 0 where
  opens parts closes stays : Nesting

-- what another operator is to a function: `try_table`, a block that catches exceptions; the older `try`, a block whose further parts do; `catch` and
-- `catch_all`, which begin such a part; `delegate`, which ends a `try` without any; all others do a deed
pub data Role : Type 0 where
  handles tries catches delegates does : Role

-- by the byte of the opcode
abbrev pub role_by : ℕ → Role
role_by b =
    if b == 0x1f then handles else if b == 0x06 then tries else if b == 0x07 then catches else if b == 0x19 then catches
    else if b == 0x18 then delegates else does

abbrev pub role_of : Other → Role
role_of (others.Byte b) = role_by b
role_of o = does

-- what it is to blocks
abbrev pub other_nesting : Role → Nesting
other_nesting handles = opens
other_nesting tries = opens
other_nesting catches = parts
other_nesting delegates = closes
other_nesting does = stays

-- the operators that open, part and close blocks; all others stand in them
abbrev pub nesting : Operator → Nesting
nesting (op.Other o) = other_nesting (role_of o)
nesting (op.Block t) = opens
nesting (op.Loop t) = opens
nesting (op.If t) = opens
nesting op.Else = parts
nesting op.End = closes
nesting o = stays

-- one step of `closing`, by what the operator with number k is to blocks
abbrev pub closing_at : Nesting → (depth k : ℕ) → (later : ℕ → ℕ) → ℕ
closing_at closes zero k later = k
closing_at closes (suc depth) k later = later depth
closing_at opens depth k later = later (suc depth)
closing_at parts depth k later = later depth
closing_at stays depth k later = later depth

-- of the operators from number k on, the number of the end that closes `depth` blocks and the one around them
abbrev pub closing : (depth k : ℕ) → List Operator → ℕ
closing depth k [] = k
closing depth k (o ∷ os) = closing_at (nesting o) depth k (λ d. closing d (suc k) os)

-- one step of `other_part`, which stops at the end of the conditional itself
abbrev pub other_part_at : Nesting → (depth k : ℕ) → (later : ℕ → Option ℕ) → Option ℕ
other_part_at parts zero k later = Some k
other_part_at parts (suc depth) k later = later (suc depth)
other_part_at closes zero k later = None
other_part_at closes (suc depth) k later = later depth
other_part_at opens depth k later = later (suc depth)
other_part_at stays depth k later = later depth

-- the number of the `else` before that end, where there is one
abbrev pub other_part : (depth k : ℕ) → List Operator → Option ℕ
other_part depth k [] = None
other_part depth k (o ∷ os) = other_part_at (nesting o) depth k (λ d. other_part d (suc k) os)

-- one step of `parts_from`
abbrev pub parts_at : Nesting → (depth k : ℕ) → (later : ℕ → List ℕ) → List ℕ
parts_at parts zero k later = k ∷ later zero
parts_at parts (suc depth) k later = later (suc depth)
parts_at closes zero k later = []
parts_at closes (suc depth) k later = later depth
parts_at opens depth k later = later (suc depth)
parts_at stays depth k later = later depth

-- of the operators from number k on, the numbers of those that begin another part of the block around `depth` others
abbrev pub parts_from : (depth k : ℕ) → List Operator → List ℕ
parts_from depth k [] = []
parts_from depth k (o ∷ os) = parts_at (nesting o) depth k (λ d. parts_from d (suc k) os)
