-- The blocks that are open behind operators (after the WebAssembly Core Specification 3.0, Validation, Instructions, Control Instructions, and Structure,
-- Instructions, Control Instructions: labels count from the innermost block on).
use Rattle.std.specs.Prelude.{◌≡◌, ℕ, Bool, true, false, if◌then◌else◌, List, [], ◌∷◌, take, drop, Some, slice_get}
use Rattle.wasm_code.specs.declared.immediate.BlockType.TheVariants.{Empty, Value}
use Rattle.wasm_code.specs.declared.operator.Operator.{Operator}
use Rattle.wasm_code.specs.declared.operator.Operator.TheVariants.{Block, Loop, If, End}

-- it opens a block
abbrev pub opens_block : Operator → Bool
opens_block (Block t) = true
opens_block (Loop t) = true
opens_block (If t) = true
opens_block o = false

-- It opens a block to whose label a branch takes nothing: no results, and of a loop no parameters.
abbrev pub opens_bare : Operator → Bool
opens_bare (Block Empty) = true
opens_bare (Loop Empty) = true
opens_bare (Loop (Value t)) = true
opens_bare (If Empty) = true
opens_bare o = false

-- the openers of the blocks that are open behind the operator, the innermost first, where these were open before it; blocks that catch exceptions aside
abbrev pub open_after : Operator → List Operator → List Operator
open_after End opened = drop 1 opened
open_after o opened = if opens_block o then o ∷ opened else opened

-- the same behind operators
abbrev pub open_behind : List Operator → List Operator → List Operator
open_behind [] opened = opened
open_behind (o ∷ os) opened = open_behind os (open_after o opened)

-- those of the blocks of a body that are open before the operator at `at`
abbrev pub open_before : List Operator → (at : ℕ) → List Operator
open_before operators at = open_behind (take at operators) []

-- To the label with that depth a branch behind these operators of a body takes nothing.
pub record TakesNothing (front : List Operator) (label : ℕ) : Type 0 where
  pub opener : Operator
  pub is_open : slice_get (open_behind front []) label ≡ Some opener
  pub bare : opens_bare opener ≡ true
