-- The blocks of a body that are open before each of its operators (this project; labels as in the WebAssembly Core Specification 3.0, Structure,
-- Instructions, Control Instructions).
use Rattle.std.specs.Prelude.{◌≡◌, ℕ, ◌<◌, ◌≤◌, List, [], ◌∷◌, length, Option, Some, None, slice_get}
use Rattle.std.specs.Option.{option_flatten}
use Rattle.wasm_code.specs.declared.operator.Operator.{Operator}
use Rattle.body_splices.specs.OwnBytes.{without_offsets}
use Rattle.wrapped_code.specs.Opened.{open_before}
use Rattle.body_rewrites.specs.declared.blocks.Blocks.{Blocks}
use Rattle.body_rewrites.specs.declared.blocks.Nest.{Nest}

-- the openers of the blocks that are open before the operator at `at`, the innermost first
abbrev pub opened : List (Operator × ℕ) → (at : ℕ) → List Operator
opened operators at = open_before (without_offsets operators) at

-- The innermost block that is open before the operator begins there, and around it those are open that were before its opener; or none is.
abbrev pub IsInnermost : List (Operator × ℕ) → (at : ℕ) → Option ℕ → Type 0
IsInnermost operators at (Some place) =
    (place < at) × (o : Operator) × (slice_get (without_offsets operators) place ≡ Some o) × (opened operators at ≡ o ∷ opened operators place)
IsInnermost operators at None = opened operators at ≡ []

-- so it is for each of so many operators
pub record AreInnermost (operators : List (Operator × ℕ)) (count : ℕ) (list : List (Option ℕ)) : Type 0 where
  pub count_is : length list ≡ count
  pub each : (at : ℕ) (o : Option ℕ) → slice_get list at ≡ Some o → IsInnermost operators at o

-- These are the blocks of the body: the innermost one of each operator, and how many are open where most are.
pub record AreBlocks (operators : List (Operator × ℕ)) (blocks : Blocks) : Type 0 where
  pub innermost_are : AreInnermost operators (length operators) blocks.innermost.items
  pub most : (at : ℕ) → length (opened operators at) ≤ blocks.deepest
  pub reached : (at : ℕ) × (length (opened operators at) ≡ blocks.deepest)

-- A block more may be put anywhere: nowhere two hundred are open.
abbrev pub HasRoomForBlock : List (Operator × ℕ) → Type 0
HasRoomForBlock operators = (at : ℕ) → length (opened operators at) < 200

-- ---- how they are found (for private functions)

-- where the innermost block begins before the operator, by such a list
abbrev pub outer_at : List (Option ℕ) → (at : ℕ) → Option ℕ
outer_at list at = option_flatten (slice_get list at)

-- the blocks before the operator
pub record IsNest (operators : List (Operator × ℕ)) (at : ℕ) (nest : Nest) : Type 0 where
  pub innermost_is : IsInnermost operators at nest.innermost
  pub depth_is : length (opened operators at) ≡ nest.depth

-- where the block begins whose label has that depth before the operator, or that there is none
abbrev pub IsOpenerOf : List (Operator × ℕ) → (at label : ℕ) → Option ℕ → Type 0
IsOpenerOf operators at label (Some place) =
    (o : Operator) × (slice_get (without_offsets operators) place ≡ Some o) × (slice_get (opened operators at) label ≡ Some o)
IsOpenerOf operators at label None = slice_get (opened operators at) label ≡ None
