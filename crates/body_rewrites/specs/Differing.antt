-- How pieces are compared with operators that stand in a body (for private functions).
use Rattle.std.specs.Prelude.{◌≡◌, ◌≤◌, ◌-◌, ◌⊎◌, ⊤, ℕ, Option, Some, None, List, ◌++◌, length, slice_get}
use Rattle.std.specs.Option.{option_flatten}
use Rattle.wasm_code.specs.Instruction.{Instruction}
use Rattle.wasm_code.specs.declared.operator.Operator.{Operator}
use Rattle.body_splices.specs.declared.piece.Piece.{Piece}
use Rattle.body_splices.specs.declared.piece.Piece.TheVariants.{Kept, New, Structural}
use Rattle.body_splices.specs.OwnBytes.{without_offsets}
use Rattle.body_splices.specs.Laws.{piece_operators, pieces_operators}
use Rattle.body_rewrites.specs.declared.trees.Tree.{Tree}
use Rattle.body_rewrites.specs.Matching.{operators_in, HaveSameCode}

-- by the list of trees one begins at `start` and ends before `end`, or nothing stands between them
abbrev pub IsTreeIn : List (Option Tree) → (start end : ℕ) → Type 0
IsTreeIn trees start end = (start ≡ end) ⊎ ((tree : Tree) × (option_flatten (slice_get trees (end - 1)) ≡ Some tree) × (tree.start ≡ start))

-- The range stands in the body, and wherever its code stands it is a tree by the list of trees, if it isn't empty.
pub record IsKeptRange (operators : List (Operator × ℕ)) (trees : List (Option Tree)) (kept : ℕ × ℕ) : Type 0 where
  pub ordered : kept.0 ≤ kept.1
  pub inside : kept.1 ≤ length operators
  pub told : (start end : ℕ) → start ≤ end → end ≤ length operators → HaveSameCode operators (start, end) kept → IsTreeIn trees start end

-- so is what the piece keeps; and it is no structural operator
abbrev pub IsKept : List (Operator × ℕ) → List (Option Tree) → Piece → Type 0
IsKept operators trees (Kept start end) = IsKeptRange operators trees (start, end)
IsKept operators trees (New i) = ⊤
IsKept operators trees (Structural c) = ⊥

-- These operators stand from `at` up to the one before the place that is told, which isn't past `end`; where none is told, what stands from `at` up to the one
-- before `end` doesn't begin with them.
abbrev pub IsBehind : List (Operator × ℕ) → List Operator → (at end : ℕ) → Option ℕ → Type 0
IsBehind operators these at end (Some next) = (at ≤ next) × (next ≤ end) × (these ≡ operators_in operators at next)
IsBehind operators these at end None = (rest : List Operator) → ¬ (these ++ rest ≡ operators_in operators at end)

-- the same of a piece's operators, of those of a range, and of one instruction
abbrev pub IsBehindPiece : List (Operator × ℕ) → Piece → (at end : ℕ) → Option ℕ → Type 0
IsBehindPiece operators piece at end o = IsBehind operators (piece_operators (without_offsets operators) piece) at end o

abbrev pub IsBehindKept : List (Operator × ℕ) → (kept : ℕ × ℕ) → (at end : ℕ) → Option ℕ → Type 0
IsBehindKept operators kept at end o = IsBehindPiece operators (Kept kept.0 kept.1) at end o

abbrev pub IsBehindNew : List (Operator × ℕ) → Instruction → (at end : ℕ) → Option ℕ → Type 0
IsBehindNew operators i at end o = IsBehindPiece operators (New i) at end o

-- the pieces are the operators from `start` up to the one before `end`
abbrev pub ArePieces : List (Operator × ℕ) → (start end : ℕ) → List Piece → Type 0
ArePieces operators start end pieces = pieces_operators (without_offsets operators) pieces ≡ operators_in operators start end
