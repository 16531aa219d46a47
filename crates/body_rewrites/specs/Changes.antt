-- What a rule writes in the place of an operator, and of operators right before it; and when that may stand there (this project).
use Rattle.std.specs.Prelude.{◌≡◌, ℕ, ◌+◌, ◌≤◌, ◌<◌, IsTrue, true, List, ◌++◌, length, take, drop, slice_range}
use Rattle.std.specs.List.{All}
use Rattle.std.specs.Prelude.{option_to_list}
use Rattle.wasm_code.specs.Instruction.{Instruction}
use Rattle.wasm_code.specs.declared.operator.Operator.{Operator}
use Rattle.wasm_types.specs.declared.types.PrimitiveTypeInfo.{PrimitiveTypeInfo}
use Rattle.body_splices.specs.declared.piece.Piece.{Piece}
use Rattle.body_splices.specs.OwnBytes.{none_of, without_offsets}
use Rattle.body_splices.specs.Splice.{IsPieceIn}
use Rattle.body_splices.specs.Laws.{pieces_operators, KeepsInstructions}
use Rattle.wasm_code.specs.Body.{ends}
use Rattle.wasm_execution.specs.Values.{Context}
use Rattle.wasm_equivalence.specs.control.Standard.{asks_beyond}
use Rattle.wrapped_code.specs.Handlers.{none_handle}
use Rattle.body_rewrites.specs.Doing.{DoesAsBody}
use Rattle.rewrite_rules.specs.Beside.{StandsWith}
use Rattle.body_rewrites.specs.declared.changes.NewCode.{NewCode}
use Rattle.body_rewrites.specs.Trees.{Stands}
use Rattle.body_rewrites.specs.Matching.{instructions}

-- From which operator on, up to the one that is rewritten; what is written, by the word that is drawn; and the types of the globals that it asks for.
pub record Change : Type 0 where
  pub start : ℕ
  pub pieces : (word : ℕ) → List Piece
  pub asks : List PrimitiveTypeInfo

-- the instructions of pieces
abbrev pub pieces_code : List (Operator × ℕ) → List Piece → List Instruction
pieces_code operators pieces = instructions (pieces_operators (without_offsets operators) pieces)

-- the body's operators with the change by the word
abbrev pub changed : List (Operator × ℕ) → (at : ℕ) → Change → (word : ℕ) → List Operator
changed operators at change word =
    take change.start (without_offsets operators)
    ++ (pieces_operators (without_offsets operators) (change.pieces word) ++ drop (at + 1) (without_offsets operators))

-- What is written may stand there: the body with it does what it did, if no operator opens a block that catches exceptions; neither among what is replaced
-- nor among what is written is an operator that asks more than it carries, such as the labels of a branch by a table.
pub record MayStand (context : Context) (operators : List (Operator × ℕ)) (at : ℕ) (change : Change) : Type 0 where
  pub ordered : change.start ≤ at
  pub followed : at < length operators → IsTrue (ends operators) → at + 1 < length operators
  pub within : (word : ℕ) → at + 1 < length operators → All (IsPieceIn operators) (change.pieces word)
  pub unasked : none_of asks_beyond (slice_range (without_offsets operators) change.start (at + 1)) ≡ true
  pub unasking : (word : ℕ) → none_of asks_beyond (pieces_operators (without_offsets operators) (change.pieces word)) ≡ true
  pub does : (word : ℕ) → at < length operators → none_handle (without_offsets operators) ≡ true →
      DoesAsBody context change.asks (without_offsets operators) (changed operators at change word)

-- Instructions are replaced by instructions, of the body or new ones, that do the same in every body, and are valid wherever those are, with the globals that
-- are asked for. That may stand there.
pub record KeepsCode (context : Context) (operators : List (Operator × ℕ)) (at : ℕ) (change : Change) : Type 0 where
  pub ordered : change.start ≤ at
  pub old : List Instruction
  pub stands : Stands operators change.start (at + 1) old
  pub within : (word : ℕ) → at + 1 < length operators → All (IsPieceIn operators) (change.pieces word)
  pub keep : (word : ℕ) → All (KeepsInstructions operators) (change.pieces word)
  pub same : (word : ℕ) → StandsWith context change.asks old (pieces_code operators (change.pieces word))

-- It is what the change writes by the word.
pub record IsWritten (change : Change) (word : ℕ) (code : NewCode) : Type 0 where
  pub start_is : code.start ≡ change.start
  pub pieces_are : code.pieces.items ≡ change.pieces word
  pub asks_are : option_to_list code.asks ≡ change.asks
