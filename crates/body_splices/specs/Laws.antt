-- What holds of bodies in which operators were replaced by pieces (this project).
use Rattle.std.specs.Prelude.{◌≡◌, ◌≤◌, ⊤, Bool, true, ℕ, List, [], ◌∷◌, ◌++◌, map, take, drop, slice_range}
use Rattle.std.specs.List.{All}
use Rattle.wasm_code.specs.Body.{SpellsCode, bytes_of}
use Rattle.wasm_code.specs.Instruction.{Instruction}
use Rattle.wasm_code.specs.declared.operator.Operator.{Operator}
use Rattle.wasm_code.specs.declared.operator.Operator.TheVariants.{Instr}
use Rattle.body_splices.specs.declared.piece.Piece.{Piece}
use Rattle.body_splices.specs.declared.piece.Piece.TheVariants.{Kept, New, Structural}
use Rattle.body_splices.specs.Control.{control_operator}
use Rattle.body_splices.specs.OwnBytes.{IsBodyIn, own_bytes, bytes_where, none_of, structural_bytes, without_offsets}
use Rattle.body_splices.specs.Splice.{AppendsSpliced}

-- The bytes of a body's operators, joined, are all its bytes.
abbrev pub OwnBytesAreTheBody : Type 0
OwnBytesAreTheBody =
    (input : List ℕ) (operators : List (Operator × ℕ)) (body : IsBodyIn input operators) →
    bytes_of (own_bytes input operators) ≡ slice_range input body.from body.to

-- A body that stands in two places has the same operators there, with the same bytes.
abbrev pub OwnBytesStay : Type 0
OwnBytesStay =
    (input other text back behind : List ℕ) (from to : ℕ) (operators there : List (Operator × ℕ)) → drop from input ≡ text ++ back →
    drop to other ≡ text ++ behind → SpellsCode from text operators → SpellsCode to text there → own_bytes input operators ≡ own_bytes other there

-- ---- the operators

-- the operators of a piece
abbrev pub piece_operators : List Operator → Piece → List Operator
piece_operators operators (Kept start end) = slice_range operators start end
piece_operators operators (New i) = Instr i ∷ []
piece_operators operators (Structural c) = control_operator c ∷ []

-- those of the pieces, one behind another
abbrev pub pieces_operators : List Operator → List Piece → List Operator
pieces_operators operators [] = []
pieces_operators operators (piece ∷ pieces) = piece_operators operators piece ++ pieces_operators operators pieces

-- What is read again are the operators before, those of the pieces, and the operators behind.
abbrev pub SplicedOperatorsAre : Type 0
SplicedOperatorsAre =
    (input : List ℕ) (operators : List (Operator × ℕ)) (start end : ℕ) (pieces : List Piece) (old new : List ℕ)
    (spliced : AppendsSpliced input operators start end pieces old new) →
    without_offsets spliced.again ≡ take start (without_offsets operators)
    ++ (pieces_operators (without_offsets operators) pieces ++ drop end (without_offsets operators))

-- ---- what stays

-- Operators of a kind, of which there are none in the range nor among the pieces, stay as they were, with their bytes.
abbrev pub SplicesKeepOperators : Type 0
SplicesKeepOperators =
    (holds : Operator → Bool) (input : List ℕ) (operators : List (Operator × ℕ)) (start end : ℕ) (pieces : List Piece) (old new : List ℕ)
    (spliced : AppendsSpliced input operators start end pieces old new) → start ≤ end →
    none_of holds (slice_range (without_offsets operators) start end) ≡ true → none_of holds (pieces_operators (without_offsets operators) pieces) ≡ true →
    bytes_where holds (own_bytes spliced.text spliced.again) ≡ bytes_where holds (own_bytes input operators)

-- Instructions stand there, from `start` up to the one before `end`.
pub record AreInstructions (operators : List (Operator × ℕ)) (start end : ℕ) : Type 0 where
  pub instructions : List Instruction
  pub stand : without_offsets (slice_range operators start end) ≡ map (λ (i : Instruction). Instr i) instructions

-- the piece is a new instruction, or keeps instructions
abbrev pub KeepsInstructions : List (Operator × ℕ) → Piece → Type 0
KeepsInstructions operators (Kept start end) = AreInstructions operators start end
KeepsInstructions operators (New i) = ⊤
KeepsInstructions operators (Structural c) = ⊥

-- Instructions in the place of instructions leave all other operators as they were, with their bytes; so the body is as well nested as it was.
abbrev pub SplicesKeepStructure : Type 0
SplicesKeepStructure =
    (input : List ℕ) (operators : List (Operator × ℕ)) (start end : ℕ) (pieces : List Piece) (old new : List ℕ)
    (spliced : AppendsSpliced input operators start end pieces old new) → start ≤ end → AreInstructions operators start end →
    All (KeepsInstructions operators) pieces → structural_bytes (own_bytes spliced.text spliced.again) ≡ structural_bytes (own_bytes input operators)
