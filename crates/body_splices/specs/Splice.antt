-- Operators of a body replaced by others of its operators and by new instructions: what the body then is (this project).
use Rattle.std.specs.Prelude.{◌≡◌, ◌≤◌, ◌<◌, ⊤, ℕ, List, [], ◌∷◌, ◌++◌, length, take, drop, slice_range}
use Rattle.wasm_code.specs.Body.{SpellsCode, bytes_of}
use Rattle.wasm_code.specs.Code.{code}
use Rattle.wasm_code.specs.declared.operator.Operator.{Operator}
use Rattle.wasm_code.specs.declared.operator.Operator.TheVariants.{Instr}
use Rattle.body_splices.specs.declared.piece.Piece.{Piece}
use Rattle.body_splices.specs.declared.piece.Piece.TheVariants.{Kept, New, Structural}
use Rattle.body_splices.specs.Control.{control_operator, control_bytes}
use Rattle.body_splices.specs.OwnBytes.{own_bytes}

-- The operators from `start` up to the one before `end` stand in the body, and something stands behind them.
pub record IsRangeIn (operators : List (Operator × ℕ)) (start end : ℕ) : Type 0 where
  pub ordered : start ≤ end
  pub inside : end < length operators

-- What the piece keeps stands there, and isn't the body's own end.
abbrev pub IsPieceIn : List (Operator × ℕ) → Piece → Type 0
IsPieceIn operators (Kept start end) = IsRangeIn operators start end
IsPieceIn operators (New i) = ⊤
IsPieceIn operators (Structural c) = ⊤

-- the operators of a piece with their bytes: those that are kept have the bytes that they had, a new instruction has its code, a structural operator its
-- bytes
abbrev pub piece_bytes : List (Operator × List ℕ) → Piece → List (Operator × List ℕ)
piece_bytes own (Kept start end) = slice_range own start end
piece_bytes own (New i) = (Instr i, code i) ∷ []
piece_bytes own (Structural c) = (control_operator c, control_bytes c) ∷ []

-- those of the pieces, one behind another
abbrev pub pieces_bytes : List (Operator × List ℕ) → List Piece → List (Operator × List ℕ)
pieces_bytes own [] = []
pieces_bytes own (piece ∷ pieces) = piece_bytes own piece ++ pieces_bytes own pieces

-- The sink has grown by a body that has the pieces in the place of the operators from `start` up to the one before `end`: the bytes of the operators before,
-- those of the pieces, and those of the operators behind. It is read as these operators, each with these bytes.
pub record AppendsSpliced (input : List ℕ) (operators : List (Operator × ℕ)) (start end : ℕ) (pieces : List Piece) (old new : List ℕ) : Type 0 where
  pub text : List ℕ
  pub appended : new ≡ old ++ text
  pub text_is :
      text ≡ bytes_of (take start (own_bytes input operators))
      ++ (bytes_of (pieces_bytes (own_bytes input operators) pieces) ++ bytes_of (drop end (own_bytes input operators)))
  -- how it is read
  pub again : List (Operator × ℕ)
  pub spells : SpellsCode 0 text again
  pub bytes_are :
      own_bytes text again ≡ take start (own_bytes input operators)
      ++ (pieces_bytes (own_bytes input operators) pieces ++ drop end (own_bytes input operators))
