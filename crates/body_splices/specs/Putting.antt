-- Bytes of a body's operators, as they are found and written: for private functions (this project).
use Rattle.std.specs.Prelude.{◌≡◌, ℕ, ⊤, List, ◌++◌, map, take, drop, slice_index}
use Rattle.std.specs.List.{All}
use Rattle.wasm_code.specs.Body.{bytes_of}
use Rattle.wasm_code.specs.Instruction.{IsInstruction}
use Rattle.wasm_code.specs.declared.operator.Operator.{Operator}
use Rattle.body_splices.specs.declared.piece.Piece.{Piece}
use Rattle.body_splices.specs.declared.piece.Piece.TheVariants.{Kept, New, Structural}
use Rattle.body_splices.specs.Control.{LabelInRange}
use Rattle.body_splices.specs.Splice.{piece_bytes, pieces_bytes}

-- where an operator starts in the input
abbrev pub offset_of : List (Operator × ℕ) → ℕ → ℕ
offset_of operators at = slice_index (map (λ (o : Operator × ℕ). o.1) operators) at

-- what is new is an instruction of the table, or a structural operator whose label is of its type
abbrev pub IsCoded : Piece → Type 0
IsCoded (Kept start end) = ⊤
IsCoded (New i) = IsInstruction i
IsCoded (Structural c) = LabelInRange c

-- The bytes of the piece are behind what there was.
pub record PutsPiece (own : List (Operator × List ℕ)) (piece : Piece) (old new : List ℕ) : Type 0 where
  pub coded : IsCoded piece
  pub grown : new ≡ old ++ bytes_of (piece_bytes own piece)

-- The bytes of the pieces are.
pub record PutsPieces (own : List (Operator × List ℕ)) (pieces : List Piece) (old new : List ℕ) : Type 0 where
  pub coded : All IsCoded pieces
  pub grown : new ≡ old ++ bytes_of (pieces_bytes own pieces)

-- Those of the operators before, of the pieces, and of the operators behind are.
pub record PutsSpliced (own : List (Operator × List ℕ)) (start end : ℕ) (pieces : List Piece) (old new : List ℕ) : Type 0 where
  pub coded : All IsCoded pieces
  pub grown : new ≡ old ++ (bytes_of (take start own) ++ (bytes_of (pieces_bytes own pieces) ++ bytes_of (drop end own)))
