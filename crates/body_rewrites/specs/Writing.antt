-- What a line of the table writes: its right side, with the operands as they stand (this project).
use Rattle.std.specs.Prelude.{ℕ, ◌+◌, List, [], ◌∷◌, length, drop, get_or, slice_range}
use Rattle.wasm_code.specs.declared.operator.Operator.{Operator}
use Rattle.body_splices.specs.OwnBytes.{without_offsets}
use Rattle.body_splices.specs.declared.piece.Piece.{Piece}
use Rattle.body_splices.specs.declared.piece.Piece.TheVariants.{Kept, New}
use Rattle.rewrite_rules.specs.declared.pattern.Part.{Part}
use Rattle.rewrite_rules.specs.declared.pattern.Part.TheVariants.{Hole, Constant, Drawn, Apply}
use Rattle.rewrite_rules.specs.Instance.{constant_code, operator_code}
use Rattle.rewrite_rules.specs.Numbers.{constant_at, first_word, number_of}
use Rattle.rewrite_rules.specs.Parts.{draws}
use Rattle.rewrite_rules.specs.Table.{parts_for}
use Rattle.body_rewrites.specs.declared.places.Line.{Line}
use Rattle.body_rewrites.specs.declared.places.Place.{Place}
use Rattle.body_rewrites.specs.Changes.{Change}

-- the piece of a part: the operators in its hole, or the instruction
abbrev pub piece_for : (operands : List (ℕ × ℕ)) → (c : ℕ → ℕ) → (words : List ℕ) → Part → Piece
piece_for operands c words (Hole n) = Kept (get_or operands n (0, 0)).0 (get_or operands n (0, 0)).1
piece_for operands c words (Constant t e) = New (constant_code t (number_of t c e))
piece_for operands c words (Drawn t) = New (constant_code t (first_word words))
piece_for operands c words (Apply o) = New (operator_code o)

-- those of parts, one behind another
abbrev pub side_pieces : (operands : List (ℕ × ℕ)) → (c : ℕ → ℕ) → (words : List ℕ) → List Part → List Piece
side_pieces operands c words [] = []
side_pieces operands c words (p ∷ ps) = piece_for operands c words p ∷ side_pieces operands c (drop (draws p) words) ps

-- how many operators a part is, and parts are
abbrev pub part_count : List (Operator × ℕ) → (operands : List (ℕ × ℕ)) → Part → ℕ
part_count operators operands (Hole n) =
    length (slice_range (without_offsets operators) (get_or operands n (0, 0)).0 (get_or operands n (0, 0)).1)
part_count operators operands p = 1

abbrev pub parts_count : List (Operator × ℕ) → (operands : List (ℕ × ℕ)) → List Part → ℕ
parts_count operators operands [] = 0
parts_count operators operands (p ∷ ps) = part_count operators operands p + parts_count operators operands ps

-- what the line writes in its place
abbrev pub by_line : Line → Place → Change
by_line line place = record {
  start = place.start;
  pieces = λ word. side_pieces place.operands (constant_at place.numbers) (word ∷ []) (parts_for line.width line.row.right);
  asks = [];
}
