-- Those so far, and the words that are left; the operators that are left are instructions.
use Rattle.std.proofs.Common.{◌≡◌, ◌≤◌, [], ◌∷◌, ◌++◌, drop}
use Rattle.arrayvec.specs.ArrayVec.{array_vec_len}
use Rattle.rewrite_rules.specs.Numbers.{constant_at}
use Rattle.std.specs.List.{All}
use Rattle.rewrite_rules.specs.Table.{parts_for, PartIsInstruction}
use Rattle.body_rewrites.specs.Writing.{side_pieces}
use Rattle.body_rewrites.proofs.writing.pieces_of.Given as goal

abbrev pub invariant-loop-i : goal.invariant-loop-i
invariant-loop-i l =
    (side_pieces l.place.operands (constant_at l.place.numbers) (l.word ∷ []) (parts_for l.width l.side)
    ≡ l.pieces.items ++ side_pieces l.place.operands (constant_at l.place.numbers) l.words (parts_for l.width (drop l.i l.side)))
    × (array_vec_len l.pieces ≤ l.i)
    × All PartIsInstruction (parts_for l.width (drop l.i l.side))
