-- The pieces so far are those of the instructions so far.
use Rattle.std.proofs.Common.{◌≡◌, take}
use Rattle.std.specs.List.{All}
use Rattle.body_splices.specs.Splice.{IsPieceIn}
use Rattle.body_changes.specs.Replacing.{new_pieces}
use Rattle.body_changes.proofs.replacing.pieces_of.Given as goal

abbrev pub invariant-loop-i : goal.invariant-loop-i
invariant-loop-i l = record { are : l.pieces.items ≡ new_pieces (take l.i l.code); stand : All (IsPieceIn l.operators) l.pieces.items }
