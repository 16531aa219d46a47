-- The pieces so far stand in the body.
use Rattle.std.specs.List.{All}
use Rattle.body_splices.specs.Splice.{IsPieceIn}
use Rattle.body_splices.proofs.tests.pieces_in.Given as goal

abbrev pub invariant-loop-i : goal.invariant-loop-i
invariant-loop-i l = All (IsPieceIn l.operators) l.pieces.items
