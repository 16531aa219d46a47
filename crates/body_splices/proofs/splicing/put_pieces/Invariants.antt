-- The pieces so far are written.
use Rattle.std.proofs.Common.{take}
use Rattle.body_splices.specs.OwnBytes.{own_bytes}
use Rattle.body_splices.specs.Putting.{PutsPieces}
use Rattle.body_splices.proofs.splicing.put_pieces.Given as goal

abbrev pub invariant-loop-i : goal.invariant-loop-i
invariant-loop-i l = PutsPieces (own_bytes l.input l.operators) (take l.i l.pieces) l.initial.sink l.sink
