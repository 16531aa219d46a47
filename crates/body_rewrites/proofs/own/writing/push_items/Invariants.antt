-- Those so far.
use Rattle.std.proofs.Common.{◌≡◌, ◌+◌, ◌++◌, take}
use Rattle.arrayvec.specs.ArrayVec.{array_vec_len}
use Rattle.body_rewrites.specs.Own.{item_pieces}
use Rattle.body_rewrites.proofs.own.writing.push_items.Given as goal

abbrev pub invariant-loop-i : goal.invariant-loop-i
invariant-loop-i l =
    (l.pieces.items ≡ l.initial.pieces.items ++ item_pieces l.t l.word (take l.i l.items)) ×
    (array_vec_len l.pieces ≡ array_vec_len l.initial.pieces + l.i)
