-- The operators so far are the same.
use Rattle.std.proofs.Common.{◌≡◌, take}
use Rattle.body_splices.specs.OwnBytes.{without_offsets}
use Rattle.body_changes.proofs.own.are_alike.Given as goal

abbrev pub invariant-loop-i : goal.invariant-loop-i
invariant-loop-i l = take l.i (without_offsets l.some) ≡ take l.i (without_offsets l.others)
