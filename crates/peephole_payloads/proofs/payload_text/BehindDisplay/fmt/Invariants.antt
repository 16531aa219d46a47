use Rattle.std.proofs.Common.{◌∷◌, take}
use Rattle.std.specs.Fmt.{HasWritten, IsPlainFormatter, decimal}
use Rattle.std.specs.List.{flat_map}
use Rattle.peephole_payloads.proofs.payload_text.BehindDisplay.fmt.Given as goal

abbrev pub invariant-loop-lane : goal.invariant-loop-lane
invariant-loop-lane g l =
    IsPlainFormatter l.initial.f → HasWritten g.W.Write.write_str_gives l.initial.f (flat_map (λ m. 46 ∷ decimal m) (take l.lane-index l.lanes)) l.f
