use Rattle.std.proofs.Common.{ℕ, zero, suc, ◌<◌, List, [], ◌∷◌, arith}
use Rattle.std.specs.Prelude.{All}
use denote.Array.{each}
use denote.Builtin.{u8}
use denote.Shadow.{shadow}
use mir.Val.{Val}
use Rattle.peephole_nodes.proofs.payload.shuffle_imm.Goals as goal

-- the elements of an array of bytes are below 256
lanes_small : (lanes : List ℕ) (vals : List Val) → shadow (each ℕ u8.own_val lanes vals) → All (λ b. b < 256) lanes
lanes_small [] vals s k d within = absurd (omega (arith, within))
lanes_small (x ∷ xs) [] s k d within = absurd s
lanes_small (x ∷ xs) (v ∷ vals) s zero d within = omega (arith, s.0.1)
lanes_small (x ∷ xs) (v ∷ vals) s (suc k) d within = lanes_small xs vals s.1 k d (omega (arith, within))

-- what the type of the lanes says of them: how many there are, and that each is a byte
pub returns-clause-in_range : goal.returns-clause-in_range
returns-clause-in_range c =
    let lanes = c.well_formed.0.1.1.0 in
    (lanes.1.0.1, lanes_small c.args.shuffle.indices lanes.0 lanes.1.1)
