-- The body behind its locals.
use Rattle.std.proofs.Common.{[], refl}
use Rattle.module_rewrites.proofs.ReadAgainLemmas.{read_again}
use Rattle.module_rewrites.proofs.laws.bodies_are_read_again.Goals as goal

pub returns : goal.returns
returns c bytes info layout n locals expression operators f body written new spells asking again =
    read_again c.own_bytes_stay.ensures f body written [] new spells asking refl again
