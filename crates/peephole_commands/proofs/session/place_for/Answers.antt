use Rattle.std.proofs.Common.{sym, ◌∙◌}
use Rattle.peephole_commands.proofs.Steps.{point_place}
use Rattle.peephole_commands.proofs.session.place_for.Goals as goal

pub returns-in-Some-clause-is : goal.returns-in-Some-clause-is
returns-in-Some-clause-is c =
    let found = c.in-Some-Some in
    let is = point_place c.blocks_are_found.ensures.block _ _ found.body found.point c.in-Some.block c.requires.point found.is-0 found.is-1
    (sym c.requires.block ∙ c.in-Some.is) in
    record { within = is.0; block = is.1 }
