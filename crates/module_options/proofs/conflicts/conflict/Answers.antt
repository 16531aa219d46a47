-- One row after another.
use Rattle.clap.specs.Matches.{found_of}
use Rattle.clap.specs.Walk.{rows_of}
use Rattle.module_options.proofs.ConflictsLemmas.{conflict_is, one_pair, or_pair}
use Rattle.module_options.proofs.conflicts.conflict.Goals as goal

pub returns : goal.returns
returns c =
    let rows = rows_of (found_of c.args.matches.now) in
    let one = one_pair rows _ _ _ c.given_pair.ensures in
    let two = or_pair rows _ _ _ _ _ c.or.result one c.given_pair-2.ensures c.or.ensures in
    let three = or_pair rows _ _ _ _ _ c.or-2.result two c.given_pair-3.ensures c.or-2.ensures in
    let four = or_pair rows _ _ _ _ _ c.or-3.result three c.given_pair-4.ensures c.or-3.ensures in
    let five = or_pair rows _ _ _ _ _ c.or-4.result four c.given_pair-5.ensures c.or-4.ensures in
    let six = or_pair rows _ _ _ _ _ c.or-5.result five c.given_pair-6.ensures c.or-5.ensures in
    let seven = or_pair rows _ _ _ _ _ c.or-6.result six c.given_pair-7.ensures c.or-6.ensures in
    let eight = or_pair rows _ _ _ _ _ c.or-7.result seven c.given_pair-8.ensures c.or-7.ensures in
    let nine = or_pair rows _ _ _ _ _ c.or-8.result eight c.given_pair-9.ensures c.or-8.ensures in
    conflict_is rows c.or-8.result nine
