-- Each by its name.
use Rattle.clap.specs.Matches.{found_of}
use Rattle.clap.specs.Walk.{rows_of}
use Rattle.module_options.proofs.ConflictsLemmas.{pair_given}
use Rattle.module_options.proofs.conflicts.given_pair.Goals as goal

pub returns : goal.returns
returns c =
    pair_given (rows_of (found_of c.args.matches.now)) c.args.ones.now c.args.others.now _ _ c.zip.result c.first_given.ensures c.first_given-2.ensures
    c.zip.ensures
