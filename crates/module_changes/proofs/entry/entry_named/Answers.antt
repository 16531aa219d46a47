-- The entries of a module are in order, and fit it.
use Rattle.std.proofs.Common.{◌≤◌, length, arith}
use Rattle.std.specs.List.{sum_by}
use Rattle.module_rewrites.specs.Drawing.{contents_length}
use Rattle.module_changes.proofs.ChoosingLemmas.{all_ordered}
use Rattle.module_changes.proofs.entry.entry_named.Goals as goal

pub entry_of_word-requires-clause-ordered : goal.entry_of_word-requires-clause-ordered
entry_of_word-requires-clause-ordered c =
    all_ordered c.args.reading.now.bytes.now c.args.reading.now.layout.now.entries
    (λ n entry at. c.entries_are_inside.ensures c.args.reading.now.bytes.now c.args.reading.now.info.now c.args.reading.now.layout.now n entry
    c.requires.reading at)

pub entry_of_word-requires-clause-few : goal.entry_of_word-requires-clause-few
entry_of_word-requires-clause-few c =
    let fits : sum_by contents_length c.args.reading.now.layout.now.entries ≤ length c.args.reading.now.bytes.now =
    c.entries_fit_the_module.ensures c.args.reading.now.bytes.now c.args.reading.now.info.now c.args.reading.now.layout.now c.requires.reading in
    omega (arith, fits, c.well_formed)
