-- By the entry of the option.
use Rattle.std.proofs.Common.{◌∙◌}
use Rattle.clap.specs.Matches.{found_of}
use Rattle.module_options.proofs.ConflictsLemmas.{given_by}
use Rattle.module_options.proofs.flags.is_given.Goals as goal

pub returns : goal.returns
returns c =
    c.is_explicit.ensures ∙ given_by (found_of c.args.matches.now) c.args.name.now _ _ c.contains_id.ensures c.value_source.ensures
