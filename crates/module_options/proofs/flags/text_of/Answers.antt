-- The first text.
use Rattle.std.proofs.Common.{◌∙◌}
use Rattle.clap.specs.Matches.{found_of}
use Rattle.module_options.proofs.OptionsLemmas.{first_text}
use Rattle.module_options.proofs.flags.text_of.Goals as goal

pub returns : goal.returns
returns c = c.get_str.ensures ∙ first_text (found_of c.args.matches.now) c.args.name.now
