-- What is set of a command before its arguments.
use Rattle.module_options.proofs.ArgumentsLemmas.{versioned}
use Rattle.module_options.proofs.arguments.bare_command.Goals as goal

pub returns : goal.returns
returns c =
    versioned c.new.result c.version.result c.about.result c.after_help.result _ _ _ _ c.new.ensures.app c.version.ensures c.about.ensures
    c.after_help.ensures
