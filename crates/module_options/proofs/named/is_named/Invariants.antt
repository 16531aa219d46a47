-- None of the names so far is the rule's.
use Rattle.std.proofs.Common.{◌≡◌, false, take}
use Rattle.clap.specs.Walk.{texts}
use Rattle.module_options.specs.Named.{is_named}
use Rattle.module_options.proofs.named.is_named.Given as goal

abbrev pub invariant-loop-name : goal.invariant-loop-name
invariant-loop-name l = is_named (texts (take l.name-index l.names)) l.fn.rule ≡ false
