-- The rules so far are those of the names so far.
use Rattle.std.proofs.Common.{◌≡◌, map, take}
use Rattle.clap.specs.Walk.{texts}
use Rattle.rewrite_rules.specs.Rule.{rule_name}
use Rattle.module_options.proofs.named.named_rules.Given as goal

abbrev pub invariant-loop-name : goal.invariant-loop-name
invariant-loop-name l = map rule_name l.rules.items ≡ texts (take l.name-index l.names)
