-- Those of the rules so far.
use Rattle.std.proofs.Common.{◌≡◌, take}
use Rattle.std.specs.List.{filter}
use Rattle.teddertempo_c.specs.Options.{allows}
use Rattle.teddertempo_c.proofs.options.allowed.Given as goal

abbrev pub invariant-loop-rule : goal.invariant-loop-rule
invariant-loop-rule l = l.those.items ≡ filter (allows l.options) (take l.rule-index l.rules)
