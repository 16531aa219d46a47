-- As many as stand in the lines so far, and the name is none of these.
use Rattle.std.proofs.Common.{◌≤◌}
use Rattle.rewrite_rules.specs.Names.{begins}
use Rattle.rewrite_rules.proofs.NameLemmas.{AreCounted}
use Rattle.rewrite_rules.proofs.names.name_of.Given as goal

abbrev pub invariant-loop-index : goal.invariant-loop-index
invariant-loop-index l = record { counted : AreCounted begins l.index l.count; before : l.count ≤ l.number }
