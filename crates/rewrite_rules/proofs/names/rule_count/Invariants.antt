-- As many as stand in the lines so far.
use Rattle.rewrite_rules.specs.Names.{begins}
use Rattle.rewrite_rules.proofs.NameLemmas.{AreCounted}
use Rattle.rewrite_rules.proofs.names.rule_count.Given as goal

abbrev pub invariant-loop-index : goal.invariant-loop-index
invariant-loop-index l = AreCounted begins l.index l.count
