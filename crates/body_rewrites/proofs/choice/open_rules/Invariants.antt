-- Those of the rules so far.
use Rattle.std.proofs.Common.{take}
use Rattle.body_rewrites.specs.Listing.{AreThose}
use Rattle.body_rewrites.specs.Counting.{IsOpenBy}
use Rattle.body_rewrites.proofs.choice.open_rules.Given as goal

abbrev pub invariant-loop-rule : goal.invariant-loop-rule
invariant-loop-rule l = AreThose (IsOpenBy l.counts l.growth) (take l.rule-index l.rules) l.list.items
