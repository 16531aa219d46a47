-- Those of the rules so far that are wanted.
use Rattle.std.proofs.Common.{take}
use Rattle.clap.specs.Walk.{texts}
use Rattle.body_rewrites.specs.Listing.{AreThose}
use Rattle.module_options.specs.Named.{IsWanted}
use Rattle.module_options.proofs.named.wanted_of.Given as goal

abbrev pub invariant-loop-rule : goal.invariant-loop-rule
invariant-loop-rule l = AreThose (IsWanted (texts l.others)) (take l.rule-index l.rules) l.wanted.items
