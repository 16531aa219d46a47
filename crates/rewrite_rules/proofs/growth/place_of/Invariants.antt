-- None of those so far is the hole.
use Rattle.std.proofs.Common.{◌≡◌, ◌++◌, take, drop}
use Rattle.std.specs.Prelude.{option_map}
use Rattle.rewrite_rules.specs.Growth.{without}
use Rattle.rewrite_rules.proofs.growth.place_of.Given as goal

abbrev pub invariant-loop-i : goal.invariant-loop-i
invariant-loop-i l = without l.hole l.list ≡ option_map (λ ks. take l.i l.list ++ ks) (without l.hole (drop l.i l.list))
