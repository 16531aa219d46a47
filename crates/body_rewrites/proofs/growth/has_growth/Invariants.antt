-- None so far is the same.
use Rattle.std.proofs.Common.{◌≡◌, take}
use Rattle.std.specs.Prelude.{Contains}
use Rattle.body_rewrites.specs.declared.growth.Growth.{Growth}
use Rattle.body_rewrites.proofs.growth.has_growth.Given as goal

abbrev pub invariant-loop-one : goal.invariant-loop-one
invariant-loop-one l = (other : Growth) → Contains (take l.one-index l.wanted) other → other ≡ l.growth → ⊥
