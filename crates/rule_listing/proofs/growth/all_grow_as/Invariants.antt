-- Each row so far does that.
use Rattle.std.proofs.Common.{◌≡◌, ◌<◌, ℕ, Some}
use Rattle.std.specs.Prelude.{slice_get}
use Rattle.rewrite_rules.specs.declared.table.Row.{Row}
use Rattle.rewrite_rules.specs.Growing.{GrowsAs}
use Rattle.rewrite_rules.specs.Names.{rule_of}
use Rattle.rewrite_rules.specs.Table.{ROWS}
use Rattle.rule_listing.proofs.growth.all_grow_as.Given as goal

abbrev pub invariant-loop-index : goal.invariant-loop-index
invariant-loop-index l = (n : ℕ) (row : Row) → n < l.index → rule_of n ≡ Some l.rule → slice_get ROWS n ≡ Some row → GrowsAs row l.growth
