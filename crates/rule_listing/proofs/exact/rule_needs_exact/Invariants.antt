-- Each row so far does.
use Rattle.std.proofs.Common.{◌≡◌, ◌<◌, ℕ, Some}
use Rattle.std.specs.Prelude.{IsTrue, slice_get}
use Rattle.rewrite_rules.specs.declared.table.Row.{Row}
use Rattle.rewrite_rules.specs.Names.{rule_of}
use Rattle.rewrite_rules.specs.Table.{ROWS}
use Rattle.rule_listing.specs.Listing.{is_exact_row}
use Rattle.rule_listing.proofs.exact.rule_needs_exact.Given as goal

abbrev pub invariant-loop-index : goal.invariant-loop-index
invariant-loop-index l = (n : ℕ) (row : Row) → n < l.index → rule_of n ≡ Some l.rule → slice_get ROWS n ≡ Some row → IsTrue (is_exact_row row)
