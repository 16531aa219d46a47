-- As many texts as rows of the rule so far.
use Rattle.std.proofs.Common.{◌≡◌, length}
use Rattle.rule_listing.specs.Listing.{rows_among}
use Rattle.rule_listing.proofs.lines.lines_of.Given as goal

abbrev pub invariant-loop-index : goal.invariant-loop-index
invariant-loop-index l = length l.lines.items ≡ rows_among l.rule l.index
