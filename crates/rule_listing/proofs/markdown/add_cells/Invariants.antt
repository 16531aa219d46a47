-- The texts so far.
use Rattle.std.proofs.Common.{◌≡◌, ◌++◌, map, take, string_bytes}
use Rattle.rule_listing.specs.Listing.{cells}
use Rattle.rule_listing.proofs.markdown.add_cells.Given as goal

abbrev pub invariant-loop-index : goal.invariant-loop-index
invariant-loop-index l = string_bytes l.text ≡ string_bytes l.fn.text ++ cells 0 (map (λ line. string_bytes line) (take l.index l.lines))
