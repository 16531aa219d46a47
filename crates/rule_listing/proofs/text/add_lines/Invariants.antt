-- The lines so far.
use Rattle.std.proofs.Common.{◌≡◌, ◌++◌, map, take, string_bytes}
use Rattle.rule_listing.specs.Listing.{text_lines}
use Rattle.rule_listing.proofs.text.add_lines.Given as goal

abbrev pub invariant-loop-index : goal.invariant-loop-index
invariant-loop-index l = string_bytes l.text ≡ string_bytes l.fn.text ++ text_lines (map (λ line. string_bytes line) (take l.index l.lines))
