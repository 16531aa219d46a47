-- What is told of a rule in the code's own form (this project).
use Rattle.std.specs.Prelude.{map, string_bytes}
use Rattle.rule_listing.specs.declared.rule.ListedRule.{ListedRule}
use Rattle.rule_listing.specs.Listing.{Told}

abbrev pub told_in : ListedRule → Told
told_in rule = record { growth = rule.growth; exact = rule.exact; lines = map (λ line. string_bytes line) rule.lines.now }
