-- A rule's object has no float.
use Rattle.std.proofs.Common.{ap, ◌∙◌}
use Rattle.serde_json.specs.Written.{has_float}
use Rattle.rule_listing.specs.ListedRule.{told_in}
use Rattle.rule_listing.proofs.ListingLemmas.{object_has_none}
use Rattle.rule_listing.proofs.json.add_object.Goals as goal

pub text_of-requires : goal.text_of-requires
text_of-requires c =
    let rule = c.args.rule.now in
    ap has_float c.in_ok-value.ensures ∙ object_has_none rule.number rule.name.now (told_in rule)
