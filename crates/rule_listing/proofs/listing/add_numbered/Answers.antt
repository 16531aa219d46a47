-- What is told of the rule.
use Rattle.std.proofs.Common.{map, length, string_bytes, ap, ◌∙◌}
use Rattle.std.proofs.lemmas.List.{length-map}
use Rattle.rule_listing.specs.Listing.{Told}
use Rattle.rule_listing.proofs.ListingLemmas.{ok_map}
use Rattle.rule_listing.proofs.listing.add_numbered.Goals as goal

pub returns : goal.returns
returns c =
    let lines = c.deref.result.now in
    let told : Told = record { growth = c.rule_growth.result; exact = c.rule_needs_exact.result; lines = map (λ line. string_bytes line) lines } in
    ok_map c.add_rule.result
    (λ h. (
      told,
      record {
        count = length-map lines (λ line. string_bytes line) ∙ ap length c.deref.ensures.value ∙ c.in_ok-lines.ensures;
        grows =
            c.rule_growth.ensures;
        exact = c.rule_needs_exact.ensures;
      },
      h,
    ))
    c.add_rule.ensures
