-- One rule more.
use Rattle.std.proofs.Common.{◌<◌, length, string_bytes, subst, arith}
use Rattle.rewrite_rules.specs.Names.{names}
use Rattle.rule_listing.proofs.ListingLemmas.{name_next, rule_next, within}
use Rattle.rule_listing.proofs.listing.text_of.Goals as goal

pub loop-number-preserved : goal.loop-number-preserved
loop-number-preserved c =
    let items = c.in_ok-rule_names.rule_names.items in
    let k = c.loop-number.number in
    let are = c.in_ok-rule_names.ensures in
    let inside : k < length items = omega arith in
    rule_next c.args.form k (string_bytes c.loop-number.text) (string_bytes c.add_numbered.new.text) c.index.result.now.now
    (subst (λ n. k < n) (within (λ name. name.now) items names are) inside)
    (name_next (λ name. name.now) items names k c.index.result.now are inside c.index.ensures) c.loop-number.invariant c.in_ok-add_numbered.ensures
