-- Rule by rule.
use Rattle.std.proofs.Common.{◌≡◌, refl, sym, ◌∙◌}
use Rattle.rewrite_rules.specs.declared.rule.Rule.{Rule}
use Rattle.rewrite_rules.specs.Rule.{rule_number}
use Rattle.body_rewrites.specs.Listing.{has_number}
use Rattle.body_rewrites.specs.ThoseLemmas.{none_next, none_of_all, none_start}
use Rattle.body_rewrites.proofs.ListingLemmas.{number_had, none_had}
use Rattle.body_rewrites.proofs.listing.has_number.Goals as goal

pub returns-then-number : goal.returns-then-number
returns-then-number c =
    sym (number_had c.args.rules.now c.args.number c.rule-item.result (c.loop-rule.rule-index, c.loop-rule-test.true, sym c.rule-item.is)
    (sym c.number.ensures ∙ c.if-number.true))

pub loop-rule-init : goal.loop-rule-init
loop-rule-init c = none_start (λ (rule : Rule). rule_number rule ≡ c.args.number) c.args.rules.now

pub loop-rule-preserved : goal.loop-rule-preserved
loop-rule-preserved c =
    none_next (λ (rule : Rule). rule_number rule ≡ c.args.number) c.args.rules.now c.loop-rule.rule-index c.rule-item.result c.rule-item.result
    c.loop-rule-test.true c.rule-item.is (λ e. c.if-number.false (c.number.ensures ∙ e)) c.loop-rule.invariant

pub returns : goal.returns
returns c =
    none_had c.args.rules.now c.args.number (has_number c.args.rules.now c.args.number) refl
    (none_of_all (λ (rule : Rule). rule_number rule ≡ c.args.number) c.args.rules.now c.loop-rule.rule-index c.loop-rule-test.false c.loop-rule.invariant)
