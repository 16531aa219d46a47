-- Rule by rule.
use Rattle.std.proofs.Common.{◌≡◌, Vec, List, take, ap, sym, subst, ◌∙◌, ◌+◌}
use Rattle.std.specs.Global.{Global}
use Rattle.std.specs.List.{filter}
use Rattle.std.proofs.lemmas.List.{take_all}
use Rattle.rewrite_rules.specs.declared.rule.Rule.{Rule}
use Rattle.teddertempo_c.specs.Options.{allows, allows_number}
use Rattle.teddertempo_c.proofs.OptionsLemmas.{filter_next, filter_without}
use Rattle.teddertempo_c.proofs.options.allowed.Goals.{then-allows_number+in_ok-push, else-allows_number}
use Rattle.teddertempo_c.proofs.options.allowed.Goals as goal

pub loop-rule-preserved : goal.loop-rule-preserved
loop-rule-preserved c =
    let options = c.args.options.now in let rules = c.args.rules.now in let i = c.loop-rule.rule-index in let rule = c.rule-item.result in
    let told : allows options rule ≡ c.allows_number.result = ap (allows_number options) (sym c.number.ensures) ∙ sym c.allows_number.ensures in
    elim c.if-allows_number.branch [
      | then-allows_number+in_ok-push w ↦
          subst (λ (those : List Rule). those ≡ filter (allows options) (take (i + 1) rules))
          (sym (ap (λ (v : Vec Rule Global). v.items) w.those-is ∙ w.in_ok-push.ensures.items))
          (filter_next (allows options) rules i rule c.rule-item.is c.loop-rule-test.true c.loop-rule.those.items (told ∙ w.if-allows_number.true)
          c.loop-rule.invariant)
      | else-allows_number w ↦
          ap (λ (v : Vec Rule Global). v.items) w.those-is ∙ c.loop-rule.invariant
          ∙ sym (filter_without (allows options) rules i rule c.rule-item.is c.loop-rule-test.true (told ∙ w.if-allows_number.false))
    ]

pub returns : goal.returns
returns c = c.loop-rule.invariant ∙ ap (filter (allows c.args.options.now)) (take_all c.loop-rule.rule-index c.args.rules.now c.loop-rule-test.false)
