-- Rule by rule.
use Rattle.std.proofs.Common.{rules, Vec, take, ap, sym, subst, ◌∙◌, ◌+◌}
use Rattle.std.specs.Global.{Global}
use Rattle.std.proofs.lemmas.Bool.{false≢true}
use Rattle.rewrite_rules.specs.declared.rule.Rule.{Rule}
use Rattle.body_rewrites.specs.Listing.{AreThose}
use Rattle.body_rewrites.specs.Counting.{IsOpenBy}
use Rattle.body_rewrites.specs.ThoseLemmas.{next_with, next_without, those_of_all}
use Rattle.body_rewrites.proofs.choice.open_rules.Goals.{then-is_open+in_ok-push, else-is_open}
use Rattle.body_rewrites.proofs.choice.open_rules.Goals as goal

pub loop-rule-init : goal.loop-rule-init
loop-rule-init c = search rules

pub loop-rule-preserved : goal.loop-rule-preserved
loop-rule-preserved c =
    elim c.if-is_open.branch [
      | then-is_open+in_ok-push w ↦
          subst (AreThose (IsOpenBy c.args.counts.now c.args.growth) (take (c.loop-rule.rule-index + 1) c.args.rules.now))
          (sym (ap (λ (v : Vec Rule Global). v.items) w.list-is ∙ w.in_ok-push.ensures.items))
          (next_with (IsOpenBy c.args.counts.now c.args.growth) c.args.rules.now c.loop-rule.rule-index c.rule-item.result c.rule-item.result
          c.loop-rule-test.true c.rule-item.is c.loop-rule.list.items
          (c.is_open.ensures.0 w.if-is_open.true) c.loop-rule.invariant)
      | else-is_open w ↦
          subst (λ (v : Vec Rule Global). AreThose (IsOpenBy c.args.counts.now c.args.growth) (take (c.loop-rule.rule-index + 1) c.args.rules.now) v.items)
          (sym w.list-is)
          (next_without (IsOpenBy c.args.counts.now c.args.growth) c.args.rules.now c.loop-rule.rule-index c.rule-item.result c.rule-item.result
          c.loop-rule-test.true c.rule-item.is c.loop-rule.list.items
          (λ p. false≢true (sym w.if-is_open.false ∙ c.is_open.ensures.1 p)) c.loop-rule.invariant)
    ]

pub returns : goal.returns
returns c =
    those_of_all (IsOpenBy c.args.counts.now c.args.growth) c.args.rules.now c.loop-rule.rule-index c.loop-rule-test.false c.loop-rule.list.items
    c.loop-rule.invariant
