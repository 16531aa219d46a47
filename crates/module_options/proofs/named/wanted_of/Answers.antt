-- One rule more, where it is wanted.
use Rattle.std.proofs.Common.{◌∙◌, ap}
use Rattle.clap.specs.Walk.{texts}
use Rattle.module_options.specs.Named.{IsWanted}
use Rattle.module_options.proofs.OptionsLemmas.{wanted_with, wanted_without}
use Rattle.module_options.proofs.named.wanted_of.Goals as goal
use Rattle.module_options.proofs.named.wanted_of.Goals.{then-is_wanted+in_ok-push, else-is_wanted}

pub loop-rule-preserved : goal.loop-rule-preserved
loop-rule-preserved c =
    elim c.if-is_wanted.branch [
      | then-is_wanted+in_ok-push w ↦
          wanted_with (IsWanted (texts c.args.others.now)) c.args.rules.now c.loop-rule.rule-index _ c.rule-item.result
          c.loop-rule.wanted.items c.if-is_wanted.wanted.items c.is_wanted.result c.loop-rule-test.true c.rule-item.is c.loop-rule.invariant
          c.is_wanted.ensures w.if-is_wanted.true (ap (λ v. v.items) w.wanted-is ∙ w.in_ok-push.ensures.items)
      | else-is_wanted w ↦
          wanted_without (IsWanted (texts c.args.others.now)) c.args.rules.now c.loop-rule.rule-index _ c.rule-item.result
          c.loop-rule.wanted.items c.if-is_wanted.wanted.items c.is_wanted.result c.loop-rule-test.true c.rule-item.is c.loop-rule.invariant
          c.is_wanted.ensures w.if-is_wanted.false (ap (λ v. v.items) w.wanted-is)
    ]
