-- Change by change.
use Rattle.std.proofs.Common.{◌≡◌, Vec, List, take, get_or, ap, sym, subst, ◌∙◌, ◌+◌}
use Rattle.std.specs.Global.{Global}
use Rattle.std.specs.List.{filter}
use Rattle.std.proofs.lemmas.List.{take_all}
use Rattle.body_changes.specs.declared.change.Change.{Change}
use Rattle.body_changes.specs.declared.change.Change.TheVariants.{Constant}
use Rattle.teddertempo_c.specs.ChangeOptions.{allows}
use Rattle.teddertempo_c.proofs.OptionsLemmas.{any_other, filter_next, filter_without}
use Rattle.teddertempo_c.proofs.change_options.allowed.Goals.{then-allows+in_ok-push, else-allows}
use Rattle.teddertempo_c.proofs.change_options.allowed.Goals as goal

pub loop-change-preserved : goal.loop-change-preserved
loop-change-preserved c =
    let options = c.args.options.now in let changes = c.args.changes.now in let i = c.loop-change.change-index in
    let change = get_or changes i Constant in
    let is : change ≡ get_or changes i change = any_other changes i Constant change c.loop-change-test.true in
    elim c.if-allows.branch [
      | then-allows+in_ok-push w ↦
          subst (λ (those : List Change). those ≡ filter (allows options) (take (i + 1) changes))
          (sym (ap (λ (v : Vec Change Global). v.items) w.those-is ∙ w.in_ok-push.ensures.items))
          (filter_next (allows options) changes i change is c.loop-change-test.true c.loop-change.those.items (sym c.allows.ensures ∙ w.if-allows.true)
          c.loop-change.invariant)
      | else-allows w ↦
          ap (λ (v : Vec Change Global). v.items) w.those-is ∙ c.loop-change.invariant
          ∙ sym (filter_without (allows options) changes i change is c.loop-change-test.true (sym c.allows.ensures ∙ w.if-allows.false))
    ]

pub returns : goal.returns
returns c = c.loop-change.invariant ∙ ap (filter (allows c.args.options.now)) (take_all c.loop-change.change-index c.args.changes.now c.loop-change-test.false)
