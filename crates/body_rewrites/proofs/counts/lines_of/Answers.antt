-- Row by row.
use Rattle.std.proofs.Common.{Vec, sym, ap, ◌∙◌, arith}
use Rattle.std.specs.Global.{Global}
use Rattle.body_rewrites.specs.declared.asked.Asked.{Asked}
use Rattle.body_rewrites.proofs.CountingBounds.{of_rule_next, of_rule_skip}
use Rattle.body_rewrites.proofs.counts.lines_of.Goals.{then-is_of+in_ok-add_numbered, else-is_of}
use Rattle.body_rewrites.proofs.counts.lines_of.Goals as goal

pub loop-number-preserved : goal.loop-number-preserved
loop-number-preserved c =
    let number = c.loop-number.number in
    let list = c.loop-number.list.items in
    elim c.if-is_of.branch [
      | then-is_of+in_ok-add_numbered w ↦
          ap (λ (v : Vec Asked Global). v.items) w.list-is
          ∙ of_rule_next c.args.rule number list w.add_numbered.new.list.items (omega arith) (sym c.is_of.ensures ∙ w.if-is_of.true) c.loop-number.invariant
          w.in_ok-add_numbered.ensures
      | else-is_of w ↦
          ap (λ (v : Vec Asked Global). v.items) w.list-is
          ∙ of_rule_skip c.args.rule number list (omega arith) (sym c.is_of.ensures ∙ w.if-is_of.false) c.loop-number.invariant
    ]
