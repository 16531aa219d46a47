-- Row by row.
use Rattle.std.proofs.Common.{◌+◌, List, Vec, take, sym, subst, arith}
use Rattle.std.specs.Global.{Global}
use Rattle.rewrite_rules.specs.Table.{ROWS}
use Rattle.body_rewrites.specs.declared.asked.Asked.{Asked}
use Rattle.body_rewrites.specs.Asking.{asked_from, AreLaidOut}
use Rattle.body_rewrites.proofs.AskingLemmas.{row_there}
use Rattle.body_rewrites.proofs.CandidateLemmas.{row_laid_out}
use Rattle.body_rewrites.proofs.layout.add_rows.Goals.{in-Some+in_ok-add_row, in_default}
use Rattle.body_rewrites.proofs.layout.add_rows.Goals as goal

pub loop-number-preserved : goal.loop-number-preserved
loop-number-preserved c =
    let used = c.args.used.now in
    let number = c.loop-number.number in
    elim c.match-numbered.branch [
      | in-Some+in_ok-add_row w ↦
          subst (λ (lists : List (Vec Asked Global)). AreLaidOut c.args.exact used (asked_from 0 (take (number + 1) ROWS)) lists c.match-numbered.alone.items)
          (sym w.lists-is)
          (subst (λ (v : Vec Asked Global). AreLaidOut c.args.exact used (asked_from 0 (take (number + 1) ROWS)) w.add_row.new.lists v.items) (sym w.alone-is)
          (row_laid_out c.args.exact used number _ w.add_row.new.lists w.add_row.new.alone.items (sym w.in-Some.ensures)
          (w.in_ok-add_row.ensures.added (asked_from 0 (take number ROWS)) c.loop-number.invariant)))
      | in_default w ↦ absurd (row_there number (omega arith) (sym w.in_default.ensures))
    ]
