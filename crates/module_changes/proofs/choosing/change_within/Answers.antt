-- One entry more.
use Rattle.std.proofs.Common.{◌≤◌, ◌+◌, Option, ℕ, sym, subst, arith}
use Rattle.std.proofs.lemmas.Bool.{false≢true}
use Rattle.std.proofs.lemmas.Grind.{common_steps}
use Rattle.module_rewrites.specs.Mutated.{IsChosen}
use Rattle.module_changes.specs.Entry.{choice_of, IsTried}
use Rattle.module_changes.proofs.ChoosingLemmas.{unchanged_next, unchanged_to}
use Rattle.module_changes.proofs.choosing.change_within.Goals as goal
use Rattle.module_changes.proofs.choosing.change_within.Goals.{then-is_chosen+in_ok-attempt+in-Unchanged, else-is_chosen}

pub loop-n-preserved : goal.loop-n-preserved
loop-n-preserved c =
    let choice = choice_of c.args.trial.now in
    let bytes = c.args.reading.now.bytes.now in
    let info = c.args.reading.now.info.now in
    let layout = c.args.reading.now.layout.now in
    let words = c.args.trial.now.words.now in
    elim c.if-is_chosen.branch [
      | then-is_chosen+in_ok-attempt+in-Unchanged w ↦
          unchanged_next choice bytes info layout words c.args.range.start c.loop-n.n c.loop-n.invariant
          (λ chosen. subst (IsTried choice bytes info layout words c.loop-n.n) w.in-Unchanged.is w.in_ok-attempt.ensures.tried)
      | else-is_chosen w ↦
          unchanged_next choice bytes info layout words c.args.range.start c.loop-n.n c.loop-n.invariant
          (λ chosen. absurd (false≢true (w.if-is_chosen.ensures.1
          (subst (λ (o : Option ℕ). IsChosen o (layout.imported_functions + c.loop-n.n)) (sym c.function.ensures) chosen))))
    ]

pub returns-clause-tried : goal.returns-clause-tried
returns-clause-tried c =
    let past : c.args.range.end ≤ c.loop-n.n = grind (arith, common_steps) in
    unchanged_to (choice_of c.args.trial.now) c.args.reading.now.bytes.now c.args.reading.now.info.now c.args.reading.now.layout.now c.args.trial.now.words.now
    c.args.range.start c.loop-n.n c.args.range.end past c.loop-n.invariant
