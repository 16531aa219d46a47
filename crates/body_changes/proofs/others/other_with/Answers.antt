-- All rows were asked.
use Rattle.std.proofs.Common.{◌≡◌, ◌≤◌, ℕ, ap, ◌∙◌, subst, arith}
use Rattle.body_changes.specs.Others.{others_below}
use Rattle.body_changes.proofs.others.other_with.Goals as goal

pub returns-clause-none : goal.returns-clause-none
returns-clause-none c =
    let all = c.loop-row-test.false in
    let end = c.loop-row.auto.row-end in
    let last : c.loop-row.row ≡ 446 = omega arith in
    subst (λ (n : ℕ). n ≤ c.args.number) (c.loop-row.invariant.is ∙ ap (others_below c.args.asked.now) last) c.loop-row.invariant.below
