-- By the count, and the code.
use Rattle.std.proofs.Common.{◌≡◌, ◌<◌, ◌≤◌, ◌-◌, ◌+◌, ap₂, sym, subst, ◌∙◌, arith}
use Rattle.std.proofs.lemmas.Bool.{false≢true}
use Rattle.body_rewrites.specs.Matching.{operators_in}
use Rattle.body_rewrites.proofs.WritingLemmas.{range_alone}
use Rattle.body_rewrites.proofs.DifferingLemmas.{too_many, kept_count, kept_is, kept_there}
use Rattle.body_rewrites.proofs.differing.behind_kept.Goals as goal

pub returns-then-end-at : goal.returns-then-end-at
returns-then-end-at c = λ rest.
    too_many c.args.operators.now c.args.at c.args.end _ rest c.requires.range.1
    (subst (λ n. c.args.end - c.args.at < n) (sym (kept_count c.args.operators.now c.args.kept.0 c.args.kept.1 c.requires.kept.inside)) c.if-end-at.true)

pub returns-then-not-are_same : goal.returns-then-not-are_same
returns-then-not-are_same c = λ rest e.
    let there = kept_there c.args.operators.now c.args.at (c.args.at + (c.args.kept.1 - c.args.kept.0)) c.args.end c.args.kept rest (omega arith)
    (omega (arith, c.if-end-at.false, c.requires.range.0)) c.requires.range.1 c.requires.kept.inside (omega arith) c.requires.code e in
    absurd (false≢true (sym c.if-not-are_same.true ∙ c.are_same.ensures.only there))

pub returns-then-not-is_tree_in : goal.returns-then-not-is_tree_in
returns-then-not-is_tree_in c = λ rest e.
    let next = c.args.at + (c.args.kept.1 - c.args.kept.0) in
    let behind : c.args.at ≤ next = omega arith in
    let before : next ≤ c.args.end = omega (arith, c.if-end-at.false, c.requires.range.0) in
    let there = kept_there c.args.operators.now c.args.at next c.args.end c.args.kept rest behind before c.requires.range.1 c.requires.kept.inside
    (omega arith) c.requires.code e in
    let tree = c.requires.kept.told c.args.at next behind (omega (arith, before, c.requires.range.1)) there in
    absurd (false≢true (sym c.if-not-is_tree_in.true ∙ c.is_tree_in.ensures tree))

pub returns : goal.returns
returns c = (
  omega arith,
  omega (arith, c.if-end-at.false, c.requires.range.0),
  kept_is c.args.operators.now c.args.at (c.args.at + (c.args.kept.1 - c.args.kept.0)) c.args.kept (c.are_same.ensures.same c.if-not-are_same.false),
)

pub returns-then-at-kept : goal.returns-then-at-kept
returns-then-at-kept c =
    let at : c.args.at ≡ c.args.kept.0 = c.if-at-kept.true in
    let end : c.args.at + (c.args.kept.1 - c.args.kept.0) ≡ c.args.kept.1 = omega (arith, at, c.requires.kept.ordered) in (
      omega arith,
      omega (arith, c.if-end-at.false, c.requires.range.0),
      range_alone c.args.operators.now c.args.kept.0 c.args.kept.1 ∙ ap₂ (operators_in c.args.operators.now) (sym at) (sym end),
    )
