-- That of the step before the end.
use Rattle.std.proofs.Common.{length, arith, rules, ◌≡◌, ap, ◌∙◌}
use Rattle.std.specs.Prelude.{reverse}
use Rattle.rewrite_rules.specs.Table.{parts_for}
use Rattle.body_rewrites.specs.Roots.{first_root}
use Rattle.body_rewrites.proofs.PartsLemmas.{few_parts, last_root, no_root}
use Rattle.body_rewrites.proofs.roots.left_root.Goals as goal

pub returns-then-count-eq0 : goal.returns-then-count-eq0
returns-then-count-eq0 c =
    let width = c.args.line.now.width in
    no_root width c.left-side.result.now c.count_of-count.result (c.count_of-count.ensures width) c.if-count-eq0.true
    ∙ ap (λ steps. first_root (reverse (parts_for width steps))) c.left-side.ensures

pub offset_bounds-side-count : goal.offset_bounds-side-count
offset_bounds-side-count c =
    let width = c.args.line.now.width in
    let few = few_parts width c.left-side.result.now in
    let count = c.count_of-count.ensures width in
    let long : length c.left-side.result.now ≡ 7 = search rules in
    omega (arith, few, count, long)

pub bounds-side-count : goal.bounds-side-count
bounds-side-count c =
    let width = c.args.line.now.width in
    let few = few_parts width c.left-side.result.now in
    let count = c.count_of-count.ensures width in
    let long : length c.left-side.result.now ≡ 7 = search rules in
    omega (arith, few, count, long)

pub returns : goal.returns
returns c =
    let width = c.args.line.now.width in
    c.step_root.ensures
    ∙ (last_root width c.left-side.result.now c.count_of-count.result _ (c.count_of-count.ensures width) c.if-count-eq0.false
    ∙ ap (λ steps. first_root (reverse (parts_for width steps))) c.left-side.ensures)
