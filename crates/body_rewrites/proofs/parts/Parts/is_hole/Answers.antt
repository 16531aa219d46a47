-- By the step that stands as far from the end.
use Rattle.std.proofs.Common.{◌<◌, length, ap, sym, ◌∙◌, arith}
use Rattle.std.proofs.lemmas.List.{length-reverse}
use Rattle.rewrite_rules.specs.Table.{parts_for}
use Rattle.body_rewrites.proofs.PartsLemmas.{few_parts, step_from_end, hole_step, no_hole_step}
use Rattle.body_rewrites.proofs.parts.Parts.is_hole.Goals as goal

pub offset_bounds-self-inside-self-inside : goal.offset_bounds-self-inside-self-inside
offset_bounds-self-inside-self-inside c =
    let few = few_parts c.self.inside.width c.self.inside.side.now in
    omega (arith, few, c.self.invariant.0, c.self.invariant.1)

pub bounds-self-inside-self-inside : goal.bounds-self-inside-self-inside
bounds-self-inside-self-inside c =
    let few = few_parts c.self.inside.width c.self.inside.side.now in
    let some : c.args.number < length c.args.self.now = c.requires in
    let same = ap length (sym c.self.view_is) ∙ length-reverse (parts_for c.self.inside.width c.self.inside.side.now) in
    omega (arith, few, c.self.invariant.0, c.self.invariant.1, some, same)

pub bounds : goal.bounds
bounds c =
    let few = few_parts c.self.inside.width c.self.inside.side.now in
    let some : c.args.number < length c.args.self.now = c.requires in
    let same = ap length (sym c.self.view_is) ∙ length-reverse (parts_for c.self.inside.width c.self.inside.side.now) in
    omega (arith, few, c.self.invariant.0, c.self.invariant.1, some, same)

pub returns-in-Operand : goal.returns-in-Operand
returns-in-Operand c = λ part there.
    hole_step c.self.inside.width _ c.in-Operand.hole c.args.index part c.in-Operand.is
    (step_from_end c.self.inside.width c.self.inside.side.now c.self.inside.count c.args.number _ c.args.self.now part c.self.view_is c.self.invariant.0
    c.requires there)

pub returns-in_default : goal.returns-in_default
returns-in_default c = λ part there.
    no_hole_step c.self.inside.width _ c.args.index part c.in_default.not-Operand
    (step_from_end c.self.inside.width c.self.inside.side.now c.self.inside.count c.args.number _ c.args.self.now part c.self.view_is c.self.invariant.0
    c.requires there)
