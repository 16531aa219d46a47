-- By the step that stands as far from the end.
use Rattle.std.proofs.Common.{◌≡◌, ◌<◌, List, Some, length, ap, sym, subst, ◌∙◌, arith}
use Rattle.std.specs.Prelude.{reverse, slice_get}
use Rattle.std.proofs.lemmas.List.{length-reverse}
use Rattle.std.proofs.lemmas.Option.{none-some, slice_get-get_or}
use Rattle.rewrite_rules.specs.declared.pattern.Part.{Part}
use Rattle.rewrite_rules.specs.declared.pattern.Part.TheVariants.{Hole}
use Rattle.rewrite_rules.specs.Table.{parts_for}
use Rattle.body_rewrites.proofs.PartsLemmas.{few_parts, part_from_end}
use Rattle.body_rewrites.proofs.parts.Parts.at.Goals as goal

pub offset_bounds-self-inside-self-inside : goal.offset_bounds-self-inside-self-inside
offset_bounds-self-inside-self-inside c =
    let few = few_parts c.self.inside.width c.self.inside.side.now in
    omega (arith, few, c.self.invariant.0, c.self.invariant.1)

pub bounds-self-inside-self-inside : goal.bounds-self-inside-self-inside
bounds-self-inside-self-inside c =
    let few = few_parts c.self.inside.width c.self.inside.side.now in
    let some : c.args.number < length c.args.self.now = c.requires in
    let same = ap length (sym c.self.view_is) ∙ length-reverse (parts_for c.self.inside.width c.self.inside.side.now) in
    omega (arith, few, c.self.invariant.0, c.self.invariant.1, some, same)

pub unreachable-requires : goal.unreachable-requires
unreachable-requires c =
    let parts = reverse (parts_for c.self.inside.width c.self.inside.side.now) in
    let inside = subst (λ (ps : List Part). c.args.number < length ps) (sym c.self.view_is) c.requires in
    let none =
    part_from_end c.self.inside.width c.self.inside.side.now c.self.inside.count c.args.number _ c.self.invariant.0 inside
    ∙ (sym c.part.ensures ∙ c.in-None.is) in
    absurd (none-some _ (sym none ∙ slice_get-get_or parts c.args.number (Hole 0) inside))

pub returns : goal.returns
returns c =
    subst (λ (ps : List Part). slice_get ps c.args.number ≡ Some c.in-Some.part) c.self.view_is
    (part_from_end c.self.inside.width c.self.inside.side.now c.self.inside.count c.args.number _ c.self.invariant.0
    (subst (λ (ps : List Part). c.args.number < length ps) (sym c.self.view_is) c.requires)
    ∙ (sym c.part.ensures ∙ c.in-Some.is))
