-- This one is, or isn't.
use Rattle.std.proofs.Common.{◌<◌, length, get_or, sym, ◌∙◌, arith}
use Rattle.std.proofs.lemmas.Option.{slice_get-get_or}
use Rattle.rewrite_rules.specs.declared.pattern.Part.TheVariants.{Hole}
use Rattle.body_rewrites.proofs.AllAlikeLemmas.{slot_here}
use Rattle.body_rewrites.proofs.MatchingLemmas.{slot_past}
use Rattle.body_rewrites.proofs.matching.slot_at.Goals as goal

pub returns-then-is_slot : goal.returns-then-is_slot
returns-then-is_slot c =
    let i = c.loop-i.i in
    let parts = c.args.parts.now in
    let part = get_or parts i (Hole 0) in
    let there = slice_get-get_or parts i (Hole 0) (omega (arith, c.loop-i-test.true, c.len-i-end.ensures.count)) in
    c.number_at.ensures
    ∙ sym (c.loop-i.invariant
    ∙ slot_here c.args.operators.now parts c.args.starts.now i c.args.index part there c.requires (sym (c.is_slot.ensures part there) ∙ c.if-is_slot.true))

pub loop-i-preserved : goal.loop-i-preserved
loop-i-preserved c =
    let i = c.loop-i.i in
    let parts = c.args.parts.now in
    let part = get_or parts i (Hole 0) in
    let inside : i < length parts = omega (arith, c.loop-i-test.true, c.len-i-end.ensures.count) in
    let there = slice_get-get_or parts i (Hole 0) inside in
    c.loop-i.invariant
    ∙ slot_past c.args.operators.now parts c.args.starts.now i c.args.index (Hole 0) c.requires inside
    (sym (c.is_slot.ensures part there) ∙ c.if-is_slot.false)
