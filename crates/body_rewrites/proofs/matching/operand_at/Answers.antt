-- This one is, or isn't.
use Rattle.std.proofs.Common.{◌<◌, length, get_or, sym, ◌∙◌, arith}
use Rattle.std.proofs.lemmas.Option.{slice_get-get_or}
use Rattle.rewrite_rules.specs.declared.pattern.Part.TheVariants.{Hole}
use Rattle.body_rewrites.proofs.AllAlikeLemmas.{operand_here}
use Rattle.body_rewrites.proofs.MatchingLemmas.{operand_past}
use Rattle.body_rewrites.proofs.matching.operand_at.Goals as goal

pub returns-then-is_hole : goal.returns-then-is_hole
returns-then-is_hole c =
    let i = c.loop-i.i in
    let parts = c.args.parts.now in
    let part = get_or parts i (Hole 0) in
    let there = slice_get-get_or parts i (Hole 0) (omega (arith, c.loop-i-test.true, c.len-i-end.ensures.count)) in
    sym (c.loop-i.invariant
    ∙ operand_here parts c.args.starts.now i c.loop-i.at c.args.index part there c.requires (sym (c.is_hole.ensures part there) ∙ c.if-is_hole.true))

pub loop-i-preserved : goal.loop-i-preserved
loop-i-preserved c =
    let i = c.loop-i.i in
    let parts = c.args.parts.now in
    let part = get_or parts i (Hole 0) in
    let inside : i < length parts = omega (arith, c.loop-i-test.true, c.len-i-end.ensures.count) in
    let there = slice_get-get_or parts i (Hole 0) inside in
    c.loop-i.invariant
    ∙ operand_past parts c.args.starts.now i c.loop-i.at c.args.index (Hole 0) c.requires inside (sym (c.is_hole.ensures part there) ∙ c.if-is_hole.false)
