-- Part by part.
use Rattle.std.proofs.Common.{sym, subst, ◌∙◌, arith}
use Rattle.std.specs.Prelude.{slice_index_or}
use Rattle.body_rewrites.specs.Matching.{HasSomeCode, IsAlike}
use Rattle.body_rewrites.proofs.AllAlikeLemmas.{cut_length, operand_has_code, nothing_yet, drop_one, drop_item, some_part, is_alike_there, one_more_alike}
use Rattle.body_rewrites.proofs.matching.are_alike.Goals as goal

pub loop-i-init : goal.loop-i-init
loop-i-init c = nothing_yet c.args.operators.now c.args.parts.now c.args.starts.now c.args.end c.args.numbers.now c.requires

pub operand_of-operand-requires : goal.operand_of-operand-requires
operand_of-operand-requires c = cut_length c.requires.0 c.args.operators.now c.args.parts.now c.args.starts.now c.args.end c.requires.1

pub is_alike-requires-clause-part : goal.is_alike-requires-clause-part
is_alike-requires-clause-part c =
    let e = cut_length c.requires.0 c.args.operators.now c.args.parts.now c.args.starts.now c.args.end c.requires.1 in
    let i = c.loop-i.i in
    some_part c.args.operators.now c.args.parts.now c.args.starts.now c.args.end c.args.numbers.now i c.loop-i.at c.at-part.result
    (slice_index_or c.args.starts.now i 0) (drop_item c.args.parts.now i c.at-part.result c.at-part.ensures)
    (drop_one c.args.starts.now i 0 (omega (arith, e, c.loop-i-test.true, c.len-i-end.ensures.count))) c.loop-i.invariant

pub is_alike-requires-clause-operand : goal.is_alike-requires-clause-operand
is_alike-requires-clause-operand c =
    subst (HasSomeCode c.args.operators.now) (sym c.operand_of-operand.ensures)
    (operand_has_code c.requires.0 c.args.operators.now c.args.parts.now c.args.starts.now c.args.end _ c.requires.1)

pub bounds-starts-i : goal.bounds-starts-i
bounds-starts-i c =
    let e = cut_length c.requires.0 c.args.operators.now c.args.parts.now c.args.starts.now c.args.end c.requires.1 in
    omega (arith, e, c.loop-i-test.true, c.len-i-end.ensures.count)

pub bounds-starts-i-in-loop-i : goal.bounds-starts-i-in-loop-i
bounds-starts-i-in-loop-i c =
    let e = cut_length c.requires.0 c.args.operators.now c.args.parts.now c.args.starts.now c.args.end c.requires.1 in
    omega (arith, e, c.loop-i-test.true, c.len-i-end.ensures.count)

pub returns-then-not-is_alike-clause-only : goal.returns-then-not-is_alike-clause-only
returns-then-not-is_alike-clause-only c = λ all.
    let e = cut_length c.requires.0 c.args.operators.now c.args.parts.now c.args.starts.now c.args.end c.requires.1 in
    let i = c.loop-i.i in
    let k = slice_index_or c.args.starts.now i 0 in
    let alike = is_alike_there c.args.operators.now c.args.parts.now c.args.starts.now c.args.end c.args.numbers.now i c.loop-i.at c.at-part.result k
    (drop_item c.args.parts.now i c.at-part.result c.at-part.ensures)
    (drop_one c.args.starts.now i 0 (omega (arith, e, c.loop-i-test.true, c.len-i-end.ensures.count))) c.loop-i.invariant all in
    sym c.if-not-is_alike.true
    ∙ c.is_alike.ensures.only
    (subst (λ o. IsAlike c.args.operators.now c.at-part.result (k, c.loop-i.at) o c.args.numbers.now) (sym c.operand_of-operand.ensures) alike)

pub loop-i-preserved : goal.loop-i-preserved
loop-i-preserved c =
    let e = cut_length c.requires.0 c.args.operators.now c.args.parts.now c.args.starts.now c.args.end c.requires.1 in
    let i = c.loop-i.i in
    let k = slice_index_or c.args.starts.now i 0 in
    one_more_alike c.args.operators.now c.args.parts.now c.args.starts.now c.args.end c.args.numbers.now i c.loop-i.at c.at-part.result k
    (drop_item c.args.parts.now i c.at-part.result c.at-part.ensures)
    (drop_one c.args.starts.now i 0 (omega (arith, e, c.loop-i-test.true, c.len-i-end.ensures.count))) c.loop-i.invariant
    (subst (λ o. IsAlike c.args.operators.now c.at-part.result (k, c.loop-i.at) o c.args.numbers.now) c.operand_of-operand.ensures
    (c.is_alike.ensures.same c.if-not-is_alike.false))
