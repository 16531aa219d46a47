use Rattle.std.proofs.Common.{◌≡◌, ℕ, Bool, List, get_or, sym, ap, ◌∙◌}
use Rattle.std.proofs.lemmas.Result.{err_from_is_err_and}
use Rattle.wasm_code.specs.declared.operator.Operator.{Operator}
use Rattle.wasm_types.specs.Module.{Module}
use Rattle.peephole_graphs.specs.Shape.{Judged, Unfit, Unknown, judge}
use Rattle.peephole_graphs.proofs.BuilderLemmas.{shape_makes, kept_consistent, kept_next, refused, fault}
use Rattle.peephole_graphs.proofs.graph.BuilderGraph.{kept_all}
use Rattle.peephole_graphs.proofs.builder.build.Goals as goal
use Rattle.peephole_graphs.specs.Source.{Source}

abbrev given : Module → Bool → ℕ → List (Operator × ℕ) → Source
given info preserving first operators = record { info = info; preserving = preserving; first = first; operators = operators }

-- of the operator that was read
judged : (info : Module) (operators : List (Operator × ℕ)) (i : ℕ) (o : Operator × ℕ) (j : Judged) → o ≡ get_or operators i o →
    j ≡ judge info o.0 → j ≡ judge info (get_or operators i o).0
judged info operators i o j e h = h ∙ ap (λ (x : Operator × ℕ). judge info x.0) e

pub add_operator-requires-clause-fits : goal.add_operator-requires-clause-fits
add_operator-requires-clause-fits c = shape_makes c.args.info.now c.index-operators-number.result.0 c.in-Fits.shape c.in-Fits.ensures

pub add_operator-requires-clause-consistent : goal.add_operator-requires-clause-consistent
add_operator-requires-clause-consistent c = kept_consistent _ _ c.loop-number.invariant

pub returns-in-Unfit : goal.returns-in-Unfit
returns-in-Unfit c = let h = c.in-Unfit.ensures in
    fault (given c.args.info.now c.args.preserving c.args.first c.args.operators.now) c.loop-number.number
    c.index-operators-number.result _ (λ b j. j ≡ Unfit) c.loop-number-test.true c.loop-number.invariant
    (sym (judged c.args.info.now c.args.operators.now c.loop-number.number _ _ c.index-operators-number.is h))

pub returns-in-Unknown : goal.returns-in-Unknown
returns-in-Unknown c = fault (given c.args.info.now c.args.preserving c.args.first c.args.operators.now) c.loop-number.number
    c.index-operators-number.result _ (λ b j. j ≡ Unknown c.in-Unknown.function) c.loop-number-test.true c.loop-number.invariant
    (sym (judged c.args.info.now c.args.operators.now c.loop-number.number _ _ c.index-operators-number.is c.in-Unknown.ensures))

pub loop-number-preserved : goal.loop-number-preserved
loop-number-preserved c =
    let h = c.in-Fits.ensures in
    let a = c.in_ok-add_operator-in-Fits.ensures.added in
    let b = c.in_ok-add_operator-in-Fits.ensures.small in
    let d = c.in_ok-add_operator-in-Fits.ensures.color in
    kept_next (given c.args.info.now c.args.preserving c.args.first c.args.operators.now) c.loop-number.number
    c.index-operators-number.result c.in-Fits.shape c.loop-number.growing c.add_operator.new.growing c.loop-number-test.true c.loop-number.invariant
    (judged c.args.info.now c.args.operators.now c.loop-number.number _ _ c.index-operators-number.is h) a b.0 b.1 d

pub returns : goal.returns
returns c = kept_all (given c.args.info.now c.args.preserving c.args.first c.args.operators.now) c.loop-number.number _
    c.loop-number-test.false c.loop-number.invariant

pub returns-in_err-add_operator-in-Fits : goal.returns-in_err-add_operator-in-Fits
returns-in_err-add_operator-in-Fits c =
    let p = err_from_is_err_and c.from_residual-in_err-add_operator-in-Fits.result c.from_residual-in_err-add_operator-in-Fits.ensures.1 in
    rw (p.1, p.2) (refused (given c.args.info.now c.args.preserving c.args.first c.args.operators.now) c.loop-number.number
    c.index-operators-number.result c.in-Fits.shape c.loop-number.growing _ c.loop-number-test.true c.loop-number.invariant
    (judged c.args.info.now c.args.operators.now c.loop-number.number _ _ c.index-operators-number.is c.in-Fits.ensures)
    c.in_err-add_operator-in-Fits.ensures.refused)
