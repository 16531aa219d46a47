-- No other variable of the type has that number.
use Rattle.std.proofs.Common.{ℕ, Some, sym, ap, ◌∙◌, arith}
use Rattle.wasm_types.specs.declared.types.PrimitiveTypeInfo.TheVariants.{I32}
use Rattle.body_changes.proofs.VariableLemmas.{there_is, one_by_rank, none_past}
use Rattle.body_changes.proofs.variables.place_of.Goals as goal

pub returns-then-before-number-clause-only : goal.returns-then-before-number-clause-only
returns-then-before-number-clause-only c = λ n there is.
    ap (λ (k : ℕ). Some k) (one_by_rank c.args.types.now c.args.wanted c.loop-i.i n
    (there_is c.args.types.now c.args.wanted I32 c.loop-i.i c.loop-i-test.true (sym c.same_type.ensures ∙ c.if-same_type.true)) there
    (sym c.loop-i.invariant.is ∙ (c.if-before-number.true ∙ sym is)))

pub returns-clause-only : goal.returns-clause-only
returns-clause-only c = λ n there is.
    let before = c.loop-i.invariant.is in
    let below = c.loop-i.invariant.below in
    absurd (none_past c.args.types.now c.args.wanted c.loop-i.i n c.args.number c.loop-i-test.false (omega arith) there is)
