-- None at all.
use Rattle.std.proofs.Common.{◌≡◌, ◌≤◌, ℕ, Some, inl, inr, sym, subst, ◌∙◌, length, arith}
use Rattle.std.specs.Prelude.{slice_get}
use Rattle.std.proofs.lemmas.Bool.{cases_lt, false≢true}
use Rattle.std.proofs.lemmas.Grind.{common_steps}
use Rattle.body_changes.specs.declared.change.Change.TheVariants.{Copy}
use Rattle.module_changes.proofs.CopyingLemmas.{got_inside}
use Rattle.module_changes.proofs.copying.may_copy.Goals as goal

pub loop-number-preserved : goal.loop-number-preserved
loop-number-preserved c = λ k l is. elim (cases_lt k c.loop-number.number) [
  | inl lt ↦ c.loop-number.invariant k lt is
  | inr le ↦
      let same : k ≡ c.loop-number.number = omega (arith, l, le) in
      false≢true (sym c.if-is_copy.false ∙ c.is_copy.ensures.1 (subst (λ (n : ℕ). slice_get c.args.changes.now n ≡ Some Copy) same is))
]

pub returns : goal.returns
returns c =
    let past : length c.args.changes.now ≤ c.loop-number.number = grind (arith, common_steps) in
    λ no may. c.loop-number.invariant may.0 (let inside = got_inside c.args.changes.now may.0 Copy may.1 in omega (arith, past, inside)) may.1
