-- Operator by operator.
use Rattle.std.proofs.Common.{◌≡◌, ℕ, ◌+◌, ◌<◌, ◌≤◌, List, length, get_or, false, refl, sym, ap, ◌∙◌, inl, inr, arith}
use Rattle.std.specs.Prelude.{slice_get}
use Rattle.std.proofs.lemmas.Bool.{both_ways, cases_eq}
use Rattle.std.proofs.lemmas.Grind.{common_steps}
use Rattle.std.proofs.lemmas.Option.{same_Some, slice_get-get_or}
use Rattle.wasm_code.specs.Operator.{is_delimiter}
use Rattle.wasm_code.specs.declared.operator.Operator.{Operator}
use Rattle.peephole_graphs.specs.Block.{HasNoDelimiter}
use Rattle.peephole_graphs.proofs.block.has_no_delimiter.Goals as goal

one_more : (operators : List (Operator × ℕ)) (start n : ℕ) (d : Operator × ℕ) → n < length operators →
    is_delimiter (get_or operators n d).0 ≡ false → HasNoDelimiter operators start n → HasNoDelimiter operators start (n + 1)
one_more operators start n d inside passed h k o low high is = elim (cases_eq k n) [
  | inl e ↦
      let same : o ≡ get_or operators n d = same_Some o _ (sym is ∙ (ap (slice_get operators) e ∙ slice_get-get_or operators n d inside)) in
      ap (λ (x : Operator × ℕ). is_delimiter x.0) same ∙ passed
  | inr other ↦ h k o low (omega arith) is
]

pub returns-then-is_delimiter : goal.returns-then-is_delimiter
returns-then-is_delimiter c =
    let inside : c.loop-index.index < length c.args.operators.now = omega (arith, c.requires, c.loop-index-test.true) in (
      λ h. absurd cc,
      λ h. absurd (both_ways _
          (h c.loop-index.index _ c.loop-index.auto.index c.loop-index-test.true
          (slice_get-get_or c.args.operators.now c.loop-index.index c.index-operators-index.result inside)) (sym c.if-is_delimiter.ensures)),
    )

pub loop-index-preserved : goal.loop-index-preserved
loop-index-preserved c =
    one_more c.args.operators.now c.args.start c.loop-index.index c.index-operators-index.result (omega (arith, c.requires, c.loop-index-test.true))
    (sym c.if-is_delimiter.ensures) c.loop-index.invariant

pub returns : goal.returns
returns c =
    let past : c.args.end ≤ c.loop-index.index = grind (arith, common_steps) in
    (λ _ k o low high is. c.loop-index.invariant k o low (omega arith) is, λ _. refl)
