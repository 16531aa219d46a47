-- One operator more, which is no delimiter.
use Rattle.std.proofs.Common.{◌≡◌, ℕ, ◌-◌, ◌<◌, List, length, get_or, false, sym, ap, ◌∙◌, inl, inr, arith}
use Rattle.std.specs.Prelude.{slice_get}
use Rattle.std.proofs.lemmas.Bool.{cases_eq}
use Rattle.std.proofs.lemmas.Option.{same_Some, slice_get-get_or}
use Rattle.wasm_code.specs.Operator.{is_delimiter}
use Rattle.wasm_code.specs.declared.operator.Operator.{Operator}
use Rattle.peephole_graphs.specs.Block.{HasNoDelimiter}
use Rattle.peephole_graphs.proofs.block.block_start.Goals as goal

one_more : (operators : List (Operator × ℕ)) (start end : ℕ) (d : Operator × ℕ) → 0 < start → start - 1 < length operators →
    is_delimiter (get_or operators (start - 1) d).0 ≡ false → HasNoDelimiter operators start end → HasNoDelimiter operators (start - 1) end
one_more operators start end d some inside passed h k o low high is = elim (cases_eq k (start - 1)) [
  | inl e ↦
      let same : o ≡ get_or operators (start - 1) d = same_Some o _ (sym is ∙
      (ap (slice_get operators) e ∙ slice_get-get_or operators (start - 1) d inside)) in
      ap (λ (x : Operator × ℕ). is_delimiter x.0) same ∙ passed
  | inr other ↦ h k o (omega arith) high is
]

pub loop-start-preserved : goal.loop-start-preserved
loop-start-preserved c =
    let low = c.loop-start.invariant.0 in (
      omega arith,
      one_more c.args.operators.now c.loop-start.start _ c.index-operators-start.result c.loop-start-test.true
          (omega arith) (sym c.if-is_delimiter.ensures) c.loop-start.invariant.1,
    )
