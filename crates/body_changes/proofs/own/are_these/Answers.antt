-- The next operator is the next instruction, or it isn't.
use Rattle.std.proofs.Common.{◌≡◌, [], ◌∷◌, ◌++◌, take, Some, sym, ap, ◌∙◌}
use Rattle.std.specs.Prelude.{slice_get}
use Rattle.std.proofs.lemmas.Bool.{false≢true}
use Rattle.std.proofs.lemmas.Option.{same_Some, slice_get-get_or}
use Rattle.wasm_code.specs.Instruction.{Instruction}
use Rattle.body_changes.proofs.OwnLemmas.{one_more, one_there, own_there, take_got}
use Rattle.body_changes.proofs.own.are_these.Goals as goal

pub returns-in_default : goal.returns-in_default
returns-in_default c = (
  λ h. absurd (false≢true h),
  λ h.
      let (x, is, there) = own_there c.args.operators.now c.args.code.now c.loop-i.i h c.loop-i-test.true in
      absurd ((rw c.in_default.is at c.instr_at.ensures.none) x there),
)

pub returns-then-not-are_equal : goal.returns-then-not-are_equal
returns-then-not-are_equal c = (
  λ h. absurd (false≢true h),
  λ h.
      let (x, is, there) = own_there c.args.operators.now c.args.code.now c.loop-i.i h c.loop-i-test.true in
      let same = one_there c.args.operators.now c.loop-i.i c.in-Some.instr x (rw c.in-Some.is at c.instr_at.ensures.some) there in
      let item : x ≡ c.index-code-i.result =
      same_Some x c.index-code-i.result (sym is ∙ (slice_get-get_or c.args.code.now c.loop-i.i c.index-code-i.result c.loop-i-test.true
      ∙ ap (λ (y : Instruction). Some y) (sym c.index-code-i.is))) in
      absurd (false≢true (sym c.if-not-are_equal.true ∙ c.are_equal.ensures.1 (same ∙ item))),
)

pub loop-i-preserved : goal.loop-i-preserved
loop-i-preserved c =
    let x = c.index-code-i.result in
    let there : slice_get c.args.code.now c.loop-i.i ≡ Some x =
    slice_get-get_or c.args.code.now c.loop-i.i x c.loop-i-test.true ∙ ap (λ (y : Instruction). Some y) (sym c.index-code-i.is) in
    let same = c.are_equal.ensures.0 c.if-not-are_equal.false in
    one_more c.args.operators.now c.loop-i.i c.in-Some.instr _ _ (rw c.in-Some.is at c.instr_at.ensures.some) c.loop-i.invariant
    (take_got c.args.code.now c.loop-i.i x there ∙ ap (λ (y : Instruction). take c.loop-i.i c.args.code.now ++ y ∷ []) (sym same))
