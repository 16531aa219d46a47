-- The next operators are the same instruction, or the first of them is none.
use Rattle.std.proofs.Common.{◌∷◌, [], ◌++◌, sym, ap₂, ◌∙◌}
use Rattle.std.proofs.lemmas.Bool.{false≢true}
use Rattle.wasm_code.specs.declared.operator.Operator.{Operator}
use Rattle.wasm_code.specs.declared.operator.Operator.TheVariants.{Instr}
use Rattle.wasm_code.specs.Instruction.{Instruction}
use Rattle.std.proofs.Common.{List}
use Rattle.body_splices.specs.OwnBytes.{without_offsets}
use Rattle.body_changes.proofs.OwnLemmas.{no_instructions, take_got}
use Rattle.body_changes.proofs.own.are_alike.Goals as goal

pub returns-in_default : goal.returns-in_default
returns-in_default c = λ code h. (
  λ f. absurd (false≢true f),
  λ _. absurd (no_instructions c.args.some.now c.loop-i.i code c.loop-i-test.true (rw c.in_default.is at c.instr_at.ensures.none) h),
)

pub loop-i-preserved : goal.loop-i-preserved
loop-i-preserved c =
    let same = c.are_equal.ensures.0 c.if-not-are_equal.false in
    take_got (without_offsets c.args.some.now) c.loop-i.i (Instr c.in-Some.one) (rw c.in-Some.is at c.instr_at.ensures.some)
    ∙ (ap₂ (λ (xs : List Operator) (i : Instruction). xs ++ Instr i ∷ []) c.loop-i.invariant same
    ∙ sym (take_got (without_offsets c.args.others.now) c.loop-i.i (Instr c.in-Some-instr_at.other)
    (rw c.in-Some-instr_at.is at c.instr_at-in-loop-i.ensures.some)))
