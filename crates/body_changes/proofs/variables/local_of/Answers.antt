-- Reading a local gives a value of its type.
use Rattle.std.proofs.Common.{◌≡◌, inl, Some, refl, sym, ap, ◌∙◌}
use Rattle.wasm_code.specs.Instruction.{Instruction}
use Rattle.body_changes.specs.Goals.{context_for, indexed}
use Rattle.body_changes.proofs.VariableLemmas.{index_fits, local_gives}
use Rattle.body_changes.proofs.variables.local_of.Goals as goal

pub instr-requires : goal.instr-requires
instr-requires c = index_fits 4 (inl refl) c.in-Some.index

pub returns-in-Some-clause-some : goal.returns-in-Some-clause-some
returns-in-Some-clause-some c =
    local_gives (context_for c.args.scope.now) c.args.wanted c.in-Some.index c.instr.result c.instr.ensures.is c.instr.ensures.instruction
    (rw c.in-Some.is at c.variable_of.ensures.some)

pub returns-in-Some-clause-only : goal.returns-in-Some-clause-only
returns-in-Some-clause-only c = λ n small there is.
    let found : Some c.in-Some.index ≡ Some n = sym c.in-Some.is ∙ c.variable_of.ensures.only n small there is in
    let same : c.in-Some.index ≡ n = cc in
    ap (λ (i : Instruction). Some i) (c.instr.ensures.is ∙ ap (indexed 4) same)
