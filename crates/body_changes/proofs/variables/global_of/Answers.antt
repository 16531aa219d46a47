-- Reading a global gives a value of its type.
use Rattle.std.proofs.Common.{◌≡◌, inr, List, Some, refl, sym, ap, subst, ◌∙◌}
use Rattle.wasm_code.specs.Instruction.{Instruction}
use Rattle.wasm_types.specs.declared.types.PrimitiveTypeInfo.{PrimitiveTypeInfo}
use Rattle.body_changes.specs.Drawing.{variable_rank}
use Rattle.body_changes.specs.Goals.{context_for, indexed, HasVariable}
use Rattle.body_changes.proofs.VariableLemmas.{index_fits, global_gives}
use Rattle.body_changes.proofs.variables.global_of.Goals as goal

pub instr-requires : goal.instr-requires
instr-requires c = index_fits 7 (inr refl) c.in-Some.index

pub returns-in-Some-clause-some : goal.returns-in-Some-clause-some
returns-in-Some-clause-some c =
    global_gives (context_for c.args.scope.now) c.args.wanted c.in-Some.index c.instr.result c.instr.ensures.is c.instr.ensures.instruction
    (subst (λ (types : List PrimitiveTypeInfo). HasVariable types c.args.wanted c.in-Some.index) c.globals_of.ensures
    (rw c.in-Some.is at c.variable_of.ensures.some))

pub returns-in-Some-clause-only : goal.returns-in-Some-clause-only
returns-in-Some-clause-only c = λ n small there is.
    let found : Some c.in-Some.index ≡ Some n = sym c.in-Some.is ∙ c.variable_of.ensures.only n small
    (subst (λ (types : List PrimitiveTypeInfo). HasVariable types c.args.wanted n) (sym c.globals_of.ensures) there)
    (ap (λ (types : List PrimitiveTypeInfo). variable_rank types c.args.wanted n) c.globals_of.ensures ∙ is) in
    let same : c.in-Some.index ≡ n = cc in
    ap (λ (i : Instruction). Some i) (c.instr.ensures.is ∙ ap (indexed 7) same)
