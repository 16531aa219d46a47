-- The row takes the other memory argument, which gives the same and isn't the own one.
use Rattle.std.proofs.Common.{◌≡◌, ℕ, Some, sym, ap, ap₂, ◌∙◌, subst}
use Rattle.std.specs.Prelude.{IsTrue}
use Rattle.wasm_code.specs.Instruction.{Instruction, fits_row}
use Rattle.wasm_code.specs.Table.{row_at}
use Rattle.wasm_code.specs.declared.immediate.Imm.{Imm}
use Rattle.body_changes.specs.declared.goal.Words.{Words}
use Rattle.body_changes.specs.Kinds.{access_with_argument, memory_argument, with_argument}
use Rattle.body_changes.specs.Proposals.{context_at, operators_of}
use Rattle.body_changes.proofs.MemoryLemmas.{argument_fits, named_memory, new_memory}
use Rattle.body_changes.proofs.kinds.memory_arguments.memory_instead.Goals as goal

pub instr-requires : goal.instr-requires
instr-requires c =
    let own = c.in-Some.own in
    let other = c.other_argument-other.result in
    let own_is : memory_argument own.imm ≡ Some c.in-Some-memory_argument.argument =
    ap memory_argument (sym c.imm.ensures) ∙ (sym c.memory_argument.ensures ∙ c.in-Some-memory_argument.is) in
    subst (λ (i : Imm). IsTrue (fits_row (row_at c.row.result) i)) (ap (with_argument other) (sym c.imm-2.ensures) ∙ sym c.with_argument-imm.ensures)
    (subst (λ (n : ℕ). IsTrue (fits_row (row_at n) (with_argument other own.imm))) (sym c.row.ensures.row)
    (argument_fits (row_at own.row) own.imm c.in-Some-memory_argument.argument other own_is c.other_argument-other.ensures.asks.align
    c.row.ensures.instruction.kind))

pub returns-clause-new : goal.returns-clause-new
returns-clause-new c =
    let place = c.args.place.now in
    let own = c.in-Some.own in
    let other = c.other_argument-other.result in
    let own_is : memory_argument own.imm ≡ Some c.in-Some-memory_argument.argument =
    ap memory_argument (sym c.imm.ensures) ∙ (sym c.memory_argument.ensures ∙ c.in-Some-memory_argument.is) in
    let is : c.instr.result ≡ access_with_argument other own =
    c.instr.ensures.is ∙ ap₂ (λ (n : ℕ) (i : Imm). let a : Instruction = record { row = n; imm = i } in a) c.row.ensures.row
    (c.with_argument-imm.ensures ∙ ap (with_argument other) c.imm-2.ensures) in
    new_memory (context_at place) (operators_of place) place.at place.unit c.requires.is own (rw c.in-Some.is at c.instr_at.ensures.some)
    c.in-Some-memory_argument.argument own_is other c.other_argument-other.ensures.asks c.other_argument-other.ensures.differs c.instr.result is

pub returns-clause-named : goal.returns-clause-named
returns-clause-named c =
    let place = c.args.place.now in
    let own = c.in-Some.own in
    let other = c.other_argument-other.result in
    let words = c.first_words.ensures in
    let own_is : memory_argument own.imm ≡ Some c.in-Some-memory_argument.argument =
    ap memory_argument (sym c.imm.ensures) ∙ (sym c.memory_argument.ensures ∙ c.in-Some-memory_argument.is) in
    let is : c.instr.result ≡ access_with_argument other own =
    c.instr.ensures.is ∙ ap₂ (λ (n : ℕ) (i : Imm). let a : Instruction = record { row = n; imm = i } in a) c.row.ensures.row
    (c.with_argument-imm.ensures ∙ ap (with_argument other) c.imm-2.ensures) in
    named_memory (context_at place) (operators_of place) place.at place.unit c.requires.is own (rw c.in-Some.is at c.instr_at.ensures.some)
    c.in-Some-memory_argument.argument own_is other c.args.words.now
    (λ m asks differs kind offset align. c.other_argument-other.ensures.named m asks differs (ap (λ (w : Words). w.choice) words ∙ kind)
    (ap (λ (w : Words). w.low) words ∙ offset) (ap (λ (w : Words). w.high) words ∙ align)) c.instr.result is
