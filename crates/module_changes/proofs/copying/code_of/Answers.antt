-- Of a function that can't be read, of an operator without a unit, and of code that asks more.
use Rattle.std.proofs.Common.{sym, ◌∙◌}
use Rattle.std.proofs.lemmas.Bool.{false≢true}
use Rattle.module_changes.specs.Entry.{donor_of}
use Rattle.module_changes.proofs.CopyingLemmas.{may_not, none_named}
use Rattle.module_changes.proofs.copying.code_of.Goals as goal

pub returns-in-Err-clause-none : goal.returns-in-Err-clause-none
returns-in-Err-clause-none c = λ code m.
    false≢true (sym c.if-is_memory.false ∙ c.is_memory.ensures.1 (c.in-Err.ensures.only m.locals m.expression m.operators m.function))

pub returns-in_default-clause-none : goal.returns-in_default-clause-none
returns-in_default-clause-none c =
    none_named (donor_of c.args.source.now) c.args.words.now c.args.n c.in-Ok.function.locals.items c.in-Ok.function.operators.items c.in-Ok.ensures.only
    (rw (c.deref.ensures.value, c.deref-2.ensures.value, c.word_at.ensures, c.in_default.is) at c.in_ok-code.ensures.none)

pub returns-clause-none : goal.returns-clause-none
returns-clause-none c =
    may_not (donor_of c.args.source.now) c.args.words.now c.args.n c.in-Ok.function.locals.items c.in-Ok.function.operators.items c.in-Ok.ensures.only
    c.in-Some.code.items (rw (c.deref.ensures.value, c.deref-2.ensures.value, c.word_at.ensures, c.in-Some.is) at c.in_ok-code.ensures.only)
    (λ may. false≢true (sym c.if-may_be_copied.false ∙ c.may_be_copied.ensures.1 (rw (sym c.deref-3.ensures.value) at may)))
