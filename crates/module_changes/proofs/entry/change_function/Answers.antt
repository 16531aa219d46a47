-- The function's body in the module, and the module with it.
use Rattle.std.proofs.Common.{ℕ, ◌≤◌, ◌++◌, length, subst, sym, ◌∙◌}
use Rattle.body_splices.specs.OwnBytes.{IsBodyIn}
use Rattle.wasm_lists.specs.declared.entries.Entry.{Entry}
use Rattle.module_rewrites.specs.Mutated.{IsBehindLocals}
use Rattle.std.proofs.lemmas.Option.{same_Some}
use Rattle.module_changes.specs.Entry.{choice_of, IsLarge}
use Rattle.module_changes.proofs.EntryLemmas.{does_not_fit, makes, none_here}
use Rattle.module_changes.proofs.entry.change_function.Goals as goal

pub change_body-requires-clause-body : goal.change_body-requires-clause-body
change_body-requires-clause-body c =
    subst (IsBodyIn c.args.reading.now.bytes.now) (sym c.deref-2.ensures.value)
    (c.functions_are_inside.ensures.body c.args.reading.now.bytes.now c.args.reading.now.info.now c.args.reading.now.layout.now c.args.n
    c.args.function.now.locals.items c.args.function.now.expression c.args.function.now.operators.items c.requires.reading c.requires.function)

pub returns-in_default-clause-tried : goal.returns-in_default-clause-tried
returns-in_default-clause-tried c =
    none_here (choice_of c.args.trial.now) c.args.reading.now.bytes.now c.args.reading.now.info.now c.args.reading.now.layout.now
    c.args.trial.now.words.now c.args.n
    c.args.function.now.locals.items c.deref.result.now c.args.function.now.operators.items c.deref-2.result.now c.deref.ensures.value
    c.deref-2.ensures.value c.requires.only (rw c.in_default.is at c.in_ok-changed.ensures.none)

pub locals_of-locals-requires : goal.locals_of-locals-requires
locals_of-locals-requires c =
    subst (λ (e : Entry). IsBehindLocals c.args.reading.now.bytes.now e c.args.function.now.expression)
    (same_Some c.requires.function.entry c.entry_at.result (sym c.requires.function.is.at ∙ c.entry_at.ensures))
    (c.functions_are_inside.ensures.locals c.args.reading.now.bytes.now c.args.reading.now.info.now c.args.reading.now.layout.now c.args.n
    c.args.function.now.locals.items c.args.function.now.expression c.args.function.now.operators.items c.requires.reading c.requires.function)

pub returns-in-Some-2-clause-tried : goal.returns-in-Some-2-clause-tried
returns-in-Some-2-clause-tried c =
    makes (choice_of c.args.trial.now) c.args.reading.now.bytes.now c.args.reading.now.info.now c.args.reading.now.layout.now
    c.args.trial.now.words.now c.args.n
    (record { function = c.function_index.result; change = c.in-Some.changed.change; operator = c.in-Some.changed.at; start = c.in-Some.changed.start })
    c.args.function.now.locals.items c.deref.result.now c.args.function.now.expression c.args.function.now.operators.items c.deref-2.result.now
    c.entry_at.result c.new-body.result c.change_body.new.sink c.locals_of-locals.result.now c.bytes.result.now c.requires.function c.deref.ensures.value
    c.deref-2.ensures.value c.new-body.ensures c.entry_at.ensures c.locals_of-locals.ensures c.bytes.ensures
    (rw c.in-Some.is at c.in_ok-changed.ensures.made)
    (record {
      splices = c.splices_keep_operators.ensures.operators;
      reread = c.rewritten_bytes_are_a_module.ensures;
      again = c.bodies_are_read_again.ensures;
    }) c.in-Some-2.new.items c.requires.reading c.function_index.ensures
    (rw c.in-Some-2.is at c.in_ok-new.ensures.written)
    (subst (λ (most : ℕ). length c.in-Some-2.new.items ≤ most) c.max_size.ensures (rw c.in-Some-2.is at c.in_ok-new.ensures.fits))

pub returns-clause-tried : goal.returns-clause-tried
returns-clause-tried c =
    does_not_fit (choice_of c.args.trial.now) c.args.reading.now.bytes.now c.args.reading.now.info.now c.args.reading.now.layout.now
    c.args.trial.now.words.now c.args.n
    (record { function = 0; change = c.in-Some.changed.change; operator = c.in-Some.changed.at; start = c.in-Some.changed.start })
    c.args.function.now.locals.items c.deref.result.now c.args.function.now.expression c.args.function.now.operators.items c.deref-2.result.now
    c.entry_at.result c.new-body.result c.change_body.new.sink c.locals_of-locals.result.now c.bytes.result.now c.requires.function c.deref.ensures.value
    c.deref-2.ensures.value c.new-body.ensures c.entry_at.ensures c.locals_of-locals.ensures c.bytes.ensures
    (rw c.in-Some.is at c.in_ok-changed.ensures.made)
    (subst (IsLarge c.args.reading.now.bytes.now c.args.reading.now.layout.now c.args.n (c.locals_of-locals.result.now ++ c.bytes.result.now))
    c.max_size.ensures (rw c.in-None.is at c.in_ok-new.ensures.large))
