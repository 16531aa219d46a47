-- The unit in the list is that of the operator that the word names.
use Rattle.std.proofs.Common.{arith}
use Rattle.body_changes.specs.Replacing.{source_context}
use Rattle.body_changes.proofs.CopyLemmas.{named_made, named_not_made, named_one, none_named, nothing_named, there_named}
use Rattle.body_changes.proofs.copied.unit_named.Goals as goal

pub returns-then-count-eq0-clause-none : goal.returns-then-count-eq0-clause-none
returns-then-count-eq0-clause-none c =
    nothing_named (source_context c.args.source.now) c.args.source.now.operators.now c.args.word (omega (arith, c.if-count-eq0.true))

pub returns-in_default-clause-none : goal.returns-in_default-clause-none
returns-in_default-clause-none c =
    none_named (source_context c.args.source.now) c.args.source.now.operators.now c.args.word c.in_ok-units.units.items c.deref.result.now c.in_ok-units.ensures
    c.deref.ensures.value c.unit_at.result c.unit_at.ensures c.in_default.not-Some

pub code_of-requires-clause-is : goal.code_of-requires-clause-is
code_of-requires-clause-is c =
    there_named (source_context c.args.source.now) c.args.source.now.operators.now c.args.word c.in_ok-units.units.items c.deref.result.now
    c.in_ok-units.ensures
    c.deref.ensures.value c.unit_at.result c.unit_at.ensures c.in-Some.unit c.in-Some.is

pub returns-clause-some : goal.returns-clause-some
returns-clause-some c =
    named_made (source_context c.args.source.now) c.args.source.now.operators.now c.args.word c.in-Some.unit
    (there_named (source_context c.args.source.now) c.args.source.now.operators.now c.args.word c.in_ok-units.units.items c.deref.result.now
    c.in_ok-units.ensures
    c.deref.ensures.value c.unit_at.result c.unit_at.ensures c.in-Some.unit c.in-Some.is) c.code_of.result (λ code. code.items) c.code_of.ensures.some

pub returns-clause-none : goal.returns-clause-none
returns-clause-none c =
    named_not_made (source_context c.args.source.now) c.args.source.now.operators.now c.args.word c.in-Some.unit
    (there_named (source_context c.args.source.now) c.args.source.now.operators.now c.args.word c.in_ok-units.units.items c.deref.result.now
    c.in_ok-units.ensures
    c.deref.ensures.value c.unit_at.result c.unit_at.ensures c.in-Some.unit c.in-Some.is) c.code_of.result c.code_of.ensures.none

pub returns-clause-only : goal.returns-clause-only
returns-clause-only c =
    named_one (source_context c.args.source.now) c.args.source.now.operators.now c.args.word c.in-Some.unit
    (there_named (source_context c.args.source.now) c.args.source.now.operators.now c.args.word c.in_ok-units.units.items c.deref.result.now
    c.in_ok-units.ensures
    c.deref.ensures.value c.unit_at.result c.unit_at.ensures c.in-Some.unit c.in-Some.is) c.code_of.result (λ code. code.items) c.code_of.ensures.some
