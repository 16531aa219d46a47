-- Where the types are the same, and where they aren't.
use Rattle.std.proofs.Common.{◌≡◌, List, sym, ◌∙◌, subst}
use Rattle.std.proofs.lemmas.Bool.{false≢true}
use Rattle.wasm_types.specs.declared.types.PrimitiveTypeInfo.{PrimitiveTypeInfo}
use Rattle.body_changes.specs.Replacing.{source_context}
use Rattle.body_changes.specs.Typed.{LeavesTypes}
use Rattle.body_changes.proofs.ReplacingLemmas.{not_closed, types_differ}
use Rattle.body_changes.proofs.replacing.can_replace.Goals as goal

pub returns-in_default-clause-never : goal.returns-in_default-clause-never
returns-in_default-clause-never c = λ e can.
    not_closed (source_context c.args.source.now) c.args.source.now.operators.now c.args.range.start c.args.range.end c.args.code.now
    (rw c.in_default.is at c.in_ok-old.ensures.none) can

pub returns-clause-can : goal.returns-clause-can
returns-clause-can c = λ yes.
    let context = source_context c.args.source.now in
    let same : c.in-Some-2.new.items ≡ c.in-Some.old.items =
    sym c.deref-2.ensures.value ∙ (sym (c.are_same.ensures.0 yes) ∙ c.deref.ensures.value) in
    record {
      types = c.in-Some.old.items;
      closed = rw c.in-Some.is at c.in_ok-old.ensures.some;
      leaves = subst (λ (ts : List PrimitiveTypeInfo). LeavesTypes context c.args.code.now ts) same (rw c.in-Some-2.is at c.in_ok-new.ensures.some);
    }

pub returns-clause-never : goal.returns-clause-never
returns-clause-never c = λ no can.
    types_differ (source_context c.args.source.now) c.args.source.now.operators.now c.args.range.start c.args.range.end c.args.code.now
    c.in-Some.old.items c.in-Some-2.new.items (rw c.in-Some.is at c.in_ok-old.ensures.some) (rw c.in-Some-2.is at c.in_ok-new.ensures.some)
    (λ same. false≢true (sym no ∙ c.are_same.ensures.1 (c.deref.ensures.value ∙ (same ∙ sym c.deref-2.ensures.value)))) can
