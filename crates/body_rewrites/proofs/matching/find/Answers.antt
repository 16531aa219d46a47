-- By the cut, the slots and what is alike.
use Rattle.std.proofs.Common.{[], ◌∷◌, length, ap, sym, subst, ◌∙◌}
use Rattle.std.proofs.lemmas.Bool.{false≢true}
use Rattle.body_rewrites.specs.Matching.{slot_at, AreAllAlike}
use Rattle.body_rewrites.proofs.AllAlikeLemmas.{cut_length}
use Rattle.body_rewrites.proofs.FoundLemmas.{none_found}
use Rattle.body_rewrites.proofs.matching.find.Goals as goal

pub slot_at-requires : goal.slot_at-requires
slot_at-requires c =
    let cut = rw c.in-Some.is at c.cuts.ensures.some in
    ap length c.deref.ensures.0
    ∙ cut_length c.requires.0 c.args.operators.now c.args.parts.now c.in-Some.starts.items c.args.end (cut c.requires.0 c.requires.1)

pub slot_at-requires-2 : goal.slot_at-requires-2
slot_at-requires-2 c =
    let cut = rw c.in-Some.is at c.cuts.ensures.some in
    ap length c.deref-2.ensures.0
    ∙ cut_length c.requires.0 c.args.operators.now c.args.parts.now c.in-Some.starts.items c.args.end (cut c.requires.0 c.requires.1)

pub returns-then-not-are_alike-clause-none : goal.returns-then-not-are_alike-clause-none
returns-then-not-are_alike-clause-none c = λ context trees own some.
    let cut = rw c.in-Some.is at c.cuts.ensures.some in
    let starts = c.in-Some.starts.items in
    let first = c.slot_at.ensures in
    let second = c.slot_at-2.ensures in
    let alike = none_found context c.args.operators.now c.args.parts.now starts c.args.end c.slot_at.result c.slot_at-2.result (cut context trees)
    (ap (λ ks. slot_at c.args.operators.now c.args.parts.now ks 0) (sym c.deref.ensures.0) ∙ sym first)
    (ap (λ ks. slot_at c.args.operators.now c.args.parts.now ks 1) (sym c.deref-2.ensures.0) ∙ sym second) own some in
    let found = c.are_alike.ensures.only
    (subst (λ ks. AreAllAlike c.args.operators.now c.args.parts.now ks c.args.end (c.slot_at.result ∷ c.slot_at-2.result ∷ []))
    (sym c.deref-3.ensures.0) alike) in
    absurd (false≢true (sym c.if-not-are_alike.true ∙ found))
