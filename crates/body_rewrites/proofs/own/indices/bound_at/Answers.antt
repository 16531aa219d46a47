-- By what stands before the select, and behind it.
use Rattle.std.proofs.Common.{sym, ◌∙◌, arith}
use Rattle.std.proofs.lemmas.Bool.{false≢true}
use Rattle.body_rewrites.proofs.IndexFindLemmas.{is_bound, no_comparison, no_number}
use Rattle.body_rewrites.proofs.own.indices.bound_at.Goals as goal

pub returns-in_default-clause-none : goal.returns-in_default-clause-none
returns-in_default-clause-none c = λ place count b. c.in_default.ensures.none count b.behind

pub returns-then-not-is_bare_at-clause-none : goal.returns-then-not-is_bare_at-clause-none
returns-then-not-is_bare_at-clause-none c = λ place count b. false≢true (sym c.if-not-is_bare_at.true ∙ c.is_bare_at.ensures.1 b.selects)

pub returns-then-not-is_bare_at-2-clause-none : goal.returns-then-not-is_bare_at-2-clause-none
returns-then-not-is_bare_at-2-clause-none c = λ place count.
    no_comparison c.args.operators.now c.args.at place count (λ h. false≢true (sym c.if-not-is_bare_at-2.true ∙ c.is_bare_at-2.ensures.1 h))

pub returns-then-not-has_number-clause-none : goal.returns-then-not-has_number-clause-none
returns-then-not-has_number-clause-none c = λ place count.
    no_number c.args.operators.now c.args.at place count c.in-Some.count c.in-Some.ensures.some
    (λ h. false≢true (sym c.if-not-has_number.true ∙ c.has_number.ensures.1 h))

pub returns-clause-some : goal.returns-clause-some
returns-clause-some c =
    is_bound c.args.operators.now c.args.at c.in-Some.count (omega (arith, c.if-at-lt2.false)) c.in-Some.ensures.some
    (c.is_bare_at.ensures.0 c.if-not-is_bare_at.false) (c.is_bare_at-2.ensures.0 c.if-not-is_bare_at-2.false)
    (c.has_number.ensures.0 c.if-not-has_number.false)
