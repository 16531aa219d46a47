-- By the index, and the branch behind it.
use Rattle.std.proofs.Common.{sym, ◌∙◌}
use Rattle.std.proofs.lemmas.Bool.{false≢true}
use Rattle.body_rewrites.proofs.IndexFindLemmas.{index_read, is_index, no_index_here}
use Rattle.body_rewrites.proofs.own.bound_index.find.Goals as goal

pub returns-in_default : goal.returns-in_default
returns-in_default c = λ context trees.
    no_index_here context c.args.operators.now c.args.at (λ start count h. c.in_default.ensures.none count h.behind)

pub returns-then-is_bare_at : goal.returns-then-is_bare_at
returns-then-is_bare_at c = λ context trees.
    no_index_here context c.args.operators.now c.args.at (λ start count h. h.unbounded (c.is_bare_at.ensures.0 c.if-is_bare_at.true))

pub returns-in_default-settled_before : goal.returns-in_default-settled_before
returns-in_default-settled_before c = λ context trees.
    no_index_here context c.args.operators.now c.args.at (λ start count h.
    c.in_default-settled_before.ensures.none context c.args.operators.now trees start (index_read context c.args.operators.now c.args.at start count h))

pub returns : goal.returns
returns c = λ context trees.
    is_index context c.args.operators.now c.args.at c.in-Some-settled_before.start c.in-Some.count c.in-Some.ensures.some
    (λ selects. false≢true (sym c.if-is_bare_at.false ∙ c.is_bare_at.ensures.1 selects))
    (c.in-Some-settled_before.ensures.some context c.args.operators.now trees)
