-- What the other index makes, or that there is none.
use Rattle.std.proofs.Common.{ℕ, ap, ◌∙◌}
use Rattle.body_changes.specs.Goals.{indexed}
use Rattle.body_changes.specs.Proposals.{context_at, named_in, operators_of}
use Rattle.body_changes.proofs.AccessLemmas.{new_access, no_access, no_other_access, only_access}
use Rattle.body_changes.proofs.kinds.accesses.access_instead.Goals as goal

pub returns-in_default-index_of-clause-none : goal.returns-in_default-index_of-clause-none
returns-in_default-index_of-clause-none c =
    let place = c.args.place.now in
    no_access (context_at place) c.args.kind (operators_of place) place.at place.unit c.in-Some.own (rw c.in-Some.is at c.instr_at.ensures.some)
    (rw c.in_default-index_of.is at c.index_of.ensures.none) (named_in (context_at place) c.args.kind c.args.words.now)

pub returns-in_default-other_index-clause-none : goal.returns-in_default-other_index-clause-none
returns-in_default-other_index-clause-none c = λ code made new.
    let place = c.args.place.now in
    let index = rw c.in-Some-index_of.is at c.index_of.ensures.some in
    no_other_access (context_at place) c.args.kind (operators_of place) place.at place.unit c.in-Some.own (rw c.in-Some.is at c.instr_at.ensures.some)
    c.requires.is c.in-Some-index_of.index index.0 (named_in (context_at place) c.args.kind c.args.words.now) code made
    (rw c.in_default-other_index.is at c.other_index.ensures.none) new

pub returns-clause-new : goal.returns-clause-new
returns-clause-new c =
    let place = c.args.place.now in
    let index = rw c.in-Some-index_of.is at c.index_of.ensures.some in
    new_access (context_at place) c.args.kind (operators_of place) place.at place.unit c.in-Some.own (rw c.in-Some.is at c.instr_at.ensures.some)
    c.requires.is c.in-Some-index_of.index index.0 index.1 c.in-Some-other_index.other (rw c.in-Some-other_index.is at c.other_index.ensures.some).1
    c.instr.result (c.instr.ensures.is ∙ ap (λ (row : ℕ). indexed row c.in-Some-other_index.other) c.row.ensures.row)

pub returns-clause-only : goal.returns-clause-only
returns-clause-only c =
    let place = c.args.place.now in
    let index = rw c.in-Some-index_of.is at c.index_of.ensures.some in
    let other = rw c.in-Some-other_index.is at c.other_index.ensures.some in
    λ code made others m. only_access (context_at place) c.args.kind (operators_of place) place.at place.unit c.in-Some.own
    (rw c.in-Some.is at c.instr_at.ensures.some) c.requires.is c.in-Some-index_of.index index.0
    (named_in (context_at place) c.args.kind c.args.words.now) others m c.instr.result
    (c.instr.ensures.is ∙ (ap (λ (row : ℕ). indexed row c.in-Some-other_index.other) c.row.ensures.row ∙ ap (indexed c.in-Some.own.row) other.0))
    code made
