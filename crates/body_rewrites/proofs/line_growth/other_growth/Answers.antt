-- By what becomes of the number.
use Rattle.std.proofs.Common.{sym, ap, ◌∙◌}
use Rattle.std.proofs.lemmas.Bool.{false≢true}
use Rattle.body_rewrites.specs.Places.{context_of}
use Rattle.rewrite_rules.specs.Table.{parts_for}
use Rattle.body_rewrites.specs.Rewrites.{growth_by_sizes}
use Rattle.body_rewrites.specs.Writing.{parts_count}
use Rattle.body_rewrites.proofs.GrowingLemmas.{place_grows, place_keeps}
use Rattle.body_rewrites.proofs.LineMakingLemmas.{differs_there}
use Rattle.body_rewrites.proofs.line_growth.other_growth.Goals as goal

pub returns-in-Shrinks-clause-some : goal.returns-in-Shrinks-clause-some
returns-in-Shrinks-clause-some c =
    let operators = c.args.body.now.operators.now in
    let line = c.args.line.now in
    let place = c.in-Some.place in
    let found = rw c.in-Some.is at c.place_of.ensures.some in
    place_grows (context_of c.args.body.now) operators line c.args.at place found _ (λ e. cc)
    (sym c.in-Shrinks.is ∙ (c.side_growth.ensures
    ∙ ap (λ side. growth_by_sizes c.saturating_sub-old.result (parts_count operators place.operands (parts_for line.width side))) c.right.ensures
    ∙ ap (λ old. growth_by_sizes old (parts_count operators place.operands (parts_for line.width line.row.right))) c.saturating_sub-old.ensures))

pub returns-in-Grows-clause-some : goal.returns-in-Grows-clause-some
returns-in-Grows-clause-some c =
    let operators = c.args.body.now.operators.now in
    let line = c.args.line.now in
    let place = c.in-Some.place in
    let found = rw c.in-Some.is at c.place_of.ensures.some in
    place_grows (context_of c.args.body.now) operators line c.args.at place found _ (λ e. cc)
    (sym c.in-Grows.is ∙ (c.side_growth.ensures
    ∙ ap (λ side. growth_by_sizes c.saturating_sub-old.result (parts_count operators place.operands (parts_for line.width side))) c.right.ensures
    ∙ ap (λ old. growth_by_sizes old (parts_count operators place.operands (parts_for line.width line.row.right))) c.saturating_sub-old.ensures))

pub returns-else-not-changes-clause-some : goal.returns-else-not-changes-clause-some
returns-else-not-changes-clause-some c =
    let operators = c.args.body.now.operators.now in
    let line = c.args.line.now in
    let place = c.in-Some.place in
    let found = rw c.in-Some.is at c.place_of.ensures.some in
    place_keeps (context_of c.args.body.now) operators line c.args.at place found _
    (c.changes.ensures.0 c.if-not-changes.false)
    (sym c.in-Keeps.is ∙ (c.side_growth.ensures
    ∙ ap (λ side. growth_by_sizes c.saturating_sub-old.result (parts_count operators place.operands (parts_for line.width side))) c.right.ensures
    ∙ ap (λ old. growth_by_sizes old (parts_count operators place.operands (parts_for line.width line.row.right))) c.saturating_sub-old.ensures))

pub returns-then-not-changes-clause-none : goal.returns-then-not-changes-clause-none
returns-then-not-changes-clause-none c = λ change is.
    let found = rw c.in-Some.is at c.place_of.ensures.some in
    let differs = differs_there (context_of c.args.body.now) c.args.body.now.operators.now c.args.line.now c.args.at c.in-Some.place change found is in
    absurd (false≢true (sym c.if-not-changes.true ∙ c.changes.ensures.1 differs))
