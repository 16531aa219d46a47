-- What is found is a place where the row's line applies, and none is forgotten.
use Rattle.std.proofs.Common.{length, ap, sym, subst, ◌∙◌}
use Rattle.std.specs.Prelude.{reverse}
use Rattle.std.proofs.lemmas.List.{reverse-reverse}
use Rattle.rewrite_rules.specs.Table.{parts_for}
use Rattle.std.proofs.lemmas.Bool.{false≢true}
use Rattle.body_rewrites.specs.Matching.{HasMatch, operand_code}
use Rattle.body_rewrites.specs.Places.{context_of}
use Rattle.body_rewrites.proofs.AllAlikeLemmas.{cut_length}
use Rattle.body_rewrites.proofs.PlaceLemmas as place
use Rattle.body_rewrites.proofs.PlaceLemmas.{told_is}
use Rattle.body_rewrites.proofs.places.place_of.Goals as goal

pub returns-in_default-clause-none : goal.returns-in_default-clause-none
returns-in_default-clause-none c = λ (start, x, numbers, is).
    let context = context_of c.args.body.now in
    let trees = c.requires.lists.trees in
    let line = c.requires.line in
    let parts = c.new-parts.result in
    let parts_are = ap reverse c.new-parts.ensures ∙ reverse-reverse (parts_for c.args.line.now.width c.left.result.now)
    ∙ ap (parts_for c.args.line.now.width) c.left.ensures in
    let own = c.lefts_are_instances.ensures.own line.number c.args.line.now.row line.row_is line.place c.args.line.now.width line.width_is parts parts_are in
    let none = rw c.in_default.is at c.find.ensures.none in
    none context trees own
    (place.match_of c.table_is_right.ensures c.holes_are_told.ensures c.args.line.now line parts parts_are context c.args.body.now.operators.now
    c.sides_are_parts.ensures c.parts_are_the_code.ensures c.args.end start x numbers is)

pub applies-requires : goal.applies-requires
applies-requires c = place.formed c.table_is_right.ensures c.args.line.now c.requires.line

pub returns-then-not-applies-clause-none : goal.returns-then-not-applies-clause-none
returns-then-not-applies-clause-none c = λ (start, x, numbers, is).
    let context = context_of c.args.body.now in
    let trees = c.requires.lists.trees in
    let line = c.requires.line in
    let operators = c.args.body.now.operators.now in
    let parts = c.new-parts.result in
    let starts = c.as_slice-starts.result.now in
    let parts_are = ap reverse c.new-parts.ensures ∙ reverse-reverse (parts_for c.args.line.now.width c.left.result.now)
    ∙ ap (parts_for c.args.line.now.width) c.left.ensures in
    let some = rw c.in-Some.is at c.find.ensures.some in
    let match = subst (λ l. HasMatch context operators parts l c.args.end c.in-Some.found.numbers) (sym c.as_slice-starts.ensures.value) (some context trees) in
    let known = c.known_of-known.ensures context operators parts starts c.args.end c.operands_of-operands.ensures trees match.0.cut in
    let found = place.are_found c.table_is_right.ensures c.holes_are_told.ensures c.args.line.now line parts parts_are context operators starts c.args.end
    match.0.cut c.known_of-known.result.types c.known_of-known.result.effects known c.is_exact.result c.is_exact.ensures in
    let applies = place.applies_to c.table_is_right.ensures c.holes_are_told.ensures c.args.line.now line parts parts_are context operators
    c.sides_are_parts.ensures c.parts_are_the_code.ensures c.args.end start x numbers is starts match.0.cut c.in-Some.found.numbers match.0 in
    absurd (false≢true (sym c.if-not-applies.true ∙ c.applies.ensures.only context (operand_code operators parts starts c.args.end) found applies))

pub operands_of-operands-requires : goal.operands_of-operands-requires
operands_of-operands-requires c =
    let some = rw c.in-Some.is at c.find.ensures.some in
    let context = context_of c.args.body.now in
    let trees = c.requires.lists.trees in
    ap length c.as_slice-starts.ensures.value
    ∙ cut_length context c.args.body.now.operators.now c.new-parts.result c.in-Some.found.starts.items c.args.end (some context trees).0.cut

pub returns-clause-some : goal.returns-clause-some
returns-clause-some c =
    let context = context_of c.args.body.now in
    let trees = c.requires.lists.trees in
    let line = c.requires.line in
    let operators = c.args.body.now.operators.now in
    let parts = c.new-parts.result in
    let starts = c.as_slice-starts.result.now in
    let parts_are = ap reverse c.new-parts.ensures ∙ reverse-reverse (parts_for c.args.line.now.width c.left.result.now)
    ∙ ap (parts_for c.args.line.now.width) c.left.ensures in
    let some = rw c.in-Some.is at c.find.ensures.some in
    let match = subst (λ l. HasMatch context operators parts l c.args.end c.in-Some.found.numbers) (sym c.as_slice-starts.ensures.value) (some context trees) in
    let known = c.known_of-known.ensures context operators parts starts c.args.end c.operands_of-operands.ensures trees match.0.cut in
    let found = place.are_found c.table_is_right.ensures c.holes_are_told.ensures c.args.line.now line parts parts_are context operators starts c.args.end
    match.0.cut c.known_of-known.result.types c.known_of-known.result.effects known c.is_exact.result c.is_exact.ensures in
    let applies = c.applies.ensures.same c.if-not-applies.false context (operand_code operators parts starts c.args.end) found in
    place.is_place c.table_is_right.ensures c.holes_are_told.ensures c.args.line.now line parts parts_are context operators starts c.args.end
    match.0.cut c.lefts_are_instances.ensures c.requires.inside
    (record { start = c.start_of.result; operands = c.operands_of-operands.result; numbers = c.in-Some.found.numbers })
    (told_is operators parts starts c.args.end c.start_of.result c.operands_of-operands.result c.in-Some.found.numbers c.start_of.ensures
    c.operands_of-operands.ensures match.1)
    match.0 applies
