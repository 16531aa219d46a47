-- Those of the candidates, and of lines of an operand alone.
use Rattle.std.proofs.Common.{◌+◌, length, ap, sym, subst, refl, arith}
use Rattle.std.specs.Prelude.{slice_get}
use Rattle.std.specs.Option.{option_flatten}
use Rattle.std.proofs.lemmas.List.{length-map}
use Rattle.body_rewrites.specs.Asking.{all_asked, is_candidate, rewrite_of, rewrites_of, AreAsked}
use Rattle.body_rewrites.specs.Counting.{CountsFound}
use Rattle.body_rewrites.specs.Places.{context_of}
use Rattle.body_rewrites.specs.Roots.{IsClassAt}
use Rattle.body_rewrites.proofs.AskingLemmas.{candidates_few, is_asked}
use Rattle.body_rewrites.proofs.CounterLemmas.{counts_all}
use Rattle.body_rewrites.proofs.CountingLemmas.{less_room, room_behind}
use Rattle.body_rewrites.proofs.CountingBounds.{filter_asked}
use Rattle.body_rewrites.proofs.OwnFindLemmas.{tree_told}
use Rattle.body_rewrites.proofs.counts.count_at.Goals as goal

pub count_lines-requires-clause-lines : goal.count_lines-requires-clause-lines
count_lines-requires-clause-lines c =
    subst AreAsked (sym c.candidates-lines.ensures) (filter_asked (is_candidate c.args.counter.now.exact c.here_at-here.result.class) all_asked is_asked)

pub count_lines-requires-clause-room : goal.count_lines-requires-clause-room
count_lines-requires-clause-room c =
    let few = candidates_few c.args.counter.now.exact c.here_at-here.result.class in
    let same = ap length c.candidates-lines.ensures in
    less_room (length c.candidates-lines.result.now) 131072 c.args.counts.now (omega (arith, few, same)) c.requires.room

pub count_alone-requires : goal.count_alone-requires
count_alone-requires c =
    let lines = c.candidates-lines.result.now in
    let at = c.here_at-here.result.at in
    let few = candidates_few c.args.counter.now.exact c.here_at-here.result.class in
    let same = ap length c.candidates-lines.ensures in
    let size = length-map lines (rewrite_of at) in
    room_behind (context_of c.args.body.now) c.args.body.now.operators.now (rewrites_of at lines) 65536 65536 c.args.counts.now
    c.count_lines.new.counts (omega (arith, few, same, size)) c.count_lines.ensures
    (less_room (65536 + 65536) 131072 c.args.counts.now (omega arith) c.requires.room)

pub returns : goal.returns
returns c =
    let context = context_of c.args.body.now in
    let operators = c.args.body.now.operators.now in
    let at = c.args.at in
    let lines = c.candidates-lines.result.now in
    let tree = option_flatten (slice_get c.args.body.now.trees.now at) in
    counts_all c.types_are_told.ensures c.holes_are_told.ensures c.table_is_right.ensures c.sides_are_parts.ensures c.parts_are_the_code.ensures
    c.lefts_are_instances.ensures c.trees_leave.ensures c.exact_rows_are_told.ensures context operators at c.args.counter.now.exact
    c.requires.laid.exact c.here_at-here.result.class
    (subst (λ n. IsClassAt operators n c.here_at-here.result.class) c.here_at-here.ensures.at c.here_at-here.ensures.is.class_is) tree
    (tree_told c.args.body.now.trees.now at tree refl context operators c.requires.lists.trees) lines c.candidates-lines.ensures c.args.counts.now
    c.count_lines.new.counts c.count_alone.new.counts
    (subst (λ n. CountsFound context operators (rewrites_of n lines) c.args.counts.now c.count_lines.new.counts)
    c.here_at-here.ensures.at c.count_lines.ensures) c.count_alone.ensures
