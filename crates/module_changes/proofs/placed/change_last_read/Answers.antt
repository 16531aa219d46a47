-- The last operator of the function that was read of which the change makes anything.
use Rattle.std.proofs.Common.{◌≡◌, ◌<◌, ◌+◌, ◌∙◌, ℕ, min, length, sym, ap, subst, arith}
use Rattle.std.proofs.lemmas.Bool.{false≢true}
use Rattle.std.proofs.lemmas.Grind.{common_steps}
use Rattle.body_changes.specs.Chosen.{NoneWithin}
use Rattle.module_changes.specs.Entry.{IsTried}
use Rattle.module_changes.specs.Placed.{choice_at, words_at, MakesIn}
use Rattle.module_changes.specs.declared.entry.Attempt.{Attempt}
use Rattle.module_changes.proofs.PlacedLemmas.{large_here, made_last, never_unchanged, none_here, unread}
use Rattle.module_changes.proofs.placed.change_last_read.Goals as goal

pub returns-in-Err-clause-refused : goal.returns-in-Err-clause-refused
returns-in-Err-clause-refused c =
    unread c.args.at c.args.reading.now.bytes.now c.args.reading.now.info.now c.args.reading.now.layout.now c.requires.reading c.requires.unmarked c.args.n
    c.requires.inside c.requires.function
    (λ l x o f. false≢true (sym c.if-is_memory.false ∙ c.is_memory.ensures.1 (c.in-Err.ensures.only l x o f)))

pub returns-in_default-clause-refused : goal.returns-in_default-clause-refused
returns-in_default-clause-refused c =
    let at = c.args.at in
    let size = c.args.max_size in
    let bytes = c.args.reading.now.bytes.now in
    let info = c.args.reading.now.info.now in
    let layout = c.args.reading.now.layout.now in
    let locals = c.in-Ok.function.locals.items in
    let operators = c.in-Ok.function.operators.items in
    let sized : c.len.result ≡ length operators = grind (arith, common_steps) in
    let end : c.min.result ≡ min at.end (length operators) = c.min.ensures ∙ ap (min at.end) sized in
    none_here at size bytes info layout c.requires.reading c.requires.unmarked c.args.n c.requires.inside c.requires.function locals operators
    c.in-Ok.ensures.only
    (subst (NoneWithin (MakesIn c.args.reading.now c.in-Ok.function at.change) at.first) end (rw c.in_default.is at c.in_ok-operator.ensures.none))

pub returns-in-Made-clause-made : goal.returns-in-Made-clause-made
returns-in-Made-clause-made c =
    let at = c.args.at in
    let size = c.args.max_size in
    let bytes = c.args.reading.now.bytes.now in
    let info = c.args.reading.now.info.now in
    let layout = c.args.reading.now.layout.now in
    let locals = c.in-Ok.function.locals.items in
    let operators = c.in-Ok.function.operators.items in
    let sized : c.len.result ≡ length operators = grind (arith, common_steps) in
    let end : c.min.result ≡ min at.end (length operators) = c.min.ensures ∙ ap (min at.end) sized in
    let found = rw c.in-Some.is at c.in_ok-operator.ensures.some in
    let k = c.in-Some.operator in
    let below : k < min at.end (length operators) = subst (λ (n : ℕ). k < n) end found.1 in
    let tried : IsTried (choice_at at size) bytes info layout (words_at k) c.args.n c.in_ok-made.field-0 = c.in_ok-made.ensures.tried in
    made_last at size bytes info layout c.requires.reading c.requires.unmarked c.args.n c.requires.inside c.requires.function locals operators
    c.in-Ok.ensures.only k found.0 below
    found.2 (subst (NoneWithin (MakesIn c.args.reading.now c.in-Ok.function at.change) (k + 1)) end found.3) c.in-Made.made c.in-Made.bytes.items
    (subst (λ (a : Attempt). IsTried (choice_at at size) bytes info layout (words_at k) c.args.n a) c.in-Made.is tried)

pub unreachable-requires : goal.unreachable-requires
unreachable-requires c =
    let at = c.args.at in
    let size = c.args.max_size in
    let bytes = c.args.reading.now.bytes.now in
    let info = c.args.reading.now.info.now in
    let layout = c.args.reading.now.layout.now in
    let locals = c.in-Ok.function.locals.items in
    let operators = c.in-Ok.function.operators.items in
    let sized : c.len.result ≡ length operators = grind (arith, common_steps) in
    let end : c.min.result ≡ min at.end (length operators) = c.min.ensures ∙ ap (min at.end) sized in
    let found = rw c.in-Some.is at c.in_ok-operator.ensures.some in
    let k = c.in-Some.operator in
    let below : k < min at.end (length operators) = subst (λ (n : ℕ). k < n) end found.1 in
    let tried : IsTried (choice_at at size) bytes info layout (words_at k) c.args.n c.in_ok-made.field-0 = c.in_ok-made.ensures.tried in
    never_unchanged at size bytes info layout c.requires.reading c.requires.unmarked c.args.n c.requires.inside c.requires.function locals operators
    c.in-Ok.ensures.only k found.0
    below found.2 c.in-Ok.function.expression c.in-Ok.ensures.read
    (subst (λ (a : Attempt). IsTried (choice_at at size) bytes info layout (words_at k) c.args.n a) c.in-Unchanged.is tried)

pub returns-clause-refused : goal.returns-clause-refused
returns-clause-refused c =
    let at = c.args.at in
    let size = c.args.max_size in
    let bytes = c.args.reading.now.bytes.now in
    let info = c.args.reading.now.info.now in
    let layout = c.args.reading.now.layout.now in
    let locals = c.in-Ok.function.locals.items in
    let operators = c.in-Ok.function.operators.items in
    let sized : c.len.result ≡ length operators = grind (arith, common_steps) in
    let end : c.min.result ≡ min at.end (length operators) = c.min.ensures ∙ ap (min at.end) sized in
    let found = rw c.in-Some.is at c.in_ok-operator.ensures.some in
    let k = c.in-Some.operator in
    let below : k < min at.end (length operators) = subst (λ (n : ℕ). k < n) end found.1 in
    let tried : IsTried (choice_at at size) bytes info layout (words_at k) c.args.n c.in_ok-made.field-0 = c.in_ok-made.ensures.tried in
    large_here at size bytes info layout c.requires.reading c.requires.unmarked c.args.n c.requires.inside c.requires.function locals operators
    c.in-Ok.ensures.only k found.0 below
    found.2 (subst (NoneWithin (MakesIn c.args.reading.now c.in-Ok.function at.change) (k + 1)) end found.3)
    (subst (λ (a : Attempt). IsTried (choice_at at size) bytes info layout (words_at k) c.args.n a) c.in-TooLarge.is tried)
