-- From the entry that the first word names on, and then those before it.
use Rattle.std.proofs.Common.{◌≡◌, length, sym, arith}
use Rattle.std.proofs.lemmas.Result.{IfOk-weaker}
use Rattle.std.proofs.lemmas.Grind.{common_steps}
use Rattle.module_changes.specs.Entry.{choice_of, donor_of, AllTried, AreTried}
use Rattle.module_changes.proofs.ChoosingLemmas.{no_entries, tried_before, tried_behind}
use Rattle.module_changes.proofs.choosing.change_by_words.Goals as goal

pub returns-then-count-eq0-clause-tried : goal.returns-then-count-eq0-clause-tried
returns-then-count-eq0-clause-tried c =
    no_entries (donor_of c.args.source.now) c.args.scope.now c.args.reading.now.bytes.now c.args.reading.now.info.now c.args.reading.now.layout.now
    c.args.words.now c.in_ok-copied.copied.items (rw c.changes.ensures at c.in_ok-copied.ensures.copied)
    (grind (arith, common_steps))

pub returns-in-Unchanged-clause-tried : goal.returns-in-Unchanged-clause-tried
returns-in-Unchanged-clause-tried c =
    let donor = donor_of c.args.source.now in
    let scope = c.args.scope.now in
    let bytes = c.args.reading.now.bytes.now in
    let info = c.args.reading.now.info.now in
    let layout = c.args.reading.now.layout.now in
    let words = c.args.words.now in
    let count : c.len-count.result ≡ length layout.entries = grind (arith, common_steps) in
    let copied = c.in_ok-copied.copied.items in
    let choice = choice_of (record { scope = c.args.scope; copied = c.deref.result; words = c.other_words.result }) in
    IfOk-weaker c.change_within-in-Unchanged.result (AreTried choice bytes info layout c.other_words.result.now 0 c.entry_named-from.result)
    (AllTried donor scope bytes info layout words)
    (λ attempt tried. tried_before donor scope bytes info layout words c.deref.result.now
    (rw (c.changes.ensures, sym c.deref.ensures.value) at c.in_ok-copied.ensures.copied) c.entry_named-from.result
    (rw c.first_word.ensures at c.entry_named-from.ensures.named) attempt
    (rw (c.other_words.ensures, count, c.in-Unchanged.is) at c.in_ok-attempt.ensures.tried) (rw c.other_words.ensures at tried))
    c.change_within-in-Unchanged.ensures.tried

pub returns : goal.returns
returns c =
    let count : c.len-count.result ≡ length c.args.reading.now.layout.now.entries = grind (arith, common_steps) in
    record {
      tried = tried_behind (donor_of c.args.source.now) c.args.scope.now c.args.reading.now.bytes.now c.args.reading.now.info.now
          c.args.reading.now.layout.now c.args.words.now c.deref.result.now
          (rw (c.changes.ensures, sym c.deref.ensures.value) at c.in_ok-copied.ensures.copied)
          c.entry_named-from.result (rw c.first_word.ensures at c.entry_named-from.ensures.named) c.in_ok-attempt.attempt c.in_default.not-Unchanged
          (rw (c.other_words.ensures, count) at c.in_ok-attempt.ensures.tried);
      memory = tt;
    }
