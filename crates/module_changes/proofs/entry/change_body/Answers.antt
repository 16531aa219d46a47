-- No change, and where the code ends.
use Rattle.body_changes.specs.Replacing.{source_context}
use Rattle.module_changes.proofs.EntryLemmas.{behind_changed}
use Rattle.module_changes.proofs.entry.change_body.Goals as goal

pub returns-in_default-clause-none : goal.returns-in_default-clause-none
returns-in_default-clause-none c =
    rw (c.most.ensures, c.changes-changes.ensures, c.in_ok-copied.ensures.code, c.in_default.is) at c.in_ok-changed.ensures.none

pub replace_code-requires-clause-inside : goal.replace_code-requires-clause-inside
replace_code-requires-clause-inside c =
    behind_changed (source_context c.args.source.now) c.args.source.now.input.now c.args.source.now.operators.now
    (record { most = c.most.result; copied = c.in_ok-copied.copied.code.now }) c.changes-changes.result.now c.args.trial.now.words.now
    c.in-Some.changed.change c.in-Some.changed.at c.in-Some.changed.start c.in-Some.changed.code.items c.requires.body
    (rw c.in-Some.is at c.in_ok-changed.ensures.chosen)
