-- A module changed by options, or why it isn't.
use Rattle.std.proofs.Common.{rules}
use Rattle.teddertempo_c.specs.ChangeOptions.{AreBad}
use Rattle.teddertempo_c.specs.ChangeReports.{TellsChanges}
use Rattle.teddertempo_c.specs.declared.report.Made.{Made}
use Rattle.teddertempo_c.proofs.ChangeReportsLemmas.{made_so, none_so}
use Rattle.teddertempo_c.proofs.ReportedLemmas.{good_call}
use Rattle.teddertempo_c.proofs.changing.attempt.Goals as goal

pub returns-in-Ok-changed_by-clause-made : goal.returns-in-Ok-changed_by-clause-made
returns-in-Ok-changed_by-clause-made c =
    let good = good_call (AreBad c.args.options.now) c.args.size c.args.buffer.now c.if-size-buffer.false c.if-are_bad.ensures in
    let m : Made = record { bytes = c.in-Ok-changed_by.module.bytes; report = c.report_of_changes.result } in
    let tells : TellsChanges c.in-Ok-changed_by.module.made.items c.report_of_changes.result = search rules in
    made_so c.args.options.now c.args.size c.args.buffer.now good c.in-Ok-changed_by.module.made.items m c.in-Ok-changed_by.ensures.changed
    c.report_of_changes.ensures.outcome tells c.report_of_changes.ensures.reserved

pub returns-clause-refused : goal.returns-clause-refused
returns-clause-refused c =
    let good = good_call (AreBad c.args.options.now) c.args.size c.args.buffer.now c.if-size-buffer.false c.if-are_bad.ensures in
    none_so c.args.options.now c.args.size c.args.buffer.now good c.refusal_by_change.result c.in-Err-changed_by.refusal c.refusal_by_change.ensures
    c.in-Err-changed_by.ensures.refused
