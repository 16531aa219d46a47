-- A module changed at operators that are named, or why it isn't.
use Rattle.std.proofs.Common.{rules}
use Rattle.teddertempo_c.specs.ChangeReports.{TellsChanges}
use Rattle.teddertempo_c.specs.Places.{IsBad}
use Rattle.teddertempo_c.specs.declared.report.Made.{Made}
use Rattle.teddertempo_c.proofs.PlacesLemmas.{made_so, none_so}
use Rattle.teddertempo_c.proofs.ReportedLemmas.{good_call}
use Rattle.teddertempo_c.proofs.placing.attempt.Goals as goal

pub returns-in-Ok-clause-made : goal.returns-in-Ok-clause-made
returns-in-Ok-clause-made c =
    let good = good_call (IsBad c.args.place.now) c.args.size c.args.buffer.now c.if-size-buffer.false c.if-is_bad.ensures in
    let m : Made = record { bytes = c.in-Ok.module.bytes; report = c.report_of_changes.result } in
    let tells : TellsChanges c.in-Ok.module.made.items c.report_of_changes.result = search rules in
    made_so c.args.place.now c.args.size c.args.buffer.now good c.at_of.result c.most_of-most.result c.at_of.ensures c.most_of-most.ensures
    c.in-Ok.module.made.items m c.in-Ok.ensures.changed c.in-Ok.ensures.valid c.report_of_changes.ensures.outcome tells c.report_of_changes.ensures.reserved

pub returns-in-Err-clause-refused : goal.returns-in-Err-clause-refused
returns-in-Err-clause-refused c =
    let good = good_call (IsBad c.args.place.now) c.args.size c.args.buffer.now c.if-size-buffer.false c.if-is_bad.ensures in
    none_so c.args.place.now c.args.size c.args.buffer.now good c.at_of.result c.most_of-most.result c.at_of.ensures c.most_of-most.ensures
    c.refusal_by_change.result c.in-Err.refusal c.refusal_by_change.ensures c.in-Err.ensures.fails
