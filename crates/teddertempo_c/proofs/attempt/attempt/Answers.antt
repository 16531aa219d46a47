-- A module rewritten by options, or why it isn't.
use Rattle.std.proofs.Common.{rules}
use Rattle.teddertempo_c.specs.Options.{AreBad}
use Rattle.teddertempo_c.specs.Reports.{TellsRewrites}
use Rattle.teddertempo_c.specs.declared.report.Made.{Made}
use Rattle.teddertempo_c.proofs.RefusalLemmas.{made_so, none_so}
use Rattle.teddertempo_c.proofs.ReportedLemmas.{good_call}
use Rattle.teddertempo_c.proofs.attempt.attempt.Goals as goal

pub returns-in-Ok-rewritten_by-clause-made : goal.returns-in-Ok-rewritten_by-clause-made
returns-in-Ok-rewritten_by-clause-made c =
    let good = good_call (AreBad c.args.options.now) c.args.size c.args.buffer.now c.if-size-buffer.false c.if-are_bad.ensures in
    let m : Made = record { bytes = c.in-Ok-rewritten_by.module.bytes; report = c.report_of_rewrites.result } in
    let tells : TellsRewrites c.in-Ok-rewritten_by.module.made.items c.report_of_rewrites.result = search rules in
    made_so c.args.options.now c.args.size c.args.buffer.now good c.in-Ok-rewritten_by.module.made.items m c.in-Ok-rewritten_by.ensures.rewritten
    c.in-Ok-rewritten_by.ensures.fits c.report_of_rewrites.ensures.outcome tells c.report_of_rewrites.ensures.reserved

pub returns-clause-refused : goal.returns-clause-refused
returns-clause-refused c =
    let good = good_call (AreBad c.args.options.now) c.args.size c.args.buffer.now c.if-size-buffer.false c.if-are_bad.ensures in
    none_so c.args.options.now c.args.size c.args.buffer.now good c.refusal_by.result c.in-Err-rewritten_by.reason c.refusal_by.ensures
    c.in-Err-rewritten_by.ensures.refused
