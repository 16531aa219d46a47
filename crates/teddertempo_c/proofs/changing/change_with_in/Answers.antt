-- A module changed by options, and the report.
use Rattle.teddertempo_c.specs.ChangeOptions.{AreBad}
use Rattle.teddertempo_c.specs.ChangeReports.{IsChangedSo, IsOutcomeFor}
use Rattle.teddertempo_c.proofs.ReportedLemmas.{reported}
use Rattle.teddertempo_c.proofs.changing.change_with_in.Goals as goal

pub returns : goal.returns
returns c =
    let asked = c.args.options.now in let size = c.args.size in let old = c.args.buffer.now in
    reported (IsChangedSo asked size old) (IsOutcomeFor asked size old) (AreBad asked) size old c.attempt-made.result c.report_in.result
    c.report_in.new.buffer c.report_in.new.report c.attempt-made.ensures.made c.attempt-made.ensures.refused c.report_in.ensures
