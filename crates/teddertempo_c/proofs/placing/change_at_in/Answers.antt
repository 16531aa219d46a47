-- A module changed at operators that are named, and the report.
use Rattle.teddertempo_c.specs.Places.{IsBad, IsChangedSo, IsOutcomeFor}
use Rattle.teddertempo_c.proofs.ReportedLemmas.{reported}
use Rattle.teddertempo_c.proofs.placing.change_at_in.Goals as goal

pub returns : goal.returns
returns c =
    let asked = c.args.place.now in let size = c.args.size in let old = c.args.buffer.now in
    reported (IsChangedSo asked size old) (IsOutcomeFor asked size old) (IsBad asked) size old c.attempt-made.result c.report_in.result
    c.report_in.new.buffer c.report_in.new.report c.attempt-made.ensures.made c.attempt-made.ensures.refused c.report_in.ensures
