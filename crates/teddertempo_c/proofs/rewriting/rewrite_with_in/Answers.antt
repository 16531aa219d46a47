-- A module rewritten by options, and the report.
use Rattle.teddertempo_c.specs.Options.{AreBad}
use Rattle.teddertempo_c.specs.Reports.{IsOutcomeFor, IsRewrittenSo}
use Rattle.teddertempo_c.proofs.ReportedLemmas.{reported}
use Rattle.teddertempo_c.proofs.rewriting.rewrite_with_in.Goals as goal

pub returns : goal.returns
returns c =
    let options = c.args.options.now in let size = c.args.size in let old = c.args.buffer.now in
    reported (IsRewrittenSo options size old) (IsOutcomeFor options size old) (AreBad options) size old c.attempt-made.result c.report_in.result
    c.report_in.new.buffer c.report_in.new.report c.attempt-made.ensures.made c.attempt-made.ensures.refused c.report_in.ensures
