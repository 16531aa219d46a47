-- The rows and the report, or why there are none.
use Rattle.std.proofs.Common.{◌≡◌, false, true, ℕ, List, refl, sym, ap, ◌∙◌, subst}
use Rattle.std.specs.Prelude.{IsTrue}
use Rattle.teddertempo_c.specs.ChangeOptions.{AreBad}
use Rattle.teddertempo_c.specs.Options.{are_zero}
use Rattle.teddertempo_c.specs.Outcome.{offset_by, outcome_by}
use Rattle.teddertempo_c.specs.Reported.{report_of}
use Rattle.teddertempo_c.specs.Sites.{HoldsRows, IsListed, IsOutcome}
use Rattle.teddertempo_c.specs.declared.outcome.Outcome.TheVariants.{Done}
use Rattle.teddertempo_c.specs.declared.report.Report.{Report}
use Rattle.teddertempo_c.specs.declared.sites.SiteRow.{SiteRow}
use Rattle.teddertempo_c.proofs.ReportedLemmas.{none_bad, none_for, tells_done, tells_none}
use Rattle.teddertempo_c.proofs.SitesLemmas.{by_why}
use Rattle.teddertempo_c.proofs.sites.list_sites.Goals as goal

pub returns-then-are_bad : goal.returns-then-are_bad
returns-then-are_bad c =
    let options = c.args.options.now in let bytes = c.args.bytes.now in let room = c.args.room.now in
    tells_none (IsListed options bytes room 0 room c.report_on.result) ((0 ≡ 0) × (room ≡ room)) (IsOutcome options bytes) (AreBad options)
    c.report_on.result (refl, refl) c.without_place.result
    (none_bad (IsOutcome options bytes) (AreBad options) c.without_place.result c.without_place.ensures (c.if-are_bad.ensures.0 refl)) c.report_on.ensures

pub returns-in-Ok : goal.returns-in-Ok
returns-in-Ok c =
    let options = c.args.options.now in let bytes = c.args.bytes.now in let old = c.args.room.now in let rows = c.in-Ok.rows.items in
    let count = c.hold_rows-count.result in let new = c.hold_rows-count.new.room in let report = c.report_of.result in
    let good : ¬ (AreBad options) = λ bad. let e : false ≡ true = c.if-are_bad.ensures.1 bad in absurd cc in
    let holds = subst (λ (those : List SiteRow). HoldsRows those old count new) c.deref.ensures.value c.hold_rows-count.ensures in
    tells_done (IsListed options bytes old count new report) ((count ≡ 0) × (new ≡ old)) (IsOutcome options bytes) (AreBad options) report (record {
      rows = rows;
      listed = c.in-Ok.ensures.listed;
      holds = holds;
      report_is = c.report_of.ensures ∙ ap (λ (n : ℕ). report_of Done 0 0 n 0) holds.size;
    }) good (ap (λ (r : Report). r.outcome) c.report_of.ensures) (subst (λ (r : Report). IsTrue (are_zero r.reserved)) (sym c.report_of.ensures) refl)

pub returns-in-Err : goal.returns-in-Err
returns-in-Err c =
    let options = c.args.options.now in let bytes = c.args.bytes.now in let room = c.args.room.now in let reason = c.in-Err.reason in
    let good : ¬ (AreBad options) = λ bad. let e : false ≡ true = c.if-are_bad.ensures.1 bad in absurd cc in
    tells_none (IsListed options bytes room 0 room c.report_on-in-Err.result) ((0 ≡ 0) × (room ≡ room)) (IsOutcome options bytes) (AreBad options)
    c.report_on-in-Err.result (refl, refl) c.refusal_by.result
    (none_for (IsOutcome options bytes) (AreBad options) (λ n h. h) (λ n h. h) c.refusal_by.result
    (record { outcome = outcome_by reason; offset = offset_by reason }) c.refusal_by.ensures good (by_why options bytes reason c.in-Err.ensures.none))
    c.report_on-in-Err.ensures
