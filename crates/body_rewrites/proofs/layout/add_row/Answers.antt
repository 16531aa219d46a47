-- For its widths.
use Rattle.std.proofs.Common.{[], ◌∷◌, ◌++◌, sym, ap, ◌∙◌}
use Rattle.body_rewrites.specs.Asking.{asked_as}
use Rattle.body_rewrites.specs.Rewrites.{asked_widths}
use Rattle.body_rewrites.proofs.CandidateLemmas.{one_width_laid_out, two_widths_laid_out, row_skipped, on_ok}
use Rattle.body_rewrites.proofs.layout.add_row.Goals as goal

pub returns-then-not-may_serve-clause-added : goal.returns-then-not-may_serve-clause-added
returns-then-not-may_serve-clause-added c = λ lines so.
    row_skipped c.args.exact c.args.used.now c.args.number c.args.row c.form_of-form.result c.form_of-form.ensures
    (c.may_serve.ensures c.if-not-may_serve.true) lines
    c.args.lists.now c.args.alone.now.items so

pub returns-in-Some-clause-added : goal.returns-in-Some-clause-added
returns-in-Some-clause-added c =
    let number = c.args.number in
    let width = c.widths_of-width.result.0 in
    on_ok c.add_line-in-Some.result
    (λ added lines so. two_widths_laid_out c.args.exact c.args.used.now number c.args.row width c.in-Some.width c.widths_of-width.result.1
    (ap asked_widths (sym c.widths.ensures) ∙ c.widths_of-width.ensures) c.in-Some.is c.asked_as.result c.asked_as-in-Some.result
    (c.asked_as.ensures ∙ ap (λ row. asked_as number row width) c.again.ensures) c.asked_as-in-Some.ensures lines c.add_line-in-Some.new.lists
    c.add_line-in-Some.new.alone.items (added (lines ++ c.asked_as.result ∷ []) (c.in_ok-add_line.ensures.added lines so)))
    c.add_line-in-Some.ensures.added

pub returns-in-None-clause-added : goal.returns-in-None-clause-added
returns-in-None-clause-added c = λ lines so.
    let number = c.args.number in
    let width = c.widths_of-width.result.0 in
    one_width_laid_out c.args.exact c.args.used.now number c.args.row width c.widths_of-width.result.1
    (ap asked_widths (sym c.widths.ensures) ∙ c.widths_of-width.ensures) c.in-None.is c.asked_as.result
    (c.asked_as.ensures ∙ ap (λ row. asked_as number row width) c.again.ensures) lines c.add_line.new.lists c.add_line.new.alone.items
    (c.in_ok-add_line.ensures.added lines so)
