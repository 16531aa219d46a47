-- Of each width.
use Rattle.std.proofs.Common.{List, sym, ap, subst, ◌∙◌}
use Rattle.wasm_execution.specs.declared.integer.IntegerType.{IntegerType}
use Rattle.body_rewrites.specs.Asking.{NoneServes}
use Rattle.body_rewrites.specs.Listing.{widths_told}
use Rattle.body_rewrites.specs.Rewrites.{asked_widths}
use Rattle.body_rewrites.proofs.CandidateLemmas.{no_operand_alone}
use Rattle.body_rewrites.proofs.layout.may_serve.Goals as goal

pub returns-else-one : goal.returns-else-one
returns-else-one c = λ off. (
  no_operand_alone c.args.form c.in_default.not-Alone,
  subst (λ (ws : List IntegerType). NoneServes c.args.used.now c.args.row.now ws)
      (sym (ap asked_widths (sym c.widths.ensures) ∙ (c.widths_of-width.ensures ∙ ap (widths_told c.widths_of-width.result.0) c.in-Some.is)))
      (c.may_apply-one.ensures c.if-one.false, (c.may_apply.ensures off, tt)),
)

pub returns-in-None : goal.returns-in-None
returns-in-None c = λ off. (
  no_operand_alone c.args.form c.in_default.not-Alone,
  subst (λ (ws : List IntegerType). NoneServes c.args.used.now c.args.row.now ws)
      (sym (ap asked_widths (sym c.widths.ensures) ∙ (c.widths_of-width.ensures ∙ ap (widths_told c.widths_of-width.result.0) c.in-None.is)))
      (c.may_apply-one.ensures off, tt),
)
