use Rattle.std.proofs.Common.{sym, ◌∙◌}
use Rattle.wasm_code.proofs.TableLemmas.{not_led, led, led_nowhere}
use Rattle.wasm_code.proofs.table.row_by_opcode.Goals as goal

pub returns-in_err-number-clause-gives : goal.returns-in_err-number-clause-gives
returns-in_err-number-clause-gives c = c.from_residual.ensures ∙ sym (not_led c.args.op (sym c.number_of.ensures ∙ c.in_err-number.was))

pub returns-in_err-row-clause-gives : goal.returns-in_err-row-clause-gives
returns-in_err-row-clause-gives c = absurd (led_nowhere c.args.op c.in_ok-number.number (sym c.number_of.ensures ∙ c.in_ok-number.was)
    (sym c.find_row.ensures ∙ c.in_err-row.was))

pub returns-clause-gives : goal.returns-clause-gives
returns-clause-gives c = sym (led c.args.op c.in_ok-number.number c.in_ok-row.row (sym c.number_of.ensures ∙ c.in_ok-number.was)
    (sym c.find_row.ensures ∙ c.in_ok-row.was))
