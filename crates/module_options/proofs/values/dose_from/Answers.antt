-- A number, or else a percentage.
use Rattle.std.proofs.Common.{◌∙◌, [], sym}
use Rattle.module_options.proofs.OptionsLemmas.{dose_in_digits, dose_otherwise}
use Rattle.module_options.proofs.values.dose_from.Goals as goal

pub returns-in-Ok : goal.returns-in-Ok
returns-in-Ok c = dose_in_digits c.args.text.now c.in-Ok.count c.in-Ok.ensures.value.0

pub returns : goal.returns
returns c =
    dose_otherwise c.args.text.now [] c.percentage_from.result (sym c.eq.ensures ∙ c.if-eq.false) c.in_default.ensures.value.0 c.percentage_from.ensures
