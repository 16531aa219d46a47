use Rattle.std.proofs.Common.{◌∙◌}
use Rattle.peephole_script.proofs.Lines.{number_of-parsed}
use Rattle.peephole_script.proofs.text.number_of.Goals as goal

pub returns-then-is_digits : goal.returns-then-is_digits
returns-then-is_digits c = c.ok.ensures.value ∙ number_of-parsed c.args.word.now _ c.parse.ensures.value.0 (cc)
