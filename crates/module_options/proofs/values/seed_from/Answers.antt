-- Hexadecimal digits behind `0x`.
use Rattle.std.proofs.Common.{◌∙◌, ◌++◌, ℕ, List, ap, codes, sym}
use Rattle.module_options.proofs.OptionsLemmas.{seed_in_hexadecimal}
use Rattle.module_options.proofs.values.seed_from.Goals as goal

pub returns-in-Ok-from_str_radix : goal.returns-in-Ok-from_str_radix
returns-in-Ok-from_str_radix c =
    let front = c.in-Some.ensures.cases in
    seed_in_hexadecimal c.args.text.now c.in-Some.digits.now c.in-Ok-from_str_radix.seed
    (front.1.1 ∙ ap (λ (l : List ℕ). codes "0x" ++ l) (sym front.2)) c.in-Ok-from_str_radix.ensures.value
