use Rattle.std.proofs.Common.{arith, inr, refl}
use Rattle.peephole_script.proofs.Digits.{decode_of-none}
use Rattle.peephole_script.proofs.hexadecimal.decode.Goals.{then-text-ne0-via-then-text-ne0, then-text-ne0-via-else-text-ne0+then-not-is_digits}
use Rattle.peephole_script.proofs.hexadecimal.decode.Goals as goal

pub returns-then-text-ne0 : goal.returns-then-text-ne0
returns-then-text-ne0 c =
    elim c.then-text-ne0.branch [
      | then-text-ne0-via-then-text-ne0 w ↦ inr (refl, decode_of-none c.args.text.now (λ even all. absurd (omega (arith, even, w.if-text-ne0.true))))
      | then-text-ne0-via-else-text-ne0+then-not-is_digits w ↦ inr (refl, decode_of-none c.args.text.now (λ even all. cc (w.is_digits.ensures.1 all)))
    ]
