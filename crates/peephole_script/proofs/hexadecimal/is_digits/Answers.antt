use Rattle.std.proofs.Common.{◌≡◌, ℕ, List, Bool, length, take, arith, sym, ◌∙◌, ap, ◌≤◌}
use Rattle.std.specs.Prelude.{◌↔◌, IsTrue}
use Rattle.std.specs.List.{list_all, AllPass}
use Rattle.std.proofs.lemmas.List.{take_all}
use Rattle.std.proofs.lemmas.List.Sums.{AllPass-from_list_all, list_all-from_AllPass}
use Rattle.hex.specs.Hex.{is_hex_digit}
use Rattle.peephole_script.proofs.hexadecimal.is_digits.Goals as goal

decides : (text : List ℕ) (i : ℕ) (digits : Bool) → length text ≤ i → digits ≡ list_all is_hex_digit (take i text) → IsTrue digits ↔ AllPass is_hex_digit text
decides text i digits h k =
    let e : digits ≡ list_all is_hex_digit text = k ∙ ap (list_all is_hex_digit) (take_all i text h) in (
      λ yes. AllPass-from_list_all is_hex_digit text (sym e ∙ yes),
      λ all. e ∙ list_all-from_AllPass is_hex_digit text all,
    )

pub returns : goal.returns
returns c = decides c.args.text.now c.loop-c.c-index c.loop-c.digits (omega arith) c.loop-c.invariant
