use Rattle.std.proofs.Common.{ap, sym, Ok, Err, ◌∙◌, refl}
use Rattle.std.specs.Option.{ok_or}
use Rattle.std.proofs.lemmas.Int.{to_z-of_z}
use mir.Syntax.{w32}
use Rattle.peephole_payloads.specs.declared.term_error.TermError.TheVariants.{BadInteger}
use Rattle.peephole_payloads.specs.laws.NumberLemmas.{signed_same, signed_fits}
use Rattle.peephole_payloads.proofs.number.read_i32.Goals as goal

pub returns-in-Ok : goal.returns-in-Ok
returns-in-Ok c =
    ap (λ z. Ok z) (to_z-of_z w32 c.in-Ok.number (signed_fits w32 c.args.text.now c.in-Ok.number c.in-Ok.ensures.value.0))
    ∙ sym (ap (λ o. ok_or o BadInteger) (signed_same {E = Unit {0}} w32 32 refl c.args.text.now (Ok c.in-Ok.number) c.in-Ok.ensures.value.0))

pub returns-in-Err : goal.returns-in-Err
returns-in-Err c = sym (ap (λ o. ok_or o BadInteger) (signed_same w32 32 refl c.args.text.now (Err c.in-Err.field-0) c.in-Err.ensures.value.0))
