use Rattle.std.proofs.Common.{ap, sym, Ok, Err}
use Rattle.std.specs.Option.{ok_or}
use Rattle.peephole_payloads.specs.declared.term_error.TermError.TheVariants.{BadInteger}
use Rattle.peephole_payloads.specs.laws.NumberLemmas.{unsigned_same}
use Rattle.peephole_payloads.proofs.number.read_u32.Goals as goal

pub returns-in-Ok : goal.returns-in-Ok
returns-in-Ok c = sym (ap (λ o. ok_or o BadInteger) (unsigned_same {E = Unit {0}} 32 c.args.text.now (Ok c.in-Ok.number) c.in-Ok.ensures.value.0))

pub returns-in-Err : goal.returns-in-Err
returns-in-Err c = sym (ap (λ o. ok_or o BadInteger) (unsigned_same 32 c.args.text.now (Err c.in-Err.field-0) c.in-Err.ensures.value.0))
