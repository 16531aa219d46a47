use Rattle.std.proofs.Common.{◌∙◌, ap, sym}
use Rattle.peephole_payloads.specs.Parts.{remaining_parts}
use Rattle.peephole_payloads.specs.PayloadText.{with_no_more}
use Rattle.peephole_payloads.specs.laws.PartsLemmas.{some_left}
use Rattle.peephole_payloads.proofs.payload_text.Parts.end.Goals as goal

pub returns-in-Some : goal.returns-in-Some
returns-in-Some c = some_left c.in-Some.field-0.now ∙ sym (ap (λ l. with_no_more {A = Unit {0}} tt (remaining_parts l)) c.in-Some.is)
