use Rattle.std.proofs.Common.{◌∙◌, ap}
use Rattle.peephole_payloads.specs.Parts.{remaining_parts}
use Rattle.peephole_payloads.proofs.PayloadLemmas.{cut_first, no_cut}
use Rattle.peephole_payloads.proofs.payload_text.Parts.part.Goals as goal

pub returns-in-Some : goal.returns-in-Some
returns-in-Some c = ap remaining_parts c.in_ok-text.was ∙ cut_first c.in_ok-text.text.now (c.in-Some.part, c.in-Some.more) c.in-Some.ensures.cases

pub returns-in-None : goal.returns-in-None
returns-in-None c = ap remaining_parts c.in_ok-text.was ∙ no_cut c.in_ok-text.text.now c.in-None.ensures.cases
