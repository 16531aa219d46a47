use Rattle.std.proofs.Common.{ap, ◌∙◌}
use Rattle.std.specs.Prelude.{Some}
use Rattle.peephole_nodes.specs.contracts.payload.PayloadOrd.TheImpl.Laws.{matches_partial_cmp-law as payload_agrees}
use Rattle.peephole_nodes.proofs.OrderLemmas.{payloads_in_order}
use Rattle.peephole_nodes.proofs.laws.payloads_are_ordered.Goals as goal

pub returns : goal.returns
returns c = record { total = payloads_in_order; partial = λ x y. payload_agrees x y ∙ ap (λ o. Some o) (payloads_in_order x y) }
