use Rattle.std.proofs.Common.{ℕ, List, Bor}
use Rattle.std.specs.Global.{Vec}
use Rattle.wasm_lists.proofs.ListLemmas.{refused}
use Rattle.wasm_lists.proofs.list.list_of.Goals as goal

pub returns-in-Some : goal.returns-in-Some
returns-in-Some g c =
    refused {X = Vec g.row.T-Value.Denot × Bor (List ℕ)} g.T.Item.at c.args.bytes.now c.in_ok-count.rest.now c.in_ok-count.count c.each_of-items.result.2
    c.in-Some.refusal c.each_of-items.result.0.items c.each_of-items.result.1.now (λ x. (x.0.items, x.1.now)) c.in_ok-count.ensures
    c.each_of-items.ensures.runs c.in-Some.is
