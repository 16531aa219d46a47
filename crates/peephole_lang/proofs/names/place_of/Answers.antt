use Rattle.std.proofs.Common.{sym, ◌∙◌, rules}
use Rattle.std.proofs.lemmas.Fn.{always_returns_same}
use Rattle.peephole_lang.specs.Fronts.{front_order}
use Rattle.peephole_nodes.specs.Fronts.{front_at}
use Rattle.peephole_lang.proofs.SearchLemmas.{searched_none, searched_some}
use Rattle.peephole_lang.proofs.names.place_of.Goals as goal

pub returns-in_err-at : goal.returns-in_err-at
returns-in_err-at c =
    let text = c.args.text.now in
    let by_front = c.binary_search_by.ensures.position (λ place. front_order (front_at place) text)
    (always_returns_same _ _ _ (λ a r f called. search rules)) in
    c.from_residual.ensures ∙ searched_none text _ by_front (sym c.ok.ensures.value ∙ c.in_err-at.was)

pub returns : goal.returns
returns c =
    let text = c.args.text.now in
    let facts = c.binary_search_by.ensures in
    let by_front = facts.position (λ place. front_order (front_at place) text) (always_returns_same _ _ _ (λ a r f called. search rules)) in
    searched_some text _ facts.bound by_front c.in_ok-at.at _ (sym c.ok.ensures.value ∙ c.in_ok-at.was)
