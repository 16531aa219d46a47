use Rattle.wasm_lists.specs.Known.{nothing_listed, SpellsKnown}
use Rattle.wasm_module.proofs.ListedLemmas.{only_memory}
use Rattle.wasm_module.proofs.lists.list_in.Goals as goal

pub returns-in-Some-clause-only : goal.returns-in-Some-clause-only
returns-in-Some-clause-only g c known l =
    only_memory nothing_listed (SpellsKnown g.T.Item.Spells g.T.Item.Fails) (λ k. k) _ _ c.args.id _ _ known _ c.in-Some.ensures.found l
    c.read_known.ensures.only
