use Rattle.wasm_module.proofs.InsideLemmas.{contents_are}
use Rattle.wasm_module.proofs.contents.contents_with.Goals as goal

pub contents_of-requires-clause-order : goal.contents_of-requires-clause-order
contents_of-requires-clause-order c =
    let w = c.sections_fill_the_module.ensures.found _ _ _ _ c.requires c.in_ok-section.ensures.found in
    w.order

pub contents_of-requires-clause-bounds : goal.contents_of-requires-clause-bounds
contents_of-requires-clause-bounds c =
    let w = c.sections_fill_the_module.ensures.found _ _ _ _ c.requires c.in_ok-section.ensures.found in
    w.last

pub returns-clause-found : goal.returns-clause-found
returns-clause-found c =
    let w = c.sections_fill_the_module.ensures.found _ _ _ _ c.requires c.in_ok-section.ensures.found in
    contents_are _ _ _ _ _ c.in_ok-section.ensures.found w c.contents_of.ensures
