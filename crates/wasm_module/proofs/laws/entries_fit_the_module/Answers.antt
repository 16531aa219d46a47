use Rattle.wasm_sections.specs.declared.id.SectionId.TheVariants as ids
use Rattle.wasm_module.proofs.EntrySumLemmas.{entries_few}
use Rattle.wasm_module.proofs.laws.entries_fit_the_module.Goals as goal

pub returns : goal.returns
returns c bytes info layout is =
    entries_few bytes info layout (λ s first. c.sections_fill_the_module.ensures.found bytes layout.sections ids.Code s is.spells first) is
