use Rattle.wasm_sections.specs.declared.id.SectionId.TheVariants as ids
use Rattle.wasm_module.proofs.InsideLemmas.{entry_inside}
use Rattle.wasm_module.proofs.laws.entries_are_inside.Goals as goal

pub returns : goal.returns
returns c bytes info layout n entry m e =
    entry_inside bytes layout.sections layout.entries n entry
    (λ s is. c.sections_fill_the_module.ensures.found bytes layout.sections ids.Code s m.spells is) m.entries_are e
