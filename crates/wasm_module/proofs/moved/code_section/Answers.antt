use Rattle.wasm_sections.specs.declared.id.SectionId.TheVariants as ids
use Rattle.wasm_module.proofs.FindLemmas.{not_lacking}
use Rattle.wasm_module.proofs.moved.code_section.Goals as goal

pub unreachable-requires : goal.unreachable-requires
unreachable-requires c = not_lacking c.args.sections.now ids.Code c.requires.0 c.requires.1 c.in-None.ensures.none
