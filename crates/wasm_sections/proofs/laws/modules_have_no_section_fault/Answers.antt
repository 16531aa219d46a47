use Rattle.wasm_sections.proofs.OneModule.{no_fault}
use Rattle.wasm_sections.proofs.laws.modules_have_no_section_fault.Goals as goal

pub returns : goal.returns
returns c bytes ss m fault offset f = no_fault bytes ss fault offset m f
