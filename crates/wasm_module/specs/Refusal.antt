-- Why a module isn't written, where one of its sections isn't (this project): for proofs.
use Rattle.wasm_sections.specs.declared.writing.WriteError.{WriteError as SectionError}
use Rattle.wasm_sections.specs.declared.writing.WriteError.TheVariants as sections
use Rattle.wasm_module.specs.declared.refusal.WriteError.{WriteError}
use Rattle.wasm_module.specs.declared.refusal.WriteError.TheVariants as modules

-- the module isn't written for the same reason
abbrev pub by_section : SectionError → WriteError
by_section sections.TooLarge = modules.TooLarge
by_section sections.Memory = modules.Memory
