-- The code of a section (WebAssembly Core Specification 3.0, Binary Format, Modules, Sections), with a shortest size, and the names of
-- what may go wrong as it is written (this project).
use Rattle.std.specs.Prelude.{ℕ, List, ◌∷◌, ◌++◌, length, codes}
use Rattle.wasm_code.specs.Code.{shortest}
use Rattle.wasm_sections.specs.declared.id.SectionId.{SectionId}
use Rattle.wasm_sections.specs.declared.writing.WriteError.{WriteError}
use Rattle.wasm_sections.specs.declared.writing.WriteError.TheVariants as errors
use Rattle.wasm_sections.specs.Id.{id_code}

-- the id, the number of the bytes of the contents, and the contents
abbrev pub section_code : SectionId → List ℕ → List ℕ
section_code id contents = id_code id ∷ shortest (length contents) ++ contents

-- what a caller is told of a section that isn't written
abbrev pub write_error_name : WriteError → List ℕ
write_error_name errors.TooLarge = codes "TooLarge"
write_error_name errors.Memory = codes "Memory"
