-- The contents of a module's section, and where they start (this project): for proofs.
use Rattle.std.specs.Prelude.{◌≡◌, ℕ, ◌+◌, ◌≤◌, List, length, slice_range}
use Rattle.wasm_sections.specs.declared.section.Section.{Section}
use Rattle.wasm_sections.specs.declared.id.SectionId.{SectionId}
use Rattle.wasm_sections.specs.Find.{IsFirstWith}

-- the text is what the first section with the id contains, and its first byte has that offset
pub record AreContents (bytes : List ℕ) (sections : List Section) (id : SectionId) (start : ℕ) (text : List ℕ) : Type 0 where
  pub section : Section
  pub is : IsFirstWith sections id section
  pub starts : start ≡ section.contents
  pub text_is : text ≡ slice_range bytes section.contents section.end
  pub fits : start + length text ≤ length bytes
