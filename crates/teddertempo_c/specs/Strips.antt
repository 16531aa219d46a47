-- A call that drops a module's custom sections that name places in its code (this project).
use Rattle.std.specs.Prelude.{◌≡◌, ◌≢◌, ℕ, Bool, List, take}
use Rattle.wasm_sections.specs.Debug.{IsWithoutDebug}
use Rattle.wasm_sections.specs.Section.{SpellsModule}
use Rattle.wasm_sections.specs.Sections.{IsSectionFault}
use Rattle.wasm_sections.specs.declared.fault.ModuleFault.{ModuleFault}
use Rattle.wasm_sections.specs.declared.section.Section.{Section}
use Rattle.module_rewrites.specs.DoesAsBefore.{DoesAsBefore}
use Rattle.teddertempo_c.specs.Writes.{WritesFront}

-- The new bytes are the module without these sections, which is valid where it was, and does what it did.
pub record IsStripped (bytes new : List ℕ) : Type 0 where
  pub sections : List Section
  pub spells : SpellsModule bytes sections
  pub without : IsWithoutDebug bytes sections new
  pub does : (exact : Bool) → DoesAsBefore exact bytes new

-- The call writes that to the front of the buffer, or answers 0 and writes nothing, since the bytes aren't a module's sections, or for want of memory.
pub record Strips (old : List ℕ) (result : ℕ) (new : List ℕ) : Type 0 where
  pub writes : WritesFront old result new
  pub stripped : result ≢ 0 → IsStripped old (take result new)
  pub refused : result ≡ 0 → (fault : ModuleFault) × (offset : ℕ) × IsSectionFault old fault offset
