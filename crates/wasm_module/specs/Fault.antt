-- The faults of bytes that are no module, or whose sections list something that can't be told apart (this project; the rules that they break
-- are those of WebAssembly Core Specification 3.0, Binary Format, Modules).
use Rattle.std.specs.Prelude.{◌≡◌, ◌≢◌, ◌⊎◌, ℕ, List, length, slice_range}
use Rattle.wasm_code.specs.Number.{SpellsUnsigned, FailsUnsigned}
use Rattle.wasm_sections.specs.declared.section.Section.{Section}
use Rattle.wasm_sections.specs.declared.id.SectionId.{SectionId}
use Rattle.wasm_sections.specs.declared.id.SectionId.TheVariants as ids
use Rattle.wasm_sections.specs.declared.fault.ModuleFault.{ModuleFault}
use Rattle.wasm_sections.specs.declared.fault.ModuleFault.TheVariants as faults
use Rattle.wasm_sections.specs.Section.{SpellsModule}
use Rattle.wasm_sections.specs.Sections.{IsSectionFault}
use Rattle.wasm_sections.specs.Find.{IsFirstWith, LackId}
use Rattle.wasm_lists.specs.declared.entries.Entry.{Entry}
use Rattle.wasm_lists.specs.Known.{IsKnownFault}
use Rattle.wasm_lists.specs.List.{SpellsList, IsListFault}
use Rattle.wasm_lists.specs.Types.{SpellsTypeGroup, FailsTypeGroup}
use Rattle.wasm_lists.specs.Imports.{SpellsImport, FailsImport}
use Rattle.wasm_lists.specs.Tables.{SpellsTable, FailsTable, SpellsMemoryType, FailsMemoryType}
use Rattle.wasm_lists.specs.Globals.{SpellsGlobal, FailsGlobal}
use Rattle.wasm_lists.specs.Entries.{SpellsMeasuredSize, FailsSized, SpellsEntries}
use Rattle.wasm_module.specs.Module.{Lists}

-- ---- a section's list

-- The contents of a section with the id, whose first byte has the offset `start`, have that fault. Of other sections the contents aren't read.
abbrev pub IsSectionFaultOf : SectionId → (start : ℕ) → List ℕ → ModuleFault → (offset : ℕ) → Type 0
IsSectionFaultOf ids.Type = IsKnownFault SpellsTypeGroup FailsTypeGroup
IsSectionFaultOf ids.Import = IsKnownFault SpellsImport FailsImport
IsSectionFaultOf ids.Function = IsListFault (SpellsUnsigned 32) (FailsUnsigned 32)
IsSectionFaultOf ids.Table = IsKnownFault SpellsTable FailsTable
IsSectionFaultOf ids.Memory = IsKnownFault SpellsMemoryType FailsMemoryType
IsSectionFaultOf ids.Global = IsKnownFault SpellsGlobal FailsGlobal
IsSectionFaultOf ids.Code = IsListFault SpellsMeasuredSize FailsSized
IsSectionFaultOf _ = λ start text fault offset. ⊥

-- the section with the id is there, and its contents have that fault
pub record HasFault (bytes : List ℕ) (sections : List Section) (id : SectionId) (fault : ModuleFault) (offset : ℕ) : Type 0 where
  pub section : Section
  pub is : IsFirstWith sections id section
  pub fails : IsSectionFaultOf id section.contents (slice_range bytes section.contents section.end) fault offset

-- the bytes are sections, and one of those that are read has a fault
pub record HasListFault (bytes : List ℕ) (fault : ModuleFault) (offset : ℕ) : Type 0 where
  pub sections : List Section
  pub spells : SpellsModule bytes sections
  pub id : SectionId
  pub fails : HasFault bytes sections id fault offset

-- ---- functions and code

-- the start of the code section, or the end of the bytes where there is none
abbrev pub IsCodeStart : List ℕ → List Section → ℕ → Type 0
IsCodeStart bytes sections offset =
    ((s : Section) × IsFirstWith sections ids.Code s × (offset ≡ s.start)) ⊎ (LackId sections ids.Code × (offset ≡ length bytes))

-- the numbers of the functions and of the code entries differ
pub record HasOtherCount (bytes : List ℕ) (offset : ℕ) : Type 0 where
  pub sections : List Section
  pub spells : SpellsModule bytes sections
  pub functions : List ℕ
  pub entries : List Entry
  pub functions_are : Lists (λ _. SpellsList (SpellsUnsigned 32)) bytes sections ids.Function functions
  pub entries_are : Lists SpellsEntries bytes sections ids.Code entries
  pub differ : length entries ≢ length functions
  pub at : IsCodeStart bytes sections offset

-- ---- faults

-- An error's kind and offset are right.
pub data IsModuleFault (bytes : List ℕ) : ModuleFault → ℕ → Type 0 where
  of_sections : {fault : ModuleFault} {offset : ℕ} → IsSectionFault bytes fault offset → IsModuleFault bytes fault offset
  of_a_list : {fault : ModuleFault} {offset : ℕ} → HasListFault bytes fault offset → IsModuleFault bytes fault offset
  of_the_count : {offset : ℕ} → HasOtherCount bytes offset → IsModuleFault bytes faults.CodeCount offset
  of_memory : {offset : ℕ} → IsModuleFault bytes faults.Memory offset
