-- Imports (WebAssembly Core Specification 3.0, Binary Format, Modules, Import Section; Types, External Types).
use Rattle.std.specs.Prelude.{ℕ, ◌==◌, List}
use Rattle.wasm_code.specs.declared.fault.Cause.{Cause}
use Rattle.wasm_code.specs.Grammar.{IsByte, LacksByte, AreBytes, LacksBytes, Never, NamesNothing, Of, Choose, FailsChosen, Then, FailsThen}
use Rattle.wasm_code.specs.Number.{SpellsUnsigned, FailsUnsigned}
use Rattle.wasm_lists.specs.declared.import.Import.{Import}
use Rattle.wasm_lists.specs.declared.import.Import.TheVariants as imports
use Rattle.wasm_lists.specs.First.{IsMark, FailsMark}
use Rattle.wasm_lists.specs.Tables.{SpellsTableType, FailsTableType, SpellsMemoryType, FailsMemoryType}
use Rattle.wasm_lists.specs.Globals.{SpellsGlobalType, FailsGlobalType}

-- a length and that many bytes, which aren't kept (whether they are UTF-8 isn't asked)
abbrev pub SpellsAnyName : List ℕ → Unit {0} → Type 0
SpellsAnyName = Then (SpellsUnsigned 32) (λ n. Of (λ _. tt) (AreBytes n))

-- No length begins the bytes, or fewer bytes follow it.
abbrev pub FailsName : List ℕ → Cause → Type 0
FailsName = FailsThen (FailsUnsigned 32) (SpellsUnsigned 32) (λ n. LacksBytes n)

-- The byte 00 and the index of a type, 01 and a table type, 02 and a memory type, 03 and a global type, or 04, 00 and the
-- index of a type.
abbrev pub SpellsExternal : List ℕ → Import → Type 0
SpellsExternal = Then IsByte (λ b.
    Choose (b == 0x00) (Of (λ n. imports.Function n) (SpellsUnsigned 32))
    (Choose (b == 0x01) (Of (λ t. imports.Table t) SpellsTableType)
    (Choose (b == 0x02) (Of (λ t. imports.Memory t) SpellsMemoryType)
    (Choose (b == 0x03) (Of (λ t. imports.Global t) SpellsGlobalType)
    (Choose (b == 0x04) (Then (IsMark 0x00) (λ _. Of (λ n. imports.Tag n) (SpellsUnsigned 32))) Never)))))

-- There is no byte, or it is none of these, or what it asks for fails.
abbrev pub FailsExternal : List ℕ → Cause → Type 0
FailsExternal = FailsThen LacksByte IsByte (λ b.
    FailsChosen (b == 0x00) (FailsUnsigned 32)
    (FailsChosen (b == 0x01) FailsTableType
    (FailsChosen (b == 0x02) FailsMemoryType
    (FailsChosen (b == 0x03) FailsGlobalType
    (FailsChosen (b == 0x04) (FailsThen (FailsMark 0x00) (IsMark 0x00) (λ _. FailsUnsigned 32)) NamesNothing)))))

-- Two names, of the module and of what is imported from it, and what that is.
abbrev pub SpellsImport : List ℕ → Import → Type 0
SpellsImport = Then SpellsAnyName (λ _. Then SpellsAnyName (λ _. SpellsExternal))

-- One of the names fails, or what is imported.
abbrev pub FailsImport : List ℕ → Cause → Type 0
FailsImport = FailsThen FailsName SpellsAnyName (λ _. FailsThen FailsName SpellsAnyName (λ _. FailsExternal))
