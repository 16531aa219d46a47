-- Limits, memory types, table types and tables (WebAssembly Core Specification 3.0, Binary Format, Types, Limits, Memory Types
-- and Table Types; Modules, Table Section).
use Rattle.std.specs.Prelude.{ℕ, ◌+◌, ◌==◌, List, Bool, true, false, Option, Some, None, is_some, if◌then◌else◌}
use Rattle.wasm_types.specs.declared.types.TableType.{TableType}
use Rattle.wasm_types.specs.declared.types.ElementType.TheVariants.{Other}
use Rattle.wasm_types.specs.declared.types.MemoryType.{MemoryType}
use Rattle.wasm_code.specs.declared.fault.Cause.{Cause}
use Rattle.wasm_code.specs.Grammar.{IsCode, FailsCode, Of, Then, FailsThen, Times, FailsTimes}
use Rattle.wasm_code.specs.Number.{SpellsUnsigned, FailsUnsigned}
use Rattle.wasm_lists.specs.First.{IsMark, FailsMark, ByFirst, FailsByFirst}
use Rattle.wasm_lists.specs.ValueTypes.{SpellsReferenceType, FailsReferenceType}
use Rattle.wasm_lists.specs.Constants.{SpellsInitialiser, FailsInitialiser}

-- what a flag says of the maximum: there is none, or it follows the minimum, and then whether what has these limits is shared
abbrev pub maximum_code : Option Bool → ℕ
maximum_code None = 0
maximum_code (Some false) = 1
maximum_code (Some true) = 3

-- the byte of a flag, which says whether 64 bits index (first), and of the maximum (second); shared limits are of the threads proposal
abbrev pub flag_code : Bool × Option Bool → ℕ
flag_code flag = (if flag.0 then 4 else 0) + maximum_code flag.1

-- how many numbers follow the flag
abbrev pub bounds : Bool × Option Bool → ℕ
bounds flag = if is_some flag.1 then 2 else 1

-- what has limits of that maximum is shared
abbrev pub is_shared : Option Bool → Bool
is_shared None = false
is_shared (Some shared) = shared

-- A flag, the minimum, and the maximum where the flag says so; kept are whether 64 bits index, and whether what has these limits is shared.
abbrev pub SpellsLimits : List ℕ → Bool × Bool → Type 0
SpellsLimits = Then (IsCode flag_code) (λ flag. Of (λ _. (flag.0, is_shared flag.1)) (Times (bounds flag) (SpellsUnsigned 64)))

-- No flag begins the bytes, or fewer numbers follow it than it says.
abbrev pub FailsLimits : List ℕ → Cause → Type 0
FailsLimits = FailsThen (FailsCode flag_code) (IsCode flag_code) (λ flag. FailsTimes (bounds flag) (FailsUnsigned 64) (SpellsUnsigned 64))

-- The limits.
abbrev pub SpellsMemoryType : List ℕ → MemoryType → Type 0
SpellsMemoryType = Of (λ limits. record { memory64 = limits.0; shared = limits.1 }) SpellsLimits

-- The limits fail.
abbrev pub FailsMemoryType : List ℕ → Cause → Type 0
FailsMemoryType = FailsLimits

-- ---- tables

-- A reference type, and the limits.
abbrev pub SpellsTableType : List ℕ → TableType → Type 0
SpellsTableType = Then SpellsReferenceType (λ _. Of (λ limits. record { element_type = Other; table64 = limits.0 }) SpellsLimits)

-- No reference type begins the bytes, or no limits follow it.
abbrev pub FailsTableType : List ℕ → Cause → Type 0
FailsTableType = FailsThen FailsReferenceType SpellsReferenceType (λ _. FailsLimits)

-- The bytes 40 and 00, a table type, and an initialiser, which isn't kept; or a table type alone.
abbrev pub SpellsTable : List ℕ → TableType → Type 0
SpellsTable = ByFirst (λ b. b == 0x40)
    (λ _. Then (IsMark 0x00) (λ _. Then SpellsTableType (λ type. Of (λ _. type) SpellsInitialiser))) SpellsTableType

-- What the first byte asks for fails, or there is none.
abbrev pub FailsTable : List ℕ → Cause → Type 0
FailsTable = FailsByFirst (λ b. b == 0x40)
    (λ _. FailsThen (FailsMark 0x00) (IsMark 0x00) (λ _. FailsThen FailsTableType SpellsTableType (λ _. FailsInitialiser))) FailsTableType
