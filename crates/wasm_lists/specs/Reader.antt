-- Reading lists and their items as functions (this project): for proofs. The contracts of public calls go by the grammar.
use Rattle.std.specs.Prelude.{◌≡◌, ◌⊎◌, ℕ, zero, suc, ◌+◌, ◌-◌, ◌<◌, ◌==◌, if◌then◌else◌, Bool, true, false, List, [], ◌∷◌, ◌++◌, length}
use Rattle.std.specs.Prelude.{Option, Some, None, Result, Ok, Err}
use Rattle.wasm_types.specs.declared.types.PrimitiveTypeInfo.{PrimitiveTypeInfo}
use Rattle.wasm_types.specs.declared.types.ElementType.TheVariants as elements
use Rattle.wasm_types.specs.declared.types.TableType.{TableType}
use Rattle.wasm_types.specs.declared.types.MemoryType.{MemoryType}
use Rattle.wasm_types.specs.declared.types.TypeInfo.{TypeInfo}
use Rattle.wasm_types.specs.declared.types.TypeInfo.TheVariants as kinds
use Rattle.wasm_code.specs.declared.fault.Cause.{Cause}
use Rattle.wasm_code.specs.declared.fault.Cause.TheVariants.{BadImmediate}
use Rattle.wasm_code.specs.Reader.{◌>>=◌, byte_at, bytes_at, named_at, times_at, unsigned_at}
use Rattle.wasm_sections.specs.declared.fault.ModuleError.{ModuleError}
use Rattle.wasm_sections.specs.declared.fault.ModuleFault.TheVariants as faults
use Rattle.wasm_lists.specs.declared.refusal.Refusal.{Refusal}
use Rattle.wasm_lists.specs.declared.refusal.Refusal.TheVariants as refusals
use Rattle.wasm_lists.specs.declared.import.Import.{Import}
use Rattle.wasm_lists.specs.declared.import.Import.TheVariants as imports
use Rattle.wasm_lists.specs.declared.entries.Entry.{Entry}
use Rattle.wasm_lists.specs.declared.locals.GroupStop.{GroupStop}
use Rattle.wasm_lists.specs.declared.locals.GroupStop.TheVariants as stops
use Rattle.wasm_lists.specs.Entries.{entries_from}
use Rattle.wasm_lists.specs.Known.{CauseIsUnknown}
use Rattle.wasm_lists.specs.List.{fault_of}
use Rattle.wasm_lists.specs.Locals.{types_of, locals_in, AreFew}
use Rattle.wasm_lists.specs.Types.{is_packed, is_sub}
use Rattle.wasm_lists.specs.Tables.{bounds, is_shared}
use Rattle.wasm_lists.specs.ValueReader.{mark_at, reference_type_at, primitive_at, mutable_at, initialiser_at}

-- what a call answered, seen by view, is what reading gives, unless memory ran out
abbrev pub AnswersUnlessMemory : {X Y : Type 0} → (X → Y) → Result X Refusal → Result Y Cause → Type 0
AnswersUnlessMemory view (Ok x) read = read ≡ Ok (view x)
AnswersUnlessMemory view (Err (refusals.Bytes cause)) read = read ≡ Err cause
AnswersUnlessMemory view (Err refusals.Memory) read = Unit {0}

-- ---- lists

-- so many values one after another
unfoldable pub each_at : {A : Type 0} → ℕ → (List ℕ → Result (A × List ℕ) Cause) → List ℕ → Result (List A × List ℕ) Cause
each_at zero at bytes = Ok ([], bytes)
each_at (suc n) at bytes = at bytes >>= λ x. each_at n at x.1 >>= λ xs. Ok (x.0 ∷ xs.0, xs.1)

-- a count, and as many values
unfoldable pub list_at : {A : Type 0} → (List ℕ → Result (A × List ℕ) Cause) → List ℕ → Result (List A × List ℕ) Cause
list_at at bytes = unsigned_at 32 bytes >>= λ n. each_at n.0 at n.1

-- behind these of so many values reading fails
pub record FailsBehindItems {A : Type 0} (at : List ℕ → Result (A × List ℕ) Cause) (number : ℕ) (bytes : List ℕ) (cause : Cause)
    (items : List A) (rest : List ℕ) : Type 0 where
  pub before : ℕ
  pub fewer : before < number
  pub reads : each_at before at bytes ≡ Ok (items, rest)
  pub fails : at rest ≡ Err cause

-- behind some of so many values reading fails, where so many bytes are left
pub record StopsEach {A : Type 0} (at : List ℕ → Result (A × List ℕ) Cause) (number : ℕ) (bytes : List ℕ) (cause : Cause) (left : ℕ) : Type 0 where
  pub items : List A
  pub rest : List ℕ
  pub behind : FailsBehindItems at number bytes cause items rest
  pub is_left : left ≡ length rest

-- the same for a refusal: nothing is said of one for want of memory
abbrev pub StopsBy : {A : Type 0} → (List ℕ → Result (A × List ℕ) Cause) → ℕ → List ℕ → Refusal → ℕ → Type 0
StopsBy at number bytes (refusals.Bytes cause) left = StopsEach at number bytes cause left
StopsBy at number bytes refusals.Memory left = Unit {0}

-- these of so many values are read: all, or those before the one that is refused
abbrev pub RunsTo : {A : Type 0} → (List ℕ → Result (A × List ℕ) Cause) → ℕ → List ℕ → List A → List ℕ → Option Refusal → Type 0
RunsTo at number bytes items rest None = each_at number at bytes ≡ Ok (items, rest)
RunsTo at number bytes items rest (Some (refusals.Bytes cause)) = FailsBehindItems at number bytes cause items rest
RunsTo at number bytes items rest (Some refusals.Memory) = Unit {0}

-- one of the items that the count says fails
pub record StopsList {A : Type 0} (at : List ℕ → Result (A × List ℕ) Cause) (start : ℕ) (text : List ℕ) (cause : Cause) (offset : ℕ) : Type 0 where
  pub number : ℕ
  pub rest : List ℕ
  pub left : ℕ
  pub counts : unsigned_at 32 text ≡ Ok (number, rest)
  pub stops : StopsEach at number rest cause left
  pub is_at : offset ≡ start + (length text - left)

-- bytes stand behind the list
pub record GoesOnBehindList {A : Type 0} (at : List ℕ → Result (A × List ℕ) Cause) (start : ℕ) (text : List ℕ) (offset : ℕ) : Type 0 where
  pub items : List A
  pub rest : List ℕ
  pub reads : list_at at text ≡ Ok (items, rest)
  pub some : 0 < length rest
  pub is_at : offset ≡ start + (length text - length rest)

-- the error of an item that was refused at that offset, in contents that start at the other one
abbrev pub error_at : Refusal → ℕ → ℕ → ModuleError
error_at (refusals.Bytes cause) offset start = record { kind = fault_of cause; offset = offset }
error_at refusals.Memory offset start = record { kind = faults.Memory; offset = start }

-- why a list that is the whole of the text isn't read
abbrev pub FailsWhole : {A : Type 0} → (List ℕ → Result (A × List ℕ) Cause) → ℕ → List ℕ → ModuleError → Type 0
FailsWhole at start text e =
    ((cause : Cause) × (e.kind ≡ fault_of cause) × (((unsigned_at 32 text ≡ Err cause) × (e.offset ≡ start)) ⊎ StopsList at start text cause e.offset))
    ⊎ ((e.kind ≡ faults.TrailingBytes) × GoesOnBehindList at start text e.offset)
    ⊎ ((e.kind ≡ faults.Memory) × (e.offset ≡ start))

-- ---- lists with items of unknown forms

-- the refusal says that bytes name nothing that is known here
abbrev pub IsUnknownBy : Refusal → Type 0
IsUnknownBy (refusals.Bytes cause) = CauseIsUnknown cause
IsUnknownBy refusals.Memory = ⊥

-- the text is a list of so many items, which are all read
pub record ReadsWhole {A : Type 0} (at : List ℕ → Result (A × List ℕ) Cause) (text : List ℕ) (count : ℕ) (items : List A) : Type 0 where
  pub rest : List ℕ
  pub counts : unsigned_at 32 text ≡ Ok (count, rest)
  pub reads : list_at at text ≡ Ok (items, [])

-- the list has so many items, of which these are read; the next one is of an unknown form, as the error says
pub record ReadsCut {A : Type 0} (at : List ℕ → Result (A × List ℕ) Cause) (start : ℕ) (text : List ℕ) (count : ℕ) (items : List A)
    (e : ModuleError) : Type 0 where
  pub cause : Cause
  pub unknown : CauseIsUnknown cause
  pub kind : e.kind ≡ fault_of cause
  pub rest : List ℕ
  pub back : List ℕ
  pub counts : unsigned_at 32 text ≡ Ok (count, rest)
  pub fails : FailsBehindItems at count rest cause items back
  pub is_at : e.offset ≡ start + (length text - length back)

-- what is read of a list that is the whole of the text
abbrev pub ReadsKnown : {A : Type 0} → (List ℕ → Result (A × List ℕ) Cause) → ℕ → List ℕ → ℕ → List A → Option ModuleError → Type 0
ReadsKnown at start text count items None = ReadsWhole at text count items
ReadsKnown at start text count items (Some e) = ReadsCut at start text count items e

-- why nothing is known of it
abbrev pub FailsKnown : {A : Type 0} → (List ℕ → Result (A × List ℕ) Cause) → ℕ → List ℕ → ModuleError → Type 0
FailsKnown at start text e =
    ((cause : Cause) × (e.kind ≡ fault_of cause) × (unsigned_at 32 text ≡ Err cause) × (e.offset ≡ start))
    ⊎ ((cause : Cause) × (CauseIsUnknown cause → ⊥) × (e.kind ≡ fault_of cause) × StopsList at start text cause e.offset)
    ⊎ ((e.kind ≡ faults.TrailingBytes) × GoesOnBehindList at start text e.offset)
    ⊎ ((e.kind ≡ faults.Memory) × (e.offset ≡ start))

-- ---- types

-- the byte of i8 or i16, or a value type
unfoldable pub storage_type_at : List ℕ → Result (Unit {0} × List ℕ) Cause
storage_type_at bytes = byte_at bytes >>= λ b. if is_packed b.0 then Ok (tt, b.1) else (primitive_at bytes >>= λ t. Ok (tt, t.1))

-- what is stored, and whether it may be written
unfoldable pub field_at : List ℕ → Result (Unit {0} × List ℕ) Cause
field_at bytes = storage_type_at bytes >>= λ stored. mutable_at stored.1 >>= λ m. Ok (tt, m.1)

-- a count, and as many values, which aren't kept
unfoldable pub counted_at : {A : Type 0} → (List ℕ → Result (A × List ℕ) Cause) → List ℕ → Result (Unit {0} × List ℕ) Cause
counted_at at bytes = unsigned_at 32 bytes >>= λ n. times_at n.0 at n.1

-- the types of the parameters and of the results of a function
unfoldable pub signature_at : List ℕ → Result (TypeInfo × List ℕ) Cause
signature_at bytes = list_at primitive_at bytes >>= λ params. list_at primitive_at params.1 >>= λ returns.
    Ok (kinds.Func (record { params = params.0; returns = returns.0 }), returns.1)

-- a function's type, a structure's or an array's, as the first byte says
unfoldable pub composite_type_at : List ℕ → Result (TypeInfo × List ℕ) Cause
composite_type_at bytes = byte_at bytes >>= λ b.
    if b.0 == 0x60 then signature_at b.1
    else if b.0 == 0x5f then (counted_at field_at b.1 >>= λ x. Ok (kinds.Other, x.1))
    else if b.0 == 0x5e then (field_at b.1 >>= λ x. Ok (kinds.Other, x.1))
    else Err BadImmediate

-- a composite type, with the indices of those that it is a subtype of where the first byte says so
unfoldable pub sub_type_at : List ℕ → Result (TypeInfo × List ℕ) Cause
sub_type_at bytes = byte_at bytes >>= λ b.
    if is_sub b.0 then (counted_at (unsigned_at 32) b.1 >>= λ x. composite_type_at x.1) else composite_type_at bytes

-- a list of subtypes behind the byte 4E, or one alone
unfoldable pub type_group_at : List ℕ → Result (List TypeInfo × List ℕ) Cause
type_group_at bytes = byte_at bytes >>= λ b.
    if b.0 == 0x4e then list_at sub_type_at b.1 else (sub_type_at bytes >>= λ t. Ok (t.0 ∷ [], t.1))

-- ---- tables and memories

-- the flag that has this byte
abbrev pub flag_of : ℕ → Option (Bool × Option Bool)
flag_of b =
    if b == 0 then Some (false, None) else if b == 1 then Some (false, Some false) else if b == 3 then Some (false, Some true)
    else if b == 4 then Some (true, None) else if b == 5 then Some (true, Some false) else if b == 7 then Some (true, Some true) else None

-- the flag of limits: whether 64 bits index, and of a maximum whether what has it is shared
unfoldable pub flag_at : List ℕ → Result ((Bool × Option Bool) × List ℕ) Cause
flag_at bytes = byte_at bytes >>= λ b. named_at (flag_of b.0) b.1

-- limits: whether 64 bits index, and whether what has them is shared
unfoldable pub limits_at : List ℕ → Result ((Bool × Bool) × List ℕ) Cause
limits_at bytes =
    flag_at bytes >>= λ flag. times_at (bounds flag.0) (unsigned_at 64) flag.1 >>= λ x. Ok ((flag.0.0, is_shared flag.0.1), x.1)

-- a memory type
unfoldable pub memory_type_at : List ℕ → Result (MemoryType × List ℕ) Cause
memory_type_at bytes = limits_at bytes >>= λ limits. Ok (record { memory64 = limits.0.0; shared = limits.0.1 }, limits.1)

-- a table type
unfoldable pub table_type_at : List ℕ → Result (TableType × List ℕ) Cause
table_type_at bytes = reference_type_at bytes >>= λ element. limits_at element.1 >>= λ limits.
    Ok (record { element_type = elements.Other; table64 = limits.0.0 }, limits.1)

-- a table, with an initialiser where the first byte is 40
unfoldable pub table_at : List ℕ → Result (TableType × List ℕ) Cause
table_at bytes = byte_at bytes >>= λ b.
    if b.0 == 0x40 then (mark_at 0x00 b.1 >>= λ m. table_type_at m.1 >>= λ type. initialiser_at type.1 >>= λ x. Ok (type.0, x.1))
    else table_type_at bytes

-- ---- globals

-- a value type, and whether it may be written
unfoldable pub global_type_at : List ℕ → Result (PrimitiveTypeInfo × List ℕ) Cause
global_type_at bytes = primitive_at bytes >>= λ type. mutable_at type.1 >>= λ m. Ok (type.0, m.1)

-- a global type and an initialiser
unfoldable pub global_at : List ℕ → Result (PrimitiveTypeInfo × List ℕ) Cause
global_at bytes = global_type_at bytes >>= λ type. initialiser_at type.1 >>= λ x. Ok (type.0, x.1)

-- ---- imports

-- what follows so many bytes
unfoldable pub skip_at : ℕ → List ℕ → Result (Unit {0} × List ℕ) Cause
skip_at n bytes = bytes_at n bytes >>= λ b. Ok (tt, b.1)

-- a length and as many bytes
unfoldable pub name_at : List ℕ → Result (Unit {0} × List ℕ) Cause
name_at bytes = unsigned_at 32 bytes >>= λ n. skip_at n.0 n.1

-- what is imported, as the first byte says
unfoldable pub external_at : List ℕ → Result (Import × List ℕ) Cause
external_at bytes = byte_at bytes >>= λ b.
    if b.0 == 0x00 then (unsigned_at 32 b.1 >>= λ n. Ok (imports.Function n.0, n.1))
    else if b.0 == 0x01 then (table_type_at b.1 >>= λ t. Ok (imports.Table t.0, t.1))
    else if b.0 == 0x02 then (memory_type_at b.1 >>= λ t. Ok (imports.Memory t.0, t.1))
    else if b.0 == 0x03 then (global_type_at b.1 >>= λ t. Ok (imports.Global t.0, t.1))
    else if b.0 == 0x04 then (mark_at 0x00 b.1 >>= λ m. unsigned_at 32 m.1 >>= λ n. Ok (imports.Tag n.0, n.1))
    else Err BadImmediate

-- two names and what is imported
unfoldable pub import_at : List ℕ → Result (Import × List ℕ) Cause
import_at bytes = name_at bytes >>= λ first. name_at first.1 >>= λ name. external_at name.1

-- ---- entries and groups of locals

-- a number, and how many bytes spell it
unfoldable pub measured_at : {A : Type 0} → (List ℕ → Result (A × List ℕ) Cause) → List ℕ → Result ((A × ℕ) × List ℕ) Cause
measured_at at bytes = at bytes >>= λ x. Ok ((x.0, length bytes - length x.1), x.1)

-- a size (first) with the number of the bytes that spell it (second), and that many bytes
unfoldable pub measured_size_at : List ℕ → Result ((ℕ × ℕ) × List ℕ) Cause
measured_size_at bytes = measured_at (unsigned_at 32) bytes >>= λ size. bytes_at size.0.0 size.1 >>= λ b. Ok (size.0, b.1)

-- the entry of that size that starts at the offset
abbrev pub entry_of : ℕ → ℕ × ℕ → Entry
entry_of start size = record { start = start; contents = start + size.1; end = start + size.1 + size.0 }

-- an entry, in bytes that end at the offset
unfoldable pub entry_at : ℕ → List ℕ → Result (Entry × List ℕ) Cause
entry_at to bytes = measured_size_at bytes >>= λ size. Ok (entry_of (to - length bytes) size.0, size.1)

-- the entries that are read are those of a list of sizes
pub record AreRead (start : ℕ) (text : List ℕ) (entries : List Entry) : Type 0 where
  pub number : ℕ
  pub rest : List ℕ
  pub sizes : List (ℕ × ℕ)
  pub counts : unsigned_at 32 text ≡ Ok (number, rest)
  pub reads : list_at measured_size_at text ≡ Ok (sizes, [])
  pub placed : entries ≡ entries_from (start + (length text - length rest)) sizes

-- so many locals of one type
unfoldable pub locals_group_at : List ℕ → Result ((ℕ × PrimitiveTypeInfo) × List ℕ) Cause
locals_group_at bytes = unsigned_at 32 bytes >>= λ n. primitive_at n.1 >>= λ type. Ok ((n.0, type.0), type.1)

-- the groups are read, aren't too many with the types before them, and the types are with theirs
pub record ReadsGroups (before : List PrimitiveTypeInfo) (number : ℕ) (bytes : List ℕ) (types : List PrimitiveTypeInfo) (rest : List ℕ) : Type 0 where
  pub groups : List (ℕ × PrimitiveTypeInfo)
  pub reads : each_at number locals_group_at bytes ≡ Ok (groups, rest)
  pub few : AreFew before groups
  pub all : types ≡ before ++ types_of groups

-- some groups are read, fewer than there are, and so many bytes are left
pub record IsAfterGroups (before : List PrimitiveTypeInfo) (number : ℕ) (bytes : List ℕ) (left : ℕ)
    (groups : List (ℕ × PrimitiveTypeInfo)) (rest : List ℕ) : Type 0 where
  pub passed : ℕ
  pub fewer : passed < number
  pub reads : each_at passed locals_group_at bytes ≡ Ok (groups, rest)
  pub few : AreFew before groups
  pub is_left : left ≡ length rest

-- the next one fails
pub record FailsGroups (before : List PrimitiveTypeInfo) (number : ℕ) (bytes : List ℕ) (cause : Cause) (left : ℕ) : Type 0 where
  pub groups : List (ℕ × PrimitiveTypeInfo)
  pub rest : List ℕ
  pub place : IsAfterGroups before number bytes left groups rest
  pub fails : locals_group_at rest ≡ Err cause

-- with the next one there are too many
pub record HasTooMany (before : List PrimitiveTypeInfo) (number : ℕ) (bytes : List ℕ) (left : ℕ) : Type 0 where
  pub groups : List (ℕ × PrimitiveTypeInfo)
  pub rest : List ℕ
  pub place : IsAfterGroups before number bytes left groups rest
  pub group : ℕ × PrimitiveTypeInfo
  pub behind : List ℕ
  pub next : locals_group_at rest ≡ Ok (group, behind)
  pub many : 50000 < length before + locals_in groups + group.0

-- the same for a refusal: nothing is said of one for want of memory
abbrev pub FailsGroupsBy : List PrimitiveTypeInfo → ℕ → List ℕ → Refusal → ℕ → Type 0
FailsGroupsBy before number bytes (refusals.Bytes cause) left = FailsGroups before number bytes cause left
FailsGroupsBy before number bytes refusals.Memory left = Unit {0}

-- why the groups aren't read to their end is right
abbrev pub StopsGroups : List PrimitiveTypeInfo → ℕ → List ℕ → GroupStop → Type 0
StopsGroups before number bytes (stops.Refused s) = FailsGroupsBy before number bytes s.refusal s.left
StopsGroups before number bytes (stops.TooMany left) = HasTooMany before number bytes left

-- how many bytes were left there
abbrev pub left_of : GroupStop → ℕ
left_of (stops.Refused s) = s.left
left_of (stops.TooMany left) = left

-- the error of groups that stop at that offset, in contents that start at the other one
abbrev pub group_error_at : GroupStop → ℕ → ℕ → ModuleError
group_error_at (stops.Refused s) offset start = error_at s.refusal offset start
group_error_at (stops.TooMany left) offset start = record { kind = faults.TooManyLocals; offset = offset }
