-- The types that a module declares: functions, structures and arrays, alone or in groups (WebAssembly Core Specification 3.0,
-- Binary Format, Types, Composite Types and Recursive Types).
use Rattle.std.specs.Prelude.{ℕ, ◌==◌, ◌||◌, Bool, List, [], ◌∷◌, ◌++◌, Option, Some, None}
use Rattle.wasm_types.specs.declared.types.TypeInfo.{TypeInfo}
use Rattle.wasm_types.specs.declared.types.TypeInfo.TheVariants.{Func, Other}
use Rattle.wasm_code.specs.declared.fault.Cause.{Cause}
use Rattle.wasm_code.specs.Grammar.{IsCode, FailsCode, NoBytes, NeverFails, Never, NamesNothing, Of, Then, FailsThen, Times, FailsTimes}
use Rattle.wasm_code.specs.Number.{SpellsUnsigned, FailsUnsigned}
use Rattle.wasm_lists.specs.First.{ByFirst, FailsByFirst}
use Rattle.wasm_lists.specs.List.{SpellsList, FailsList}
use Rattle.wasm_lists.specs.ValueTypes.{SpellsPrimitive, FailsPrimitive, mutable_code}

-- ---- fields

-- whether the byte is that of i16 or i8, of which a field may be
abbrev pub is_packed : ℕ → Bool
is_packed b = (b == 0x77) || (b == 0x78)

-- The byte of i8 or i16, or a value type, which isn't kept.
abbrev pub SpellsStorageType : List ℕ → Unit {0} → Type 0
SpellsStorageType = ByFirst is_packed (λ _. NoBytes tt) (Of (λ _. tt) SpellsPrimitive)

-- There is no byte, or it is of no such type and no value type begins the bytes.
abbrev pub FailsStorageType : List ℕ → Cause → Type 0
FailsStorageType = FailsByFirst is_packed (λ _. NeverFails) FailsPrimitive

-- What is stored, and whether it may be written.
abbrev pub SpellsField : List ℕ → Unit {0} → Type 0
SpellsField = Then SpellsStorageType (λ _. Of (λ _. tt) (IsCode mutable_code))

-- Nothing that is stored begins the bytes, or neither 0 nor 1 follows it.
abbrev pub FailsField : List ℕ → Cause → Type 0
FailsField = FailsThen FailsStorageType SpellsStorageType (λ _. FailsCode mutable_code)

-- A count, and as many fields.
abbrev pub SpellsFields : List ℕ → Unit {0} → Type 0
SpellsFields = Then (SpellsUnsigned 32) (λ n. Times n SpellsField)

-- The count fails, or one of the fields.
abbrev pub FailsFields : List ℕ → Cause → Type 0
FailsFields = FailsThen (FailsUnsigned 32) (SpellsUnsigned 32) (λ n. FailsTimes n FailsField SpellsField)

-- ---- composite types

-- The types of the parameters, and the types of the results.
abbrev pub SpellsSignature : List ℕ → TypeInfo → Type 0
SpellsSignature = Then (SpellsList SpellsPrimitive) (λ params.
    Of (λ returns. Func (record { params = params; returns = returns })) (SpellsList SpellsPrimitive))

-- The list of the parameters fails, or that of the results.
abbrev pub FailsSignature : List ℕ → Cause → Type 0
FailsSignature =
    FailsThen (FailsList SpellsPrimitive FailsPrimitive) (SpellsList SpellsPrimitive) (λ _. FailsList SpellsPrimitive FailsPrimitive)

-- The byte 60 and a function's types; 5F and a structure's fields; or 5E and the field that an array repeats.
abbrev pub SpellsCompositeType : List ℕ → TypeInfo → Type 0
SpellsCompositeType = ByFirst (λ b. b == 0x60) (λ _. SpellsSignature)
    (ByFirst (λ b. b == 0x5f) (λ _. Of (λ _. Other) SpellsFields) (ByFirst (λ b. b == 0x5e) (λ _. Of (λ _. Other) SpellsField) Never))

-- There is no byte, or it is none of these, or what it asks for fails.
abbrev pub FailsCompositeType : List ℕ → Cause → Type 0
FailsCompositeType = FailsByFirst (λ b. b == 0x60) (λ _. FailsSignature)
    (FailsByFirst (λ b. b == 0x5f) (λ _. FailsFields) (FailsByFirst (λ b. b == 0x5e) (λ _. FailsField) NamesNothing))

-- ---- subtypes, and groups of types

-- whether the byte begins a subtype with the types that it is of: 50 where it may have subtypes itself, 4F where not
abbrev pub is_sub : ℕ → Bool
is_sub b = (b == 0x4f) || (b == 0x50)

-- A count, and as many indices.
abbrev pub SpellsIndices : List ℕ → Unit {0} → Type 0
SpellsIndices = Then (SpellsUnsigned 32) (λ n. Times n (SpellsUnsigned 32))

-- The count fails, or one of the indices.
abbrev pub FailsIndices : List ℕ → Cause → Type 0
FailsIndices = FailsThen (FailsUnsigned 32) (SpellsUnsigned 32) (λ n. FailsTimes n (FailsUnsigned 32) (SpellsUnsigned 32))

-- The byte 50 or 4F, the indices of the types that it is a subtype of, and a composite type; or a composite type alone.
abbrev pub SpellsSubType : List ℕ → TypeInfo → Type 0
SpellsSubType = ByFirst is_sub (λ _. Then SpellsIndices (λ _. SpellsCompositeType)) SpellsCompositeType

-- The indices fail, or the composite type.
abbrev pub FailsSubType : List ℕ → Cause → Type 0
FailsSubType = FailsByFirst is_sub (λ _. FailsThen FailsIndices SpellsIndices (λ _. FailsCompositeType)) FailsCompositeType

-- Types that may name one another: the byte 4E and a list of subtypes, or one subtype alone.
abbrev pub SpellsTypeGroup : List ℕ → List TypeInfo → Type 0
SpellsTypeGroup = ByFirst (λ b. b == 0x4e) (λ _. SpellsList SpellsSubType) (Of (λ type. type ∷ []) SpellsSubType)

-- The list of subtypes fails, or the one subtype.
abbrev pub FailsTypeGroup : List ℕ → Cause → Type 0
FailsTypeGroup = FailsByFirst (λ b. b == 0x4e) (λ _. FailsList SpellsSubType FailsSubType) FailsSubType

-- the types of the groups, one group behind another, in the order of their indices
abbrev pub types_in : List (List TypeInfo) → List TypeInfo
types_in [] = []
types_in (group ∷ groups) = group ++ types_in groups

-- the types of a group that is stored as its first type, where it has no other, or else as a list
abbrev pub stored_group_types : Option TypeInfo → List TypeInfo → List TypeInfo
stored_group_types None types = types
stored_group_types (Some type) types = type ∷ types
