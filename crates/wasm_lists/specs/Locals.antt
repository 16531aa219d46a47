-- The locals of a function: its parameters, and those that its code entry lists in groups (WebAssembly Core Specification 3.0,
-- Binary Format, Modules, Code Section), of which there are at most 50,000 (this project).
use Rattle.std.specs.Prelude.{◌≡◌, ◌⊎◌, ℕ, ◌+◌, ◌<◌, ◌≤◌, List, [], ◌∷◌, ◌++◌, length, replicate}
use Rattle.wasm_types.specs.declared.types.PrimitiveTypeInfo.{PrimitiveTypeInfo}
use Rattle.wasm_code.specs.declared.fault.Cause.{Cause}
use Rattle.wasm_code.specs.declared.fault.Cause.TheVariants.{Truncated, BadInteger, BadImmediate}
use Rattle.wasm_code.specs.Grammar.{Of, Then, FailsThen}
use Rattle.wasm_code.specs.Number.{SpellsUnsigned, FailsUnsigned}
use Rattle.wasm_sections.specs.declared.fault.ModuleFault.{ModuleFault}
use Rattle.wasm_sections.specs.declared.fault.ModuleFault.TheVariants as faults
use Rattle.wasm_lists.specs.List.{Each, SpellsList, CountFails}
use Rattle.wasm_lists.specs.ValueTypes.{SpellsPrimitive, FailsPrimitive}

-- A number, and a value type.
abbrev pub SpellsGroup : List ℕ → ℕ × PrimitiveTypeInfo → Type 0
SpellsGroup = Then (SpellsUnsigned 32) (λ n. Of (λ type. (n, type)) SpellsPrimitive)

-- No number begins the bytes, or no value type follows it.
abbrev pub FailsGroup : List ℕ → Cause → Type 0
FailsGroup = FailsThen (FailsUnsigned 32) (SpellsUnsigned 32) (λ _. FailsPrimitive)

-- each group's type as often as its number says
abbrev pub types_of : List (ℕ × PrimitiveTypeInfo) → List PrimitiveTypeInfo
types_of [] = []
types_of (group ∷ groups) = replicate group.0 group.1 ++ types_of groups

-- how many locals the groups have
abbrev pub locals_in : List (ℕ × PrimitiveTypeInfo) → ℕ
locals_in [] = 0
locals_in (group ∷ groups) = group.0 + locals_in groups

-- not more than 50,000 parameters and locals
abbrev pub AreFew : List PrimitiveTypeInfo → List (ℕ × PrimitiveTypeInfo) → Type 0
AreFew params groups = length params + locals_in groups ≤ 50000

-- A list of groups begins the text; these are the types of the parameters and of its locals, and the offset of the first byte
-- behind it, where the text's first byte has the offset `start`.
pub record SpellsLocals (params : List PrimitiveTypeInfo) (start : ℕ) (text : List ℕ) (types : List PrimitiveTypeInfo) (expression : ℕ) : Type 0 where
  pub groups : List (ℕ × PrimitiveTypeInfo)
  pub front : List ℕ
  pub back : List ℕ
  pub parts : text ≡ front ++ back
  pub list : SpellsList SpellsGroup front groups
  pub few : AreFew params groups
  pub all : types ≡ params ++ types_of groups
  pub at : expression ≡ start + length front

-- behind fewer whole groups than the count says stand the bytes `back`; the groups aren't too many
pub record IsAtGroup (params : List PrimitiveTypeInfo) (start : ℕ) (text : List ℕ) (offset : ℕ)
    (groups : List (ℕ × PrimitiveTypeInfo)) (back : List ℕ) : Type 0 where
  pub number : ℕ
  pub count : List ℕ
  pub before : ℕ
  pub front : List ℕ
  pub parts : text ≡ count ++ (front ++ back)
  pub counts : SpellsUnsigned 32 count number
  pub fewer : before < number
  pub spelled : Each before SpellsGroup front groups
  pub few : AreFew params groups
  pub at : offset ≡ start + length count + length front

-- no group begins these bytes
pub record GroupFails (params : List PrimitiveTypeInfo) (start : ℕ) (text : List ℕ) (cause : Cause) (offset : ℕ) : Type 0 where
  pub groups : List (ℕ × PrimitiveTypeInfo)
  pub back : List ℕ
  pub place : IsAtGroup params start text offset groups back
  pub fails : FailsGroup back cause

-- the parameters alone aren't too many, and the count fails, or a group
abbrev pub StopsAtGroup : List PrimitiveTypeInfo → ℕ → List ℕ → Cause → ℕ → Type 0
StopsAtGroup params start text cause offset =
    (AreFew params [] × CountFails start text cause offset) ⊎ GroupFails params start text cause offset

-- the parameters alone are too many
pub record HasManyParameters (params : List PrimitiveTypeInfo) (start offset : ℕ) : Type 0 where
  pub many : 50000 < length params
  pub at : offset ≡ start

-- with the group that begins these bytes there are too many
pub record PassesBound (params : List PrimitiveTypeInfo) (start : ℕ) (text : List ℕ) (offset : ℕ) : Type 0 where
  pub groups : List (ℕ × PrimitiveTypeInfo)
  pub back : List ℕ
  pub place : IsAtGroup params start text offset groups back
  pub group : ℕ × PrimitiveTypeInfo
  pub bytes : List ℕ
  pub rest : List ℕ
  pub parts : back ≡ bytes ++ rest
  pub spells : SpellsGroup bytes group
  pub many : 50000 < length params + locals_in groups + group.0

-- An error's kind and offset are right.
abbrev pub IsLocalsFault : List PrimitiveTypeInfo → ℕ → List ℕ → ModuleFault → ℕ → Type 0
IsLocalsFault params start text faults.Truncated offset = StopsAtGroup params start text Truncated offset
IsLocalsFault params start text faults.BadInteger offset = StopsAtGroup params start text BadInteger offset
IsLocalsFault params start text faults.UnknownForm offset = StopsAtGroup params start text BadImmediate offset
IsLocalsFault params start text faults.TooManyLocals offset = HasManyParameters params start offset ⊎ PassesBound params start text offset
IsLocalsFault params start text faults.Memory offset = offset ≡ start
IsLocalsFault params start text _ offset = ⊥
