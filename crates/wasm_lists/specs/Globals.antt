-- Globals: their types and their initialisers (WebAssembly Core Specification 3.0, Binary Format, Types, Global Types; Modules,
-- Global Section).
use Rattle.std.specs.Prelude.{ℕ, List}
use Rattle.wasm_types.specs.declared.types.PrimitiveTypeInfo.{PrimitiveTypeInfo}
use Rattle.wasm_code.specs.declared.fault.Cause.{Cause}
use Rattle.wasm_code.specs.Grammar.{IsCode, FailsCode, Of, Then, FailsThen}
use Rattle.wasm_lists.specs.Constants.{SpellsInitialiser, FailsInitialiser}
use Rattle.wasm_lists.specs.ValueTypes.{SpellsPrimitive, FailsPrimitive, mutable_code}

-- A value type, and whether it may be written, which isn't kept.
abbrev pub SpellsGlobalType : List ℕ → PrimitiveTypeInfo → Type 0
SpellsGlobalType = Then SpellsPrimitive (λ type. Of (λ _. type) (IsCode mutable_code))

-- No value type begins the bytes, or neither 0 nor 1 follows it.
abbrev pub FailsGlobalType : List ℕ → Cause → Type 0
FailsGlobalType = FailsThen FailsPrimitive SpellsPrimitive (λ _. FailsCode mutable_code)

-- A global type, and an initialiser, which isn't kept.
abbrev pub SpellsGlobal : List ℕ → PrimitiveTypeInfo → Type 0
SpellsGlobal = Then SpellsGlobalType (λ type. Of (λ _. type) SpellsInitialiser)

-- No global type begins the bytes, or no initialiser follows it.
abbrev pub FailsGlobal : List ℕ → Cause → Type 0
FailsGlobal = FailsThen FailsGlobalType SpellsGlobalType (λ _. FailsInitialiser)
