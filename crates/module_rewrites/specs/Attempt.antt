-- Why nothing of a module is rewritten; which of its functions may be, and can be read (this project).
use Rattle.std.specs.Prelude.{◌≡◌, ◌≢◌, ◌⊎◌, ◌↔◌, ℕ, ◌+◌, ◌<◌, ◌≤◌, List, [], length, Option, Some, None}
use Rattle.wasm_code.specs.declared.operator.Operator.{Operator}
use Rattle.wasm_types.specs.Module.{Module}
use Rattle.wasm_types.specs.declared.types.PrimitiveTypeInfo.{PrimitiveTypeInfo}
use Rattle.wasm_sections.specs.declared.fault.ModuleError.{ModuleError}
use Rattle.wasm_module.specs.Module.{Layout, IsModule}
use Rattle.module_rewrites.specs.Function.{IsFunction, IsFunctionFault, IsWantOfMemory}
use Rattle.module_rewrites.specs.Mutated.{CannotMutate, IsChosen, IsOfSize, RefusesMutation}
use Rattle.module_rewrites.specs.Scope.{Scope, IsMarked}
use Rattle.module_rewrites.specs.declared.function.FunctionError.{FunctionError}
use Rattle.module_rewrites.specs.declared.attempt.Reason.{Reason}
use Rattle.module_rewrites.specs.declared.attempt.Reason.TheVariants.{NoRule, NoOwnFunction, Unreadable, NoFunction, UnknownImport, Refused}

-- ---- the functions that may be rewritten

-- the module has none of its own with the index that is named, where indices are known
pub record LacksFunction (layout : Layout) (only : Option ℕ) (function : ℕ) : Type 0 where
  pub named : only ≡ Some function
  pub known : layout.unknown.imports ≡ None
  pub none : (n : ℕ) → n < length layout.entries → layout.imported_functions + n ≢ function

-- one is named, and an import isn't known, so that no function's index is
pub record LacksIndices (layout : Layout) (only : Option ℕ) (e : ModuleError) : Type 0 where
  pub function : ℕ
  pub named : only ≡ Some function
  pub unknown : layout.unknown.imports ≡ Some e

-- why there is none
abbrev pub RefusesIndex : Layout → (only : Option ℕ) → Reason → Type 0
RefusesIndex layout only (NoFunction function) = LacksFunction layout only function
RefusesIndex layout only (UnknownImport e) = LacksIndices layout only e
RefusesIndex layout only e = ⊥

-- the same of the module with these bytes
pub record RefusesIndexOf (only : Option ℕ) (bytes : List ℕ) (e : Reason) : Type 0 where
  pub info : Module
  pub layout : Layout
  pub is : IsModule bytes info layout
  pub refuses : RefusesIndex layout only e

-- the function of the n-th code entry can be read
pub record CanRead (bytes : List ℕ) (info : Module) (layout : Layout) (n : ℕ) : Type 0 where
  pub locals : List PrimitiveTypeInfo
  pub expression : ℕ
  pub operators : List (Operator × ℕ)
  pub is : IsFunction bytes info layout n locals expression operators

-- the module with these bytes has no function of its own
pub record HasNoFunction (bytes : List ℕ) : Type 0 where
  pub info : Module
  pub layout : Layout
  pub is : IsModule bytes info layout
  pub none : layout.entries ≡ []

-- One of the functions that may be rewritten can be read.
pub record CanReadOne (only : Option ℕ) (bytes : List ℕ) : Type 0 where
  pub info : Module
  pub layout : Layout
  pub is : IsModule bytes info layout
  pub n : ℕ
  pub inside : n < length layout.entries
  pub chosen : IsChosen only (layout.imported_functions + n)
  pub can : CanRead bytes info layout n

-- the function of the n-th code entry can't be read, for this error, which is no want of memory
pub record IsKnownFunctionFault (bytes : List ℕ) (info : Module) (layout : Layout) (n : ℕ) (e : FunctionError) : Type 0 where
  pub fault : IsFunctionFault bytes info layout n e
  pub known : ¬ (IsWantOfMemory e)

-- the n-th code entry is the first one whose function may be rewritten
pub record IsFirstChosen (only : Option ℕ) (layout : Layout) (n : ℕ) : Type 0 where
  pub inside : n < length layout.entries
  pub chosen : IsChosen only (layout.imported_functions + n)
  pub first : (m : ℕ) → m < n → ¬ (IsChosen only (layout.imported_functions + m))

-- There is one, and none of them can; the error is that of the first one.
pub record CanReadNone (only : Option ℕ) (bytes : List ℕ) (e : FunctionError) : Type 0 where
  pub info : Module
  pub layout : Layout
  pub is : IsModule bytes info layout
  pub n : ℕ
  pub first : IsFirstChosen only layout n
  pub fault : IsKnownFunctionFault bytes info layout n e
  pub none : (m : ℕ) → m < length layout.entries → IsChosen only (layout.imported_functions + m) → ¬ (CanRead bytes info layout m)

-- ---- reasons

-- Why nothing of the module is rewritten: no rule applies in those of its functions that may be rewritten and can be read, it has no function of its own
-- where none is named, none of those that may be rewritten can be read, there is none with the index that is named, or the module, or a rewrite of it, is
-- refused.
abbrev pub IsReason : Scope → (bytes : List ℕ) → Reason → Type 0
IsReason scope bytes NoRule = CannotMutate scope bytes × CanReadOne scope.function bytes
IsReason scope bytes NoOwnFunction = (scope.function ≡ None) × HasNoFunction bytes
IsReason scope bytes (Unreadable e) = CanReadNone scope.function bytes e
IsReason scope bytes (NoFunction function) = RefusesIndexOf scope.function bytes (NoFunction function)
IsReason scope bytes (UnknownImport e) = RefusesIndexOf scope.function bytes (UnknownImport e)
IsReason scope bytes (Refused e) = RefusesMutation scope bytes e

-- a rewrite's module is not small enough: another rewrite may fit
abbrev pub IsForSize : Reason → Type 0
IsForSize (Refused e) = IsOfSize e
IsForSize e = ⊥

-- ---- for private functions

-- these of the code entries are those of the functions that may be rewritten, and there are some where one is named
pub record AreChosen (only : Option ℕ) (layout : Layout) (start end : ℕ) : Type 0 where
  pub chosen : (n : ℕ) → ((start ≤ n) × (n < end)) ↔ ((n < length layout.entries) × IsChosen only (layout.imported_functions + n))
  pub named : (only ≡ None) ⊎ (start < end)

-- That is why nothing of the module is rewritten, by any scope by which nothing of it can be, and these of its code entries may be.
abbrev pub IsReasonWithin : (bytes : List ℕ) → Module → Layout → (start end : ℕ) → Reason → Type 0
IsReasonWithin bytes info layout start end reason =
    (scope : Scope) → IsMarked scope info → CannotMutate scope bytes → AreChosen scope.function layout start end → IsReason scope bytes reason
