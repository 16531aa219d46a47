-- A module with an operator of one of its functions rewritten by a rule, in its place (this project).
use Rattle.std.specs.Prelude.{◌≡◌, ℕ, ◌+◌, ◌<◌, ◌≤◌, true, List, [], ◌++◌, length, Option, Some, None, Result, Ok, Err, slice_range}
use Rattle.rand_core.specs.Stream.{Stream}
use Rattle.wasm_code.specs.declared.operator.Operator.{Operator}
use Rattle.wasm_types.specs.Module.{Module}
use Rattle.wasm_types.specs.declared.types.PrimitiveTypeInfo.{PrimitiveTypeInfo}
use Rattle.wasm_lists.specs.declared.entries.Entry.{Entry}
use Rattle.wasm_module.specs.Module.{Layout, IsModule}
use Rattle.wasm_module.specs.Fault.{IsModuleFault}
use Rattle.wasm_module.specs.Limits.{IsTooLarge}
use Rattle.wasm_module.specs.Reread.{WasRewritten}
use Rattle.wasm_module.specs.Rewritten.{IsRewritten}
use Rattle.wasm_module.specs.declared.refusal.WriteError.TheVariants as writes
use Rattle.wasm_execution.specs.Values.{context_in}
use Rattle.body_splices.specs.OwnBytes.{without_offsets}
use Rattle.body_rewrites.specs.declared.rewrite.Rewrite.{Rewrite}
use Rattle.body_rewrites.specs.Random.{AppendsByWords, HasNoRewrite}
use Rattle.module_rewrites.specs.Function.{IsFunction}
use Rattle.module_rewrites.specs.ReadAgain.{IsReadAgain}
use Rattle.module_rewrites.specs.Scope.{Scope, IsMarked, wanted_of}
use Rattle.module_rewrites.specs.Size.{IsSmallEnough}
use Rattle.module_rewrites.specs.Writing.{Exceeds, IsNoSmaller, EntryIsWritten}
use Rattle.module_rewrites.specs.declared.mutation.MutationError.{MutationError}
use Rattle.module_rewrites.specs.declared.mutation.MutationError.TheVariants as mutations

-- the function with that index may be rewritten: it is the one that was named, or none was
abbrev pub IsChosen : Option ℕ → ℕ → Type 0
IsChosen None index = Unit {0}
IsChosen (Some function) index = index ≡ function

-- The new bytes are the module with an operator of its n-th code entry rewritten in its place by one of the rules, as some words choose: its locals stand as
-- they stood, what stands round the new code runs as before, and the globals that it asks for are appended. They are read again so. Where it is to make the
-- module smaller, it leaves no more operators.
pub record MutatesEntry (scope : Scope) (bytes : List ℕ) (info : Module) (layout : Layout) (n : ℕ) (rewrite : Rewrite) (new : List ℕ) : Type 0 where
  pub locals : List PrimitiveTypeInfo
  pub expression : ℕ
  pub operators : List (Operator × ℕ)
  pub function : IsFunction bytes info layout n locals expression operators
  pub body : List ℕ
  pub more : List PrimitiveTypeInfo
  pub stream : Stream
  pub after : Stream
  pub rewritten : AppendsByWords (context_in info locals) stream scope.rules (wanted_of scope) bytes operators rewrite [] body more after
  pub written : IsRewritten bytes layout n (slice_range bytes function.entry.contents expression ++ body) more new
  pub again : IsReadAgain bytes info layout n locals (without_offsets rewritten.appends.written.spliced.again) more new

-- The same of one of its code entries, that of the function with this index among all functions.
abbrev pub MutatesOne : Scope → (bytes : List ℕ) → Module → Layout → (function : ℕ) → Rewrite → (new : List ℕ) → Type 0
MutatesOne scope bytes info layout function rewrite new =
    (n : ℕ) × (function ≡ layout.imported_functions + n) × MutatesEntry scope bytes info layout n rewrite new

-- The same of the bytes of a module, exact or not as the scope says, at a function that may be rewritten; and the new module is small enough.
pub record IsMutated (scope : Scope) (bytes : List ℕ) (function : ℕ) (rewrite : Rewrite) (new : List ℕ) : Type 0 where
  pub info : Module
  pub layout : Layout
  pub is : IsModule bytes info layout
  pub marked : IsMarked scope info
  pub chosen : IsChosen scope.function function
  pub fits : IsSmallEnough scope bytes new
  pub mutates : MutatesOne scope bytes info layout function rewrite new

-- No rewrite can be made in the n-th code entry: it spells no function that can be read, or one of whose operators no rule rewrites any; where rewrites are to
-- make the module smaller, so that there are no more than before.
abbrev pub HasNoMutation : Scope → (bytes : List ℕ) → Module → Layout → (n : ℕ) → Type 0
HasNoMutation scope bytes info layout n =
    (locals : List PrimitiveTypeInfo) (expression : ℕ) (operators : List (Operator × ℕ)) → IsFunction bytes info layout n locals expression operators →
    HasNoRewrite (context_in info locals) scope.rules (wanted_of scope) operators

-- No rewrite can be made in any function that may be rewritten, of the module that is exact or not as the scope says.
pub record CannotMutate (scope : Scope) (bytes : List ℕ) : Type 0 where
  pub info : Module
  pub layout : Layout
  pub is : IsModule bytes info layout
  pub marked : IsMarked scope info
  pub none : (n : ℕ) → n < length layout.entries → IsChosen scope.function (layout.imported_functions + n) →
      HasNoMutation scope bytes info layout n

-- for a private function: the offset lies in the bytes, at or behind the start of the entry's contents
pub record IsBehindLocals (bytes : List ℕ) (entry : Entry) (expression : ℕ) : Type 0 where
  pub behind : entry.contents ≤ expression
  pub ends : expression ≤ length bytes

-- Why there is no module with the n-th code entry rewritten: what a rewrite writes doesn't fit 32 bits, has too many bytes or isn't smaller, or for want of
-- memory. Never for the type of a global: a rewrite asks for those of numbers alone.
abbrev pub RefusesEntry : Scope → (bytes : List ℕ) → Module → Layout → (n : ℕ) → MutationError → Type 0
RefusesEntry scope bytes info layout n (mutations.Read e) = ⊥
RefusesEntry scope bytes info layout n mutations.Memory = Unit {0}
RefusesEntry scope bytes info layout n (mutations.Write writes.TooLarge) = EntryIsWritten scope bytes info layout n (IsTooLarge bytes layout n)
RefusesEntry scope bytes info layout n (mutations.Write writes.EmptyType) = ⊥
RefusesEntry scope bytes info layout n (mutations.Write writes.Memory) = Unit {0}
RefusesEntry scope bytes info layout n mutations.TooLong = EntryIsWritten scope bytes info layout n (Exceeds scope bytes layout n)
RefusesEntry scope bytes info layout n mutations.NotSmaller =
    (scope.shrinking ≡ true) × EntryIsWritten scope bytes info layout n (IsNoSmaller bytes layout n)

-- The same of the bytes of a module, at a function that may be rewritten.
pub record RefusesChosenEntry (scope : Scope) (bytes : List ℕ) (e : MutationError) : Type 0 where
  pub info : Module
  pub layout : Layout
  pub is : IsModule bytes info layout
  pub marked : IsMarked scope info
  pub n : ℕ
  pub inside : n < length layout.entries
  pub chosen : IsChosen scope.function (layout.imported_functions + n)
  pub refuses : RefusesEntry scope bytes info layout n e

-- Why there is no new module: the bytes are none that can be read, or a code entry that may be rewritten is refused.
abbrev pub RefusesMutation : Scope → (bytes : List ℕ) → MutationError → Type 0
RefusesMutation scope bytes (mutations.Read e) = IsModuleFault bytes e.kind e.offset
RefusesMutation scope bytes e = RefusesChosenEntry scope bytes e

-- ---- for private functions

-- the new bytes are a module rewritten at the function with the index, of which this was read but for its bytes, exact or not as the scope says
abbrev pub WasRewrittenAt : Scope → Module → Layout → (function : ℕ) → (new : List ℕ) → Type 0
WasRewrittenAt scope info layout function new =
    (n : ℕ) × (function ≡ layout.imported_functions + n) × WasRewritten info layout n new × IsMarked scope info

-- the rewrite's module isn't small enough: another rewrite may fit
abbrev pub IsOfSize : MutationError → Type 0
IsOfSize (mutations.Write writes.TooLarge) = Unit {0}
IsOfSize mutations.TooLong = Unit {0}
IsOfSize mutations.NotSmaller = Unit {0}
IsOfSize e = ⊥

-- so it is
abbrev pub IsRefusedForSize : {A : Type 0} → Result A MutationError → Type 0
IsRefusedForSize (Ok made) = ⊥
IsRefusedForSize (Err e) = IsOfSize e

-- an attempt was in vain: no rewrite can be made, or the one that words chose doesn't fit
abbrev pub IsInVain : {A : Type 0} → Result (Option A) MutationError → Type 0
IsInVain (Ok None) = Unit {0}
IsInVain (Ok (Some made)) = ⊥
IsInVain (Err e) = IsOfSize e

-- what several attempts in vain come to: the last refusal, if one was refused
abbrev pub last_refusal_of : {A : Type 0} → (before after : Result (Option A) MutationError) → Result (Option A) MutationError
last_refusal_of before (Ok None) = before
last_refusal_of before after = after
