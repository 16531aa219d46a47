-- Why a run has no success (this project).
use Rattle.std.specs.Prelude.{◌≡◌, ◌≢◌, ◌⊎◌, ℕ, ◌<◌, nat_le, ◌&&◌, Bool, true, false, List, length, Option, Some, None, IfSome}
use Rattle.std.specs.List.{list_any}
use Rattle.wasm_types.specs.Module.{Module}
use Rattle.wasm_types.specs.declared.types.MemoryType.{MemoryType}
use Rattle.wasm_module.specs.Fault.{IsModuleFault}
use Rattle.wasm_module.specs.Module.{Layout, IsModule}
use Rattle.module_changes.specs.Placed.{RefusesAt}
use Rattle.module_changes.specs.Times.{IsRefusal}
use Rattle.module_changes.specs.declared.placed.ChangeAt.{ChangeAt}
use Rattle.module_changes.specs.declared.refusal.Refusal.{Refusal}
use Rattle.module_changes.specs.declared.refusal.Refusal.TheVariants as refusals
use Rattle.module_rewrites.specs.Attempt.{IsForSize, IsReason, RefusesIndexOf}
use Rattle.module_rewrites.specs.Chosen.{GivesUp}
use Rattle.module_rewrites.specs.Dose.{IsOfReading}
use Rattle.module_rewrites.specs.Seeded.{seeded}
use Rattle.module_rewrites.specs.declared.attempt.Reason.{Reason}
use Rattle.module_rewrites.specs.declared.attempt.Reason.TheVariants.{NoRule, NoOwnFunction, Unreadable, NoFunction, UnknownImport, Refused}
use Rattle.module_rewrites.specs.declared.mutation.MutationError.TheVariants.{Read, NotSmaller}
use Rattle.module_commands.specs.Front.{is_component, is_text}
use Rattle.module_options.specs.Scope.{change_scope_of, scope_of}
use Rattle.module_commands.specs.declared.failure.Failure.{Failure}
use Rattle.module_commands.specs.declared.failure.Failure.TheVariants.{Nothing, Unchanged, Input, TooLong, Component, TextFormat, SharedMemory, Output, Memory}
use Rattle.module_options.specs.declared.options.Options.{Options}
use Rattle.module_options.specs.declared.task.Task.{Task}
use Rattle.module_options.specs.declared.task.Task.TheVariants.{Rewrite, Change, List as Lists, Sites, Blocks, Rules, Changes}

-- threads share one of the memories
abbrev pub is_any_shared : List MemoryType → Bool
is_any_shared memories = list_any (λ memory. memory.shared) memories

-- the module can't be read: it is refused
abbrev pub FailsToRead : (bytes : List ℕ) → Failure → Type 0
FailsToRead bytes (Nothing (Refused (Read e))) = IsModuleFault bytes e.kind e.offset
FailsToRead bytes e = ⊥

-- nothing more is reported: what is reported can't be written, or no memory is left
abbrev pub FailsToReport : Failure → Type 0
FailsToReport Output = Unit {0}
FailsToReport Memory = Unit {0}
FailsToReport e = ⊥

-- the module isn't reported on: as it is refused, or as reporting fails
abbrev pub FailsToInform : (bytes : List ℕ) → Failure → Type 0
FailsToInform bytes (Nothing reason) = FailsToRead bytes (Nothing reason)
FailsToInform bytes e = FailsToReport e

-- the input isn't read, whose bytes may be known: the reader fails, they are more than 1 GiB, or no memory is left
abbrev pub FailsToTake : (input : Option (List ℕ)) → Failure → Type 0
FailsToTake input Input = Unit {0}
FailsToTake input TooLong = IfSome input (λ bytes. 1073741824 < length bytes)
FailsToTake input Memory = Unit {0}
FailsToTake input e = ⊥

-- The module is written as it is for that reason, where rewrites are to make it smaller: no rule applies, or it would be no smaller with each rewrite that is
-- drawn, and has no more bytes than it may (`fits`).
abbrev pub leaves : (shrink fits : Bool) → Reason → Bool
leaves shrink fits NoRule = shrink
leaves shrink fits NoOwnFunction = shrink
leaves shrink fits (Refused NotSmaller) = shrink && fits
leaves shrink fits reason = false

-- the same by the options
abbrev pub leaves_by : Options → (bytes : List ℕ) → Reason → Bool
leaves_by options bytes reason = leaves options.shrink (nat_le (length bytes) options.max_size) reason

-- nothing of the module is rewritten for that reason, and it isn't written as it is; for a size only where the words that the seed gives choose no rewrite
-- that fits
pub record IsReasonFor (options : Options) (bytes : List ℕ) (reason : Reason) : Type 0 where
  pub is : IsReason (scope_of options) bytes reason
  pub left : leaves_by options bytes reason ≡ false
  pub gives_up : IsForSize reason → GivesUp (scope_of options) bytes (seeded options.seed)

-- no rewritten module is made: for a reason why nothing of it is rewritten, or no memory is left
abbrev pub FailsToMake : Options → (bytes : List ℕ) → Failure → Type 0
FailsToMake options bytes (Nothing reason) = IsReasonFor options bytes reason
FailsToMake options bytes Memory = Unit {0}
FailsToMake options bytes e = ⊥

-- The module isn't written rewritten: for such a reason, or as reporting or writing fails.
abbrev pub FailsToRewrite : Options → (bytes : List ℕ) → Failure → Type 0
FailsToRewrite options bytes (Nothing reason) = IsReasonFor options bytes reason
FailsToRewrite options bytes e = FailsToReport e

-- how many changes are wanted of the module isn't known, or what is told of it before, since it can't be read
abbrev pub IsReasonToChangeNone : Options → (bytes : List ℕ) → Reason → Type 0
IsReasonToChangeNone options bytes reason = (IsReason (scope_of options) bytes reason × IsOfReading reason) ⊎ FailsToRead bytes (Nothing reason)

-- why none of the changes is made: of the operators that the options name, or as their seed chooses them
abbrev pub IsWhyUnchanged : (place : Option ChangeAt) → Options → (bytes : List ℕ) → Refusal → Type 0
IsWhyUnchanged None options bytes refusal = IsRefusal (change_scope_of options) bytes (seeded options.seed) refusal
IsWhyUnchanged (Some at) options bytes refusal = RefusesAt at options.max_size bytes refusal

-- The module isn't written changed: for such a reason, for the one why none of the changes is made, or as reporting or writing fails.
abbrev pub FailsToChange : Options → (bytes : List ℕ) → Failure → Type 0
FailsToChange options bytes (Nothing reason) = IsReasonToChangeNone options bytes reason
FailsToChange options bytes (Unchanged refusal) =
    (refusal ≢ refusals.Memory) × IsWhyUnchanged options.place options bytes refusal
FailsToChange options bytes e = FailsToReport e

-- why nothing is listed: no function is looked at, or the module can't be read
abbrev pub IsReasonToListNone : (only : Option ℕ) → (bytes : List ℕ) → Reason → Type 0
IsReasonToListNone only bytes NoRule = ⊥
IsReasonToListNone only bytes NoOwnFunction = ⊥
IsReasonToListNone only bytes (Unreadable e) = ⊥
IsReasonToListNone only bytes (NoFunction function) = RefusesIndexOf only bytes (NoFunction function)
IsReasonToListNone only bytes (UnknownImport e) = RefusesIndexOf only bytes (UnknownImport e)
IsReasonToListNone only bytes (Refused e) = FailsToRead bytes (Nothing (Refused e))

-- No list is written: for such a reason, or as writing fails.
abbrev pub FailsToList : (only : Option ℕ) → (bytes : List ℕ) → Failure → Type 0
FailsToList only bytes (Nothing reason) = IsReasonToListNone only bytes reason
FailsToList only bytes e = FailsToReport e

-- what a run was asked for isn't done with the bytes that were read
abbrev pub FailsAtTask : Task → Options → (bytes : List ℕ) → Failure → Type 0
FailsAtTask Rewrite options bytes e = FailsToRewrite options bytes e
FailsAtTask Change options bytes e = FailsToChange options bytes e
FailsAtTask Lists options bytes e = FailsToList options.function bytes e
FailsAtTask Sites options bytes e = FailsToList options.function bytes e
FailsAtTask Blocks options bytes e = FailsToList options.function bytes e
FailsAtTask (Rules form) options bytes e = FailsToReport e
FailsAtTask Changes options bytes e = FailsToReport e

-- Threads share a memory of the module with these bytes, what runs which is to be exact.
pub record SharesMemory (bytes : List ℕ) : Type 0 where
  pub info : Module
  pub layout : Layout
  pub is : IsModule bytes info layout
  pub exact : info.exact ≡ true
  pub shared : is_any_shared info.memories ≡ true

-- what runs the module can't be exact: threads share a memory of it, or no memory is left
abbrev pub FailsToBeExact : (bytes : List ℕ) → Failure → Type 0
FailsToBeExact bytes SharedMemory = SharesMemory bytes
FailsToBeExact bytes Memory = Unit {0}
FailsToBeExact bytes e = ⊥

-- no module is taken from the input, whose bytes may be known: it isn't read, it is a component or a text, or what runs it is to be exact, and can't be
abbrev pub FailsToTakeModule : (exact : Bool) → (input : Option (List ℕ)) → Failure → Type 0
FailsToTakeModule exact input SharedMemory = (exact ≡ true) × IfSome input SharesMemory
FailsToTakeModule exact input Component = IfSome input (λ bytes. is_component bytes ≡ true)
FailsToTakeModule exact input TextFormat = IfSome input (λ bytes. is_text bytes ≡ true)
FailsToTakeModule exact input e = FailsToTake input e

-- the input is at fault: its reader, its length, that it is a component or a text, or that threads share a memory of it
abbrev pub IsOfInput : Failure → Type 0
IsOfInput Input = Unit {0}
IsOfInput TooLong = Unit {0}
IsOfInput Component = Unit {0}
IsOfInput TextFormat = Unit {0}
IsOfInput SharedMemory = Unit {0}
IsOfInput e = ⊥

-- the bytes are neither a component nor a text
abbrev pub IsNoOther : (bytes : List ℕ) → Type 0
IsNoOther bytes = (is_component bytes ≡ false) × (is_text bytes ≡ false)

-- the task is one with a module
abbrev pub TakesModule : Task → Type 0
TakesModule (Rules form) = ⊥
TakesModule Changes = ⊥
TakesModule task = Unit {0}

-- A run fails: as the input isn't read, since it is a component or a text, as what runs it is to be exact and threads share a memory of it,
-- or as its task fails;
-- for a reason of the module only where it is neither.
abbrev pub FailsToDo : Task → Options → (bytes : List ℕ) → Failure → Type 0
FailsToDo task options bytes Input = Unit {0}
FailsToDo task options bytes TooLong = 1073741824 < length bytes
FailsToDo task options bytes Component = is_component bytes ≡ true
FailsToDo task options bytes TextFormat = is_text bytes ≡ true
FailsToDo task options bytes SharedMemory = (options.exact ≡ true) × SharesMemory bytes
FailsToDo task options bytes (Nothing reason) = IsNoOther bytes × FailsAtTask task options bytes (Nothing reason)
FailsToDo task options bytes (Unchanged refusal) = IsNoOther bytes × FailsAtTask task options bytes (Unchanged refusal)
FailsToDo task options bytes e = FailsAtTask task options bytes e
