-- The exit status of a run that has no success (this project).
use Rattle.std.specs.Prelude.{ℕ}
use Rattle.module_changes.specs.declared.refusal.Refusal.{Refusal}
use Rattle.module_changes.specs.declared.refusal.Refusal.TheVariants as refusals
use Rattle.module_rewrites.specs.declared.attempt.Reason.{Reason}
use Rattle.module_rewrites.specs.declared.attempt.Reason.TheVariants.{NoRule, NoOwnFunction, Unreadable, NoFunction, UnknownImport, Refused}
use Rattle.module_commands.specs.declared.failure.Failure.{Failure}
use Rattle.module_commands.specs.declared.failure.Failure.TheVariants.{Nothing, Unchanged, Input, TooLong, Component, TextFormat, SharedMemory, Output, Memory}

-- 1 where the module is refused, 2 where no rule applies or it has no function of its own, 3 where there is no function that can be read
abbrev pub status_for : Reason → ℕ
status_for NoRule = 2
status_for NoOwnFunction = 2
status_for (Unreadable e) = 3
status_for (NoFunction index) = 3
status_for (UnknownImport e) = 3
status_for (Refused e) = 1

-- the same where nothing is changed
abbrev pub status_for_change : Refusal → ℕ
status_for_change refusals.NoChange = 2
status_for_change (refusals.NoFunction index) = 3
status_for_change (refusals.UnknownImport e) = 3
status_for_change (refusals.Read e) = 1
status_for_change refusals.TooLarge = 1
status_for_change refusals.Memory = 1

-- that of the reason where there is one, else 1
abbrev pub status_of : Failure → ℕ
status_of (Nothing reason) = status_for reason
status_of (Unchanged refusal) = status_for_change refusal
status_of Input = 1
status_of TooLong = 1
status_of Component = 1
status_of TextFormat = 1
status_of SharedMemory = 1
status_of Output = 1
status_of Memory = 1
