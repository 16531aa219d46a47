-- Why a command line says no options (this project).
use Rattle.std.specs.Prelude.{◌≡◌, true, List, None, Some, codes, IfSome}
use Rattle.clap.specs.Walk.{Row, all_of}
use Rattle.clap.specs.declared.error.kind.ErrorKind.{ErrorKind}
use Rattle.clap.specs.declared.error.kind.ErrorKind.TheVariants.{ArgumentConflict, InvalidValue, MissingRequiredArgument, OutOfMemory, ValueValidation}
use Rattle.module_options.specs.Conflicts.{conflict}
use Rattle.module_options.specs.Flags.{first_of, flags_of, tell_nothing}
use Rattle.module_options.specs.Named.{NamesNone, NamesNoChange, IsUnplaced}
use Rattle.module_options.specs.Task.{form_named}
use Rattle.module_options.specs.Values.{have_plus, IsSeedOf, IsNoDose}
use Rattle.module_options.specs.declared.misuse.Misuse.{Misuse}
use Rattle.module_options.specs.declared.misuse.Misuse.TheVariants.{Conflict, NothingToTell, Plus, NoSeed, NoCount, NoForm}
use Rattle.module_options.specs.declared.misuse.Misuse.TheVariants.{UnknownRule, UnknownChange, Unplaced, Memory}

-- Why they are none.
abbrev pub AreMisused : List Row → Misuse → Type 0
AreMisused rows (Conflict one other) = conflict rows ≡ Some (one.now, other.now)
AreMisused rows NothingToTell = tell_nothing (flags_of rows) ≡ true
AreMisused rows Plus = have_plus rows ≡ true
AreMisused rows NoSeed = IfSome (first_of (codes "seed") rows) (λ text. IsSeedOf text None)
AreMisused rows NoCount = IfSome (first_of (codes "count") rows) IsNoDose
AreMisused rows NoForm = IfSome (first_of (codes "list-rules") rows) (λ name. form_named name ≡ None)
AreMisused rows UnknownRule = IfSome (all_of (codes "rule") rows) NamesNone
AreMisused rows UnknownChange = IfSome (first_of (codes "change") rows) NamesNoChange
AreMisused rows Unplaced = IsUnplaced rows
AreMisused rows Memory = Unit {0}

-- how that is told
abbrev pub kind_for : Misuse → ErrorKind
kind_for (Conflict one other) = ArgumentConflict
kind_for NothingToTell = MissingRequiredArgument
kind_for Plus = ValueValidation
kind_for NoSeed = ValueValidation
kind_for NoCount = ValueValidation
kind_for NoForm = InvalidValue
kind_for UnknownRule = InvalidValue
kind_for UnknownChange = InvalidValue
kind_for Unplaced = MissingRequiredArgument
kind_for Memory = OutOfMemory
