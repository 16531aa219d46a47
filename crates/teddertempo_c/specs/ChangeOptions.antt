-- What options ask for of a call that changes a module (this project).
use Rattle.std.specs.Prelude.{◌⊎◌, ℕ, ◌≤◌, ◌^◌, Bool, eqb, ◌||◌, List, length, if◌then◌else◌}
use Rattle.std.specs.List.{filter}
use Rattle.body_changes.specs.declared.change.Change.{Change}
use Rattle.body_changes.specs.declared.change.Change.TheVariants as change
use Rattle.body_changes.specs.declared.change.TheConstants.{CHANGES}
use Rattle.module_changes.specs.Scope.{Scope}
use Rattle.teddertempo_c.specs.Options.{IsMisused, function_of, has_bit, most_of}
use Rattle.teddertempo_c.specs.declared.change_options.ChangeOptions.{ChangeOptions}
use Rattle.teddertempo_c.specs.declared.options.TheConstants.{NO_GROWTH}

-- the header's constants
abbrev pub change_number : Change → ℕ
change_number change.Constant = 0
change_number change.Operator = 1
change_number change.Local = 2
change_number change.Draw = 3
change_number change.Copy = 4
change_number change.FirstOperand = 5
change_number change.LastOperand = 6
change_number change.ExchangeOperands = 7
change_number change.Delete = 8
change_number change.Double = 9
change_number change.ExchangeStatements = 10
change_number change.Global = 11
change_number change.Call = 12
change_number change.MemoryArgument = 13

-- the change may be made: its bit is set, or none is
abbrev pub allows : ChangeOptions → Change → Bool
allows options change = eqb options.changes 0 || has_bit options.changes (change_number change)

-- The changes that may be made, in the order of all changes.
abbrev pub changes_of : ChangeOptions → List Change
changes_of options = filter (allows options) CHANGES

-- The options are refused.
abbrev pub AreBad : ChangeOptions → Type 0
AreBad options = IsMisused options.growth options.flags NO_GROWTH options.reserved ⊎ (2 ^ length CHANGES ≤ options.changes)

-- how many changes are made, at most
abbrev pub count_of : ChangeOptions → ℕ
count_of options = if eqb options.count 0 then 1 else options.count

-- what the options ask for of a module of `size` bytes, in a buffer with that much room
abbrev pub scope_of_change_options : ChangeOptions → (size room : ℕ) → Scope
scope_of_change_options options size room = record {
  changes = changes_of options;
  function = function_of options.only;
  most = 8;
  size = most_of options.growth options.flags size room;
}
