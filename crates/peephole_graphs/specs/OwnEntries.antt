-- The own entries of a block's operators, which follow one another in the body. This project's rule.
use Rattle.std.specs.Prelude.{ℕ, ◌-◌, nat_le, length, slice_get, Option, None, if◌then◌else◌}
use Rattle.peephole_graphs.specs.declared.own_entries.OwnEntries.{OwnEntries}

-- the index of the own entry of the operator with the body's index `k`, none of one before the first or behind the last
abbrev pub own_entry_in : OwnEntries → ℕ → Option ℕ
own_entry_in own k = if nat_le own.first k then slice_get own.entries.items (k - own.first) else None

-- how many operators there are
abbrev pub operator_count : OwnEntries → ℕ
operator_count own = length own.entries.items
