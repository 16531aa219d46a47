-- How many of the types so far are that one.
use Rattle.std.proofs.Common.{◌≡◌, ◌≤◌, take}
use Rattle.std.specs.Prelude.{count_by}
use Rattle.wasm_execution.specs.Values.{same_type}
use Rattle.body_changes.proofs.variables.count_of.Given as goal

abbrev pub invariant-loop-i : goal.invariant-loop-i
invariant-loop-i l = record { is : l.count ≡ count_by (same_type l.fn.wanted) (take l.i l.types); small : l.count ≤ l.i }
