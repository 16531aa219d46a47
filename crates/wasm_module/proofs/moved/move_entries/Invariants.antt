-- The entries so far are moved.
use Rattle.std.proofs.Common.{◌≡◌, ◌++◌, map, take, drop}
use Rattle.wasm_module.specs.Moved.{moved}
use Rattle.wasm_module.proofs.moved.move_entries.Given as goal

abbrev pub invariant-loop-entry : goal.invariant-loop-entry
invariant-loop-entry l = l.entries ≡ map (moved l.from l.to) (take l.entry-index l.initial.entries) ++ drop l.entry-index l.initial.entries
