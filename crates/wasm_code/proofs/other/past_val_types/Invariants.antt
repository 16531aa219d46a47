use Rattle.std.proofs.Common.{◌≡◌, ◌-◌}
use Rattle.wasm_code.specs.Reader.{times_at, any_val_type_at}
use Rattle.wasm_code.proofs.other.past_val_types.Given as goal

abbrev pub invariant-loop : goal.invariant-loop
invariant-loop l = times_at (l.count - l.counter) any_val_type_at l.rest ≡ times_at l.count any_val_type_at l.bytes
