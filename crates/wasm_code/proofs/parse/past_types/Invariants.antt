use Rattle.std.proofs.Common.{◌≡◌, ◌-◌}
use Rattle.wasm_code.specs.Reader.{times_at, val_type_at}
use Rattle.wasm_code.proofs.parse.past_types.Given as goal

abbrev pub invariant-loop : goal.invariant-loop
invariant-loop l = times_at (l.count - l.counter) val_type_at l.rest ≡ times_at l.count val_type_at l.bytes
