use Rattle.std.proofs.Common.{◌≡◌, ◌-◌}
use Rattle.wasm_code.specs.Reader.{times_at}
use Rattle.wasm_lists.specs.Reader.{field_at}
use Rattle.wasm_lists.proofs.types.past_fields.Given as goal

abbrev pub invariant-loop : goal.invariant-loop
invariant-loop l = times_at (l.count - l.counter) field_at l.rest ≡ times_at l.count field_at l.bytes
