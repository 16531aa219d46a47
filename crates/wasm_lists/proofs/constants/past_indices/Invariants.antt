use Rattle.std.proofs.Common.{◌≡◌, ◌-◌}
use Rattle.wasm_code.specs.Reader.{times_at, unsigned_at}
use Rattle.wasm_lists.proofs.constants.past_indices.Given as goal

abbrev pub invariant-loop : goal.invariant-loop
invariant-loop l = times_at (l.count - l.counter) (unsigned_at 32) l.rest ≡ times_at l.count (unsigned_at 32) l.bytes
