use Rattle.std.proofs.Common.{◌≡◌, ◌-◌}
use Rattle.wasm_code.specs.Reader.{times_at, catch_at}
use Rattle.wasm_code.proofs.other.past_catches.Given as goal

abbrev pub invariant-loop : goal.invariant-loop
invariant-loop l = times_at (l.count - l.counter) catch_at l.rest ≡ times_at l.count catch_at l.bytes
