use Rattle.std.proofs.Common.{◌≡◌, ◌≤◌, Ok, length}
use Rattle.wasm_lists.specs.Reader.{each_at, entry_at}
use Rattle.wasm_lists.proofs.entries.entries_of.Given as goal

abbrev pub invariant-loop : goal.invariant-loop
invariant-loop l = record {
  reads : each_at l.counter (entry_at l.to) l.bytes ≡ Ok (l.entries.items, l.rest);
  within : length l.rest ≤ length l.bytes;
}
