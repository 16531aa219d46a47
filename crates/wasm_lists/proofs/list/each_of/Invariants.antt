use Rattle.std.proofs.Common.{◌≡◌, ◌≤◌, Ok, length}
use Rattle.wasm_lists.specs.Reader.{each_at}
use Rattle.wasm_lists.proofs.list.each_of.Given as goal

abbrev pub invariant-loop : goal.invariant-loop
invariant-loop g l = record { reads : each_at l.counter g.T.Item.at l.bytes ≡ Ok (l.items.items, l.rest); within : length l.rest ≤ length l.bytes }
