use Rattle.std.proofs.Common.{◌≤◌, length}
use Rattle.wasm_lists.specs.Reader.{ReadsGroups}
use Rattle.wasm_lists.proofs.locals.with_groups.Given as goal

abbrev pub invariant-loop : goal.invariant-loop
invariant-loop l = record {
  reads : ReadsGroups l.fn.types.items l.counter l.bytes l.types.items l.rest;
  within : length l.rest ≤ length l.bytes;
}
