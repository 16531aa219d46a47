use Rattle.std.proofs.Common.{◌≡◌, drop}
use Rattle.wasm_execution.specs.OtherRow.{is_in_span}
use Rattle.wasm_execution.proofs.effects.is_in_span.Given as goal

abbrev pub invariant-loop-span : goal.invariant-loop-span
invariant-loop-span l = is_in_span l.spans l.number ≡ is_in_span (drop l.span-index l.spans) l.number
