use Rattle.std.proofs.Common.{◌≡◌, drop}
use Rattle.wasm_execution.specs.OtherRow.{by_spans}
use Rattle.wasm_execution.proofs.operand.by_spans.Given as goal

abbrev pub invariant-loop-span : goal.invariant-loop-span
invariant-loop-span l = by_spans l.spans l.number ≡ by_spans (drop l.span-index l.spans) l.number
