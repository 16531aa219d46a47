use Rattle.std.proofs.Common.{◌≡◌, ◌+◌, length, drop}
use Rattle.wasm_code.specs.Code.{shortest}
use Rattle.wasm_module.specs.Rewritten.{globals_code}
use Rattle.wasm_module.proofs.globals.globals_size.Given as goal

abbrev pub invariant-loop-tpe : goal.invariant-loop-tpe
invariant-loop-tpe l = l.size + length (globals_code (drop l.tpe-index l.types)) ≡ length (shortest l.count) + (length l.items + length (globals_code l.types))
