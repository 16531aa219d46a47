use Rattle.std.proofs.Common.{◌≡◌, ◌++◌, drop}
use Rattle.wasm_module.specs.Rewritten.{globals_code}
use Rattle.wasm_module.proofs.globals.put_new_globals.Given as goal

abbrev pub invariant-loop-tpe : goal.invariant-loop-tpe
invariant-loop-tpe l = l.out.items ++ globals_code (drop l.tpe-index l.types) ≡ l.initial.out.items ++ globals_code l.types
