use Rattle.std.proofs.Common.{◌≡◌, ◌++◌, drop}
use Rattle.wasm_module.specs.Module.{globals_of}
use Rattle.wasm_module.proofs.imports.imported_globals.Given as goal

abbrev pub invariant-loop-import : goal.invariant-loop-import
invariant-loop-import l = l.all.items ++ globals_of (drop l.import-index l.imports) ≡ globals_of l.imports
