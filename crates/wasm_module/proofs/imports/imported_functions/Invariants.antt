use Rattle.std.proofs.Common.{◌≡◌, ◌++◌, drop}
use Rattle.wasm_module.specs.Module.{functions_of}
use Rattle.wasm_module.proofs.imports.imported_functions.Given as goal

abbrev pub invariant-loop-import : goal.invariant-loop-import
invariant-loop-import l = l.all.items ++ functions_of (drop l.import-index l.imports) ≡ functions_of l.imports
