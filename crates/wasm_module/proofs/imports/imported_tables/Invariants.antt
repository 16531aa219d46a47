use Rattle.std.proofs.Common.{◌≡◌, ◌++◌, drop}
use Rattle.wasm_module.specs.Module.{tables_of}
use Rattle.wasm_module.proofs.imports.imported_tables.Given as goal

abbrev pub invariant-loop-import : goal.invariant-loop-import
invariant-loop-import l = l.all.items ++ tables_of (drop l.import-index l.imports) ≡ tables_of l.imports
