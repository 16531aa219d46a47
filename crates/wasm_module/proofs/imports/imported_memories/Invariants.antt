use Rattle.std.proofs.Common.{◌≡◌, ◌++◌, drop}
use Rattle.wasm_module.specs.Module.{memories_of}
use Rattle.wasm_module.proofs.imports.imported_memories.Given as goal

abbrev pub invariant-loop-import : goal.invariant-loop-import
invariant-loop-import l = l.all.items ++ memories_of (drop l.import-index l.imports) ≡ memories_of l.imports
