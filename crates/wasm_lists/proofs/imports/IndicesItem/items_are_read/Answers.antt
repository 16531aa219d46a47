use Rattle.wasm_code.specs.laws.NumberExact.{unsigned_exact}
use Rattle.wasm_lists.proofs.imports.IndicesItem.items_are_read.Goals as goal

pub returns : goal.returns
returns c = unsigned_exact 32
