use Rattle.wasm_lists.proofs.ItemLemmas.{import_exact}
use Rattle.wasm_lists.proofs.imports.ImportsItem.items_are_read.Goals as goal

pub returns : goal.returns
returns c = import_exact
