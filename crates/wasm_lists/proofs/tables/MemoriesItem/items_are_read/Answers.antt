use Rattle.wasm_lists.proofs.ItemLemmas.{memory_type_exact}
use Rattle.wasm_lists.proofs.tables.MemoriesItem.items_are_read.Goals as goal

pub returns : goal.returns
returns c = memory_type_exact
