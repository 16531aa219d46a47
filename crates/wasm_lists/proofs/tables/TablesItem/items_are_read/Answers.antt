use Rattle.wasm_lists.proofs.GlobalLemmas.{table_exact}
use Rattle.wasm_lists.proofs.tables.TablesItem.items_are_read.Goals as goal

pub returns : goal.returns
returns c = table_exact c.parts_are_read.ensures.operators
