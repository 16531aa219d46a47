use Rattle.wasm_lists.proofs.GlobalLemmas.{global_exact}
use Rattle.wasm_lists.proofs.globals.GlobalsItem.items_are_read.Goals as goal

pub returns : goal.returns
returns c = global_exact c.parts_are_read.ensures.operators
