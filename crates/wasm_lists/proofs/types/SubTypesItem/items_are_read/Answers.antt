use Rattle.wasm_lists.proofs.ItemLemmas.{sub_type_exact}
use Rattle.wasm_lists.proofs.types.SubTypesItem.items_are_read.Goals as goal

pub returns : goal.returns
returns c = sub_type_exact
