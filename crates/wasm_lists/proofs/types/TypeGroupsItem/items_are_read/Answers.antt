use Rattle.wasm_lists.proofs.ItemLemmas.{type_group_exact}
use Rattle.wasm_lists.proofs.types.TypeGroupsItem.items_are_read.Goals as goal

pub returns : goal.returns
returns c = type_group_exact
