use Rattle.wasm_lists.proofs.ValueLemmas.{primitive_exact}
use Rattle.wasm_lists.proofs.value_types.ValueTypesItem.items_are_read.Goals as goal

pub returns : goal.returns
returns c = primitive_exact
