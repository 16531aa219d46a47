use Rattle.wasm_code.specs.laws.OrderLemmas.{val_types_in_order}
use Rattle.wasm_code.proofs.laws.val_types_are_ordered.Goals as goal

pub returns : goal.returns
returns c = val_types_in_order
