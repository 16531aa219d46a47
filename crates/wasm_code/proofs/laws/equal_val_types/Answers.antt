use Rattle.wasm_code.specs.ValTypeEquality.{val_types_equal}
use Rattle.wasm_code.proofs.laws.equal_val_types.Goals as goal

pub returns : goal.returns
returns c = val_types_equal
