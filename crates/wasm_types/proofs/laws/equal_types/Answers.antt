use Rattle.wasm_types.specs.laws.Equality.{types_equal}
use Rattle.wasm_types.proofs.laws.equal_types.Goals as goal

pub returns : goal.returns
returns c = types_equal
