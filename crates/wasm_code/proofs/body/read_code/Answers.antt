use Rattle.std.proofs.Common.{refl}
use Rattle.wasm_code.proofs.BodyLemmas.{only}
use Rattle.wasm_code.proofs.body.read_code.Goals as goal

pub returns-clause-only : goal.returns-clause-only
returns-clause-only c xs p = only _ _ c.args.to _ c.operators_of.result xs c.operators_of.ensures.found c.operators_of.ensures.fault p refl
