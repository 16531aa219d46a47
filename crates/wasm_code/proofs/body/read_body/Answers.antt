use Rattle.wasm_code.proofs.BodyLemmas.{only, body}
use Rattle.wasm_code.proofs.body.read_body.Goals as goal

pub returns-clause-found : goal.returns-clause-found
returns-clause-found c = body _ _ c.operators_of.result c.operators_of.ensures.found c.operators_of.ensures.read

pub returns-clause-only : goal.returns-clause-only
returns-clause-only c xs p = only _ _ c.args.to _ c.operators_of.result xs c.operators_of.ensures.found c.operators_of.ensures.fault
    (record { all = p.all; last = p.last }) p.known
