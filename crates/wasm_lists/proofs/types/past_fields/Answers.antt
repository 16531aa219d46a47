use Rattle.std.proofs.Common.{◌∙◌, sym}
use Rattle.wasm_lists.proofs.TimesLemmas.{goes_on, fails, done}
use Rattle.wasm_lists.proofs.types.past_fields.Goals as goal

pub returns-in-Err : goal.returns-in-Err
returns-in-Err c = sym c.loop.invariant ∙ fails _ _ _ _ _ c.loop-test.true c.in-Err.ensures

pub loop-preserved : goal.loop-preserved
loop-preserved c = sym (goes_on _ _ _ _ _ _ c.loop-test.true c.in-Ok.ensures) ∙ c.loop.invariant

pub returns : goal.returns
returns c = sym c.loop.invariant ∙ done _ _ _ _ c.loop-test.false
