use Rattle.std.proofs.Common.{◌∙◌, sym}
use Rattle.wasm_code.proofs.NumberLemmas.{begins, goes_on, found, ended, full}
use Rattle.wasm_code.proofs.number.group_of.Goals as goal

pub loop-i-init : goal.loop-i-init
loop-i-init c = begins _ _

pub returns-then-i-bytes-clause-gives : goal.returns-then-i-bytes-clause-gives
returns-then-i-bytes-clause-gives c = sym c.loop-i.invariant ∙ ended _ _ _ c.loop-i-test.true c.if-i-bytes.true

pub returns-then-bytes-i-lt-GOES_ON-clause-gives : goal.returns-then-bytes-i-lt-GOES_ON-clause-gives
returns-then-bytes-i-lt-GOES_ON-clause-gives c = let e = sym c.loop-i.invariant
    ∙ found _ _ _ c.loop-i-test.true c.if-i-bytes.false c.if-bytes-i-lt-GOES_ON.true in rw (c.split_at.ensures.front, c.split_at.ensures.back) e

pub loop-i-preserved : goal.loop-i-preserved
loop-i-preserved c = sym (goes_on _ _ _ c.loop-i-test.true c.if-i-bytes.false c.if-bytes-i-lt-GOES_ON.false) ∙ c.loop-i.invariant

pub returns-clause-gives : goal.returns-clause-gives
returns-clause-gives c = sym c.loop-i.invariant ∙ full _ _ _ c.loop-i-test.false
