-- None of those behind it.
use Rattle.std.proofs.Common.{◌≡◌, ◌+◌, ◌-◌, arith}
use Rattle.body_changes.specs.Body.{ChangesIn}
use Rattle.body_changes.proofs.ChangingLemmas.{none_less}
use Rattle.body_changes.proofs.changing.change_last.Goals as goal

pub returns-in-Some-clause-last : goal.returns-in-Some-clause-last
returns-in-Some-clause-last c =
    let found = rw c.in-Some.is at c.in_ok-changed.ensures.found in
    let at = found.0 in
    let some = c.loop-end-test.true in
    λ k a b. c.loop-end.invariant.1 k (omega (arith, at, some, a)) b

pub loop-end-preserved : goal.loop-end-preserved
loop-end-preserved c =
    let some = c.loop-end-test.true in
    let within = c.loop-end.invariant.0 in
    let is : c.loop-end.end ≡ c.loop-end.end - 1 + 1 = omega (arith, some) in (
      omega (arith, within),
      none_less (ChangesIn c.args.body.now c.args.words.now c.args.change) (c.loop-end.end - 1) c.loop-end.end c.args.range.end is
          c.loop-end.invariant.1 (rw c.in_default.is at c.in_ok-changed.ensures.none),
    )

pub returns-clause-none : goal.returns-clause-none
returns-clause-none c =
    let past = c.loop-end-test.false in
    λ k a b. c.loop-end.invariant.1 k (omega (arith, past, a)) b
