-- By what stands before the test, and behind it.
use Rattle.std.proofs.Common.{◌-◌, refl, arith}
use Rattle.rewrite_rules.specs.Flow.{eqz_code}
use Rattle.body_rewrites.proofs.FlowFindLemmas.{no_double_test, asked_before, is_tested}
use Rattle.body_rewrites.proofs.own.drop_double_condition.find.Goals as goal

pub returns-in_default : goal.returns-in_default
returns-in_default c = λ context trees.
    no_double_test context c.args.operators.now c.args.at (λ start end h.
    c.in_default.ensures.none context trees start
    (asked_before context c.args.operators.now c.args.at start (c.args.at - 2) end eqz_code eqz_code (omega (arith, c.if-at-lt2.false)) h))

pub returns : goal.returns
returns c = λ context trees. (
  refl,
  is_tested context c.args.operators.now c.args.at c.in-Some.start (c.args.at - 2) (c.args.at - 1) eqz_code eqz_code (omega (arith, c.if-at-lt2.false))
      (omega (arith, c.if-at-lt2.false)) (c.is_bare_at-2.ensures.0 c.if-not-is_bare_at-2.false)
      (c.is_bare_at.ensures.0 c.if-not-is_bare_at.false) (c.in-Some.ensures.some context trees),
)
