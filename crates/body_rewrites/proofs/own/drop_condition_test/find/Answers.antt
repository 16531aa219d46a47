-- By what stands before the test, and behind it.
use Rattle.std.proofs.Common.{◌-◌, refl, ap, ◌∙◌, arith}
use Rattle.std.specs.Prelude.{Some}
use Rattle.wasm_code.specs.declared.operator.Operator.{Operator}
use Rattle.rewrite_rules.specs.Flow.{zero_code, ne_code}
use Rattle.body_rewrites.proofs.FlowFindLemmas.{no_test, asked_before, is_tested}
use Rattle.body_rewrites.proofs.own.drop_condition_test.find.Goals as goal

pub returns-in_default : goal.returns-in_default
returns-in_default c = λ context trees.
    no_test context c.args.operators.now c.args.at (λ start end h.
    c.in_default.ensures.none context trees start
    (asked_before context c.args.operators.now c.args.at start (c.args.at - 2) end zero_code ne_code (omega (arith, c.if-at-lt2.false)) h))

pub returns : goal.returns
returns c = λ context trees. (
  refl,
  is_tested context c.args.operators.now c.args.at c.in-Some.start (c.args.at - 2) (c.args.at - 1) zero_code ne_code (omega (arith, c.if-at-lt2.false))
      (omega (arith, c.if-at-lt2.false)) (let h = c.has_item.ensures.same c.if-not-has_item.false in h.has ∙ ap (λ (o : Operator). Some o) h.is)
      (c.is_bare_at.ensures.0 c.if-not-is_bare_at.false) (c.in-Some.ensures.some context trees),
)
