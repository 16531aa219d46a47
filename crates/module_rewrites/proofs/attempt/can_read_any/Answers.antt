-- No function so far can be read.
use Rattle.std.proofs.Common.{inl, inr, subst, arith}
use Rattle.std.proofs.lemmas.Bool.{cases_eq}
use Rattle.module_rewrites.specs.Attempt.{CanRead}
use Rattle.module_rewrites.proofs.attempt.can_read_any.Goals as goal

pub loop-n-preserved : goal.loop-n-preserved
loop-n-preserved c n low high can = elim (cases_eq n c.loop-n.n) [
  | inl same ↦
      let here = subst (λ k. CanRead c.args.bytes.now c.args.info.now c.args.layout.now k) same can in
      let memory = c.is_memory.ensures.1 (c.in-Err.ensures.only here.locals here.expression here.operators here.is) in
      let other = c.if-is_memory.false in
      absurd cc
  | inr other ↦ c.loop-n.invariant n low (omega (arith, high, other)) can
]

pub returns-clause-none : goal.returns-clause-none
returns-clause-none c none n low high can = c.loop-n.invariant n low (omega (arith, high, c.loop-n-test.false)) can
