-- The first one can't be read, and none behind it.
use Rattle.std.proofs.Common.{inl, inr, subst, arith}
use Rattle.std.proofs.lemmas.Bool.{cases_eq}
use Rattle.module_rewrites.specs.Attempt.{CanRead}
use Rattle.module_rewrites.proofs.attempt.first_unread.Goals as goal

pub returns-clause-none : goal.returns-clause-none
returns-clause-none c n low high can = elim (cases_eq n c.args.entries.start) [
  | inl same ↦
      let here = subst (λ k. CanRead c.args.bytes.now c.args.info.now c.args.layout.now k) same can in
      let memory = c.is_memory.ensures.1 (c.in-Err.ensures.only here.locals here.expression here.operators here.is) in
      let other = c.if-is_memory.false in
      absurd cc
  | inr other ↦ c.in_ok-can_read_any.ensures.none c.if-branch.false n (omega (arith, low, other)) high can
]
