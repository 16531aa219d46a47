-- The rewrites follow one another.
use Rattle.std.proofs.Common.{◌<◌, ◌∙◌, List, [], ℕ, Err, ap, refl, subst, sym, arith, rules}
use Rattle.std.proofs.lemmas.Result.{err_from_is_err_and}
use Rattle.module_rewrites.specs.Chosen.{ChoosesOfModule, GivesUp}
use Rattle.module_rewrites.specs.Mutated.{IsMutated, IsOfSize, RefusesMutation, WasRewrittenAt}
use Rattle.module_rewrites.specs.declared.mutation.MutationError.TheVariants.{Memory}
use Rattle.module_rewrites.proofs.MutatesLemmas.{first, next, no_room, on_error, on_value, sees_next, stops, times_none, times_stop}
use Rattle.module_rewrites.proofs.times.rewrite_module.Goals as goal

pub returns-in_err-add_made-clause-fails : goal.returns-in_err-add_made-clause-fails
returns-in_err-add_made-clause-fails g c =
    let p = err_from_is_err_and c.from_residual.result c.from_residual.ensures.1 in
    rw (p.1 ∙ ap (λ x. Err x) p.2)
    (no_room c.args.scope.now c.args.bytes.now c.in-Ok.first.mutated.function c.in-Ok.first.mutated.rewrite c.in-Ok.first.mutated.bytes.items
    c.in-Ok.ensures.mutated)

pub returns-in_err-add_made-clause-gives_up : goal.returns-in_err-add_made-clause-gives_up
returns-in_err-add_made-clause-gives_up g c =
    let p = err_from_is_err_and c.from_residual.result c.from_residual.ensures.1 in
    rw (p.1 ∙ ap (λ x. Err x) p.2) (λ size. absurd size)

pub rewrites-init : goal.rewrites-init
rewrites-init g c = (
  first c.args.scope.now c.args.bytes.now (g.R.Rng.stream c.args.generator.now)
      (record { function = c.in-Ok.first.mutated.function; rewrite = c.in-Ok.first.mutated.rewrite })
      c.add_made.new.made.items c.in-Ok.first.mutated.bytes.items (g.R.Rng.stream c.rewrite_first.new.generator) (search rules)
      c.in-Ok.ensures.mutated c.in-Ok.ensures.chosen,
  refl,
  sees_next g.W.Watch.saw c.args.scope.now
      (record { bytes = c.args.bytes.now; stream = g.R.Rng.stream c.args.generator.now; watcher = c.args.watch.now }) []
      c.args.bytes.now (g.R.Rng.stream c.args.generator.now) c.args.watch.now
      (record { function = c.in-Ok.first.mutated.function; rewrite = c.in-Ok.first.mutated.rewrite })
      c.add_made.new.made.items c.in-Ok.first.mutated.bytes.items (g.R.Rng.stream c.rewrite_first.new.generator) c.add_made.new.watch refl (search rules)
      c.in-Ok.ensures.mutated c.in-Ok.ensures.chosen
      c.in_ok-add_made.ensures.seen,
  c.rewritten_modules_do_as_before.ensures.one c.args.scope.now c.args.bytes.now c.in-Ok.first.mutated.bytes.items c.in-Ok.first.mutated.function
      c.in-Ok.first.mutated.rewrite c.in-Ok.ensures.mutated,
  c.in-Ok.ensures.read,
)

pub rewrites-preserved : goal.rewrites-preserved
rewrites-preserved g c =
    let mutated : IsMutated c.args.scope.now c.rewrites.module.bytes.items c.in-Ok-Some.next.mutated.function c.in-Ok-Some.next.mutated.rewrite
    c.in-Ok-Some.next.mutated.bytes.items =
    subst (λ (b : List ℕ). IsMutated c.args.scope.now b c.in-Ok-Some.next.mutated.function c.in-Ok-Some.next.mutated.rewrite
    c.in-Ok-Some.next.mutated.bytes.items) c.deref.ensures.value
    (rw c.in-Ok-Some.field-0-is at c.in-Ok-Some.ensures.mutated) in
    let chosen : ChoosesOfModule c.args.scope.now c.rewrites.module.bytes.items (g.R.Rng.stream c.rewrites.generator)
    c.in-Ok-Some.next.mutated.function
    c.in-Ok-Some.next.mutated.rewrite c.in-Ok-Some.next.mutated.bytes.items (g.R.Rng.stream c.mutate_with.new.generator) =
    subst (λ (b : List ℕ). ChoosesOfModule c.args.scope.now b (g.R.Rng.stream c.rewrites.generator) c.in-Ok-Some.next.mutated.function
    c.in-Ok-Some.next.mutated.rewrite c.in-Ok-Some.next.mutated.bytes.items (g.R.Rng.stream c.mutate_with.new.generator))
    c.deref.ensures.value (rw c.in-Ok-Some.field-0-is at c.in-Ok-Some.ensures.chosen) in
    let went = sym c.is_err.ensures.value ∙ c.if-is_err.false in
    let added = on_value c.add_made-in-rewrites.result went c.add_made-in-rewrites.ensures.added in
    let seen : g.W.Watch.saw c.rewrites.watch c.rewrites.module.bytes.items c.in-Ok-Some.next.mutated.bytes.items
    (record { function = c.in-Ok-Some.next.mutated.function; rewrite = c.in-Ok-Some.next.mutated.rewrite }) c.add_made-in-rewrites.new.watch =
    subst (λ (b : List ℕ). g.W.Watch.saw c.rewrites.watch b c.in-Ok-Some.next.mutated.bytes.items
    (record { function = c.in-Ok-Some.next.mutated.function; rewrite = c.in-Ok-Some.next.mutated.rewrite }) c.add_made-in-rewrites.new.watch)
    c.deref-in-rewrites.ensures.value (on_value c.add_made-in-rewrites.result went c.add_made-in-rewrites.ensures.seen) in (
      next c.args.scope.now c.rewrites.counter c.args.bytes.now (g.R.Rng.stream c.args.generator.now) c.rewrites.module.made.items
          c.rewrites.module.bytes.items (g.R.Rng.stream c.rewrites.generator)
          (record { function = c.in-Ok-Some.next.mutated.function; rewrite = c.in-Ok-Some.next.mutated.rewrite })
          c.add_made-in-rewrites.new.made.items c.in-Ok-Some.next.mutated.bytes.items (g.R.Rng.stream c.mutate_with.new.generator)
          c.rewrites.invariant.0 added mutated chosen,
      c.rewrites.invariant.1,
      sees_next g.W.Watch.saw c.args.scope.now
          (record { bytes = c.args.bytes.now; stream = g.R.Rng.stream c.args.generator.now; watcher = c.args.watch.now })
          c.rewrites.module.made.items c.rewrites.module.bytes.items (g.R.Rng.stream c.rewrites.generator) c.rewrites.watch
          (record { function = c.in-Ok-Some.next.mutated.function; rewrite = c.in-Ok-Some.next.mutated.rewrite })
          c.add_made-in-rewrites.new.made.items c.in-Ok-Some.next.mutated.bytes.items (g.R.Rng.stream c.mutate_with.new.generator)
          c.add_made-in-rewrites.new.watch c.rewrites.invariant.2 added mutated chosen seen,
      c.rewritten_modules_do_as_before.ensures.follow c.args.scope.now.exact c.args.bytes.now c.rewrites.module.bytes.items
          c.in-Ok-Some.next.mutated.bytes.items c.rewrites.invariant.3
          (c.rewritten_modules_do_as_before.ensures.one c.args.scope.now c.rewrites.module.bytes.items c.in-Ok-Some.next.mutated.bytes.items
          c.in-Ok-Some.next.mutated.function c.in-Ok-Some.next.mutated.rewrite mutated),
      rw c.in-Ok-Some.field-0-is at c.in-Ok-Some.ensures.read,
    )

pub returns-in-Ok-None-clause-chosen : goal.returns-in-Ok-None-clause-chosen
returns-in-Ok-None-clause-chosen g c =
    times_none c.args.scope.now c.rewrites.counter c.args.bytes.now (g.R.Rng.stream c.args.generator.now) c.rewrites.module.made.items
    c.rewrites.module.bytes.items
    (g.R.Rng.stream c.rewrites.generator) c.rewrites.module.stopped c.rewrites.invariant.0 c.rewrites.invariant.1

pub returns-clause-chosen : goal.returns-clause-chosen
returns-clause-chosen g c =
    times_none c.args.scope.now c.rewrites.counter c.args.bytes.now (g.R.Rng.stream c.args.generator.now) c.rewrites.module.made.items
    c.rewrites.module.bytes.items
    (g.R.Rng.stream c.rewrites.generator) c.rewrites.module.stopped c.rewrites.invariant.0 c.rewrites.invariant.1

pub returns-in-Err-mutate_with-clause-mutated : goal.returns-in-Err-mutate_with-clause-mutated
returns-in-Err-mutate_with-clause-mutated g c =
    let below : c.rewrites.counter < c.args.count = c.rewrites-test.true in
    let some : 0 < c.rewrites.counter = omega arith in
    rw c.stopped.ensures.made (rw c.stopped.ensures.bytes
    (stops c.rewritten_modules_are_read_again.ensures c.args.scope.now c.args.count c.rewrites.counter c.args.bytes.now
    (g.R.Rng.stream c.args.generator.now) c.rewrites.module.made.items c.rewrites.module.bytes.items
    (g.R.Rng.stream c.rewrites.generator) c.stopped.result.stopped c.in-Err-mutate_with.e c.rewrites.invariant.0 some below c.stopped.ensures.stopped
    (subst (λ (b : List ℕ). RefusesMutation c.args.scope.now b c.in-Err-mutate_with.e) c.deref.ensures.value c.in-Err-mutate_with.ensures.refused)))

pub returns-in-Err-mutate_with-clause-chosen : goal.returns-in-Err-mutate_with-clause-chosen
returns-in-Err-mutate_with-clause-chosen g c =
    rw c.stopped.ensures.made (rw c.stopped.ensures.bytes
    (times_stop c.args.scope.now c.rewrites.counter c.args.bytes.now (g.R.Rng.stream c.args.generator.now) c.rewrites.module.made.items
    c.rewrites.module.bytes.items
    (g.R.Rng.stream c.rewrites.generator) c.stopped.result.stopped c.in-Err-mutate_with.e c.rewrites.invariant.0 c.stopped.ensures.stopped
    (subst (λ (b : List ℕ). IsOfSize c.in-Err-mutate_with.e → GivesUp c.args.scope.now b (g.R.Rng.stream c.rewrites.generator)) c.deref.ensures.value
    c.in-Err-mutate_with.ensures.gives_up)))

pub returns-then-is_err-clause-mutated : goal.returns-then-is_err-clause-mutated
returns-then-is_err-clause-mutated g c =
    let mutated : IsMutated c.args.scope.now c.rewrites.module.bytes.items c.in-Ok-Some.next.mutated.function c.in-Ok-Some.next.mutated.rewrite
    c.in-Ok-Some.next.mutated.bytes.items =
    subst (λ (b : List ℕ). IsMutated c.args.scope.now b c.in-Ok-Some.next.mutated.function c.in-Ok-Some.next.mutated.rewrite
    c.in-Ok-Some.next.mutated.bytes.items) c.deref.ensures.value
    (rw c.in-Ok-Some.field-0-is at c.in-Ok-Some.ensures.mutated) in
    let below : c.rewrites.counter < c.args.count = c.rewrites-test.true in
    let some : 0 < c.rewrites.counter = omega arith in
    let kept = on_error c.add_made-in-rewrites.result (sym c.is_err.ensures.value ∙ c.if-is_err.true) c.add_made-in-rewrites.ensures.restored in
    rw c.stopped-then-is_err.ensures.made (rw c.stopped-then-is_err.ensures.bytes (rw kept
    (stops c.rewritten_modules_are_read_again.ensures c.args.scope.now c.args.count c.rewrites.counter c.args.bytes.now
    (g.R.Rng.stream c.args.generator.now) c.rewrites.module.made.items c.rewrites.module.bytes.items
    (g.R.Rng.stream c.rewrites.generator) c.stopped-then-is_err.result.stopped Memory c.rewrites.invariant.0 some below
    c.stopped-then-is_err.ensures.stopped (no_room c.args.scope.now c.rewrites.module.bytes.items c.in-Ok-Some.next.mutated.function
    c.in-Ok-Some.next.mutated.rewrite c.in-Ok-Some.next.mutated.bytes.items mutated))))

pub returns-then-is_err-clause-chosen : goal.returns-then-is_err-clause-chosen
returns-then-is_err-clause-chosen g c =
    let kept = on_error c.add_made-in-rewrites.result (sym c.is_err.ensures.value ∙ c.if-is_err.true) c.add_made-in-rewrites.ensures.restored in
    rw c.stopped-then-is_err.ensures.made (rw c.stopped-then-is_err.ensures.bytes (rw kept
    (times_stop c.args.scope.now c.rewrites.counter c.args.bytes.now (g.R.Rng.stream c.args.generator.now) c.rewrites.module.made.items
    c.rewrites.module.bytes.items
    (g.R.Rng.stream c.rewrites.generator) c.stopped-then-is_err.result.stopped Memory c.rewrites.invariant.0
    c.stopped-then-is_err.ensures.stopped (λ size. absurd size))))

pub returns-then-is_err-clause-seen : goal.returns-then-is_err-clause-seen
returns-then-is_err-clause-seen g c =
    let failed = sym c.is_err.ensures.value ∙ c.if-is_err.true in
    let kept = on_error c.add_made-in-rewrites.result failed c.add_made-in-rewrites.ensures.restored in
    let unseen = on_error c.add_made-in-rewrites.result failed c.add_made-in-rewrites.ensures.unseen in
    rw c.stopped-then-is_err.ensures.made (rw c.stopped-then-is_err.ensures.bytes (rw kept (rw unseen
    (record { left = g.R.Rng.stream c.rewrites.generator; each = c.rewrites.invariant.2 }))))

pub returns-then-is_err-clause-goes_on : goal.returns-then-is_err-clause-goes_on
returns-then-is_err-clause-goes_on g c =
    let below : c.rewrites.counter < c.args.count = c.rewrites-test.true in
    let kept = on_error c.add_made-in-rewrites.result (sym c.is_err.ensures.value ∙ c.if-is_err.true) c.add_made-in-rewrites.ensures.restored in
    rw c.stopped-then-is_err.ensures.made (rw c.stopped-then-is_err.ensures.bytes (rw kept
    (λ all. absurd (omega (arith, all, c.rewrites.invariant.0.number_is, below)))))

pub returns-in-Err-mutate_with-clause-does_as_before : goal.returns-in-Err-mutate_with-clause-does_as_before
returns-in-Err-mutate_with-clause-does_as_before g c = rw c.stopped.ensures.bytes c.rewrites.invariant.3

pub returns-then-is_err-clause-does_as_before : goal.returns-then-is_err-clause-does_as_before
returns-then-is_err-clause-does_as_before g c = rw c.stopped-then-is_err.ensures.bytes c.rewrites.invariant.3

pub mutate_with-requires : goal.mutate_with-requires
mutate_with-requires g c =
    subst (λ (b : List ℕ). WasRewrittenAt c.args.scope.now c.rewrites.read.info c.rewrites.read.layout c.rewrites.function b)
    (sym c.deref.ensures.value) c.rewrites.invariant.4
