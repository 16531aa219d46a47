-- The changes follow one another.
use Rattle.std.proofs.Common.{rules, ◌≡◌, ◌<◌, ◌∙◌, List, [], ℕ, refl, subst, sym, arith}
use Rattle.module_changes.specs.Chosen.{ChoosesOne}
use Rattle.module_changes.specs.declared.refusal.Refusal.TheVariants.{Memory}
use Rattle.module_changes.proofs.TimesLemmas.{all_made, first, next, on_error, on_value, sees_next, stops}
use Rattle.module_changes.proofs.times.change_module.Goals as goal

pub changes-init : goal.changes-init
changes-init g c =
    let m = c.in_ok-first.first in (
      first c.args.scope.now c.args.bytes.now (g.R.Rng.stream c.args.generator.now) m.made c.add_made.new.made.items m.bytes.items
          (g.R.Rng.stream c.change_once.new.generator) (search rules) c.in_ok-first.ensures.chosen,
      refl,
      c.changed_modules_stay_valid.ensures.one c.args.scope.now c.args.bytes.now m.bytes.items (g.R.Rng.stream c.args.generator.now)
          (g.R.Rng.stream c.change_once.new.generator) m.made c.in_ok-first.ensures.chosen,
      sees_next g.W.Watch.saw c.args.scope.now
          (record { bytes = c.args.bytes.now; stream = g.R.Rng.stream c.args.generator.now; watcher = c.args.watch.now }) [] c.args.bytes.now
          (g.R.Rng.stream c.args.generator.now) c.args.watch.now m.made c.add_made.new.made.items m.bytes.items
          (g.R.Rng.stream c.change_once.new.generator) c.add_made.new.watch refl (search rules) c.in_ok-first.ensures.chosen
          c.in_ok-add_made.ensures.seen,
    )

pub changes-preserved : goal.changes-preserved
changes-preserved g c =
    let scope = c.args.scope.now in
    let bytes = c.args.bytes.now in
    let last = c.changes.module in
    let m = c.in-Ok.next in
    let now = g.R.Rng.stream c.changes.generator in
    let after = g.R.Rng.stream c.change_once-in-changes.new.generator in
    let chosen : ChoosesOne scope last.bytes.items now m.made m.bytes.items after =
    subst (λ (b : List ℕ). ChoosesOne scope b now m.made m.bytes.items after) c.deref.ensures.value c.in-Ok.ensures.chosen in
    let went = sym c.is_err.ensures.value ∙ c.if-is_err.false in
    let added = on_value c.add_made-in-changes.result went c.add_made-in-changes.ensures.added in
    let seen : g.W.Watch.saw c.changes.watch last.bytes.items m.bytes.items m.made c.add_made-in-changes.new.watch =
    subst (λ (b : List ℕ). g.W.Watch.saw c.changes.watch b m.bytes.items m.made c.add_made-in-changes.new.watch) c.deref-in-changes.ensures.value
    (on_value c.add_made-in-changes.result went c.add_made-in-changes.ensures.seen) in (
      next scope bytes (g.R.Rng.stream c.args.generator.now) c.changes.counter last.made.items last.bytes.items now c.changes.invariant.0 m.made
          c.add_made-in-changes.new.made.items m.bytes.items after added chosen,
      c.changes.invariant.1,
      c.changed_modules_stay_valid.ensures.follow bytes last.bytes.items m.bytes.items c.changes.invariant.2
          (c.changed_modules_stay_valid.ensures.one scope last.bytes.items m.bytes.items now after m.made chosen),
      sees_next g.W.Watch.saw scope (record { bytes = bytes; stream = g.R.Rng.stream c.args.generator.now; watcher = c.args.watch.now }) last.made.items
          last.bytes.items now c.changes.watch m.made c.add_made-in-changes.new.made.items m.bytes.items after c.add_made-in-changes.new.watch
          c.changes.invariant.3 added chosen seen,
    )

pub returns-clause-changed : goal.returns-clause-changed
returns-clause-changed g c =
    let some : 0 < c.changes.counter = omega (arith, c.changes.auto.counter) in
    let all : c.changes.counter ≡ c.args.count = omega (arith, c.requires.some, c.changes-test.false, c.changes.auto.counter-end) in
    all_made c.args.scope.now c.args.bytes.now (g.R.Rng.stream c.args.generator.now) c.changes.counter c.changes.module.made.items
    c.changes.module.bytes.items (g.R.Rng.stream c.changes.generator) c.changes.invariant.0 c.args.count c.changes.module.stopped some all
    c.changes.invariant.1

-- no memory was left for the list of what was made
pub returns-then-is_err-clause-changed : goal.returns-then-is_err-clause-changed
returns-then-is_err-clause-changed g c =
    let below : c.changes.counter < c.args.count = c.changes-test.true in
    let some : 0 < c.changes.counter = omega (arith, c.changes.auto.counter) in
    let kept = on_error c.add_made-in-changes.result (sym c.is_err.ensures.value ∙ c.if-is_err.true) c.add_made-in-changes.ensures.restored in
    rw c.stopped-then-is_err.ensures.made (rw c.stopped-then-is_err.ensures.bytes (rw kept
    (stops c.args.scope.now c.args.bytes.now (g.R.Rng.stream c.args.generator.now) c.changes.counter c.changes.module.made.items
    c.changes.module.bytes.items (g.R.Rng.stream c.changes.generator) c.changes.invariant.0 c.args.count c.stopped-then-is_err.result.stopped Memory some
    below c.stopped-then-is_err.ensures.stopped tt)))

pub returns-then-is_err-clause-goes_on : goal.returns-then-is_err-clause-goes_on
returns-then-is_err-clause-goes_on g c =
    let below : c.changes.counter < c.args.count = c.changes-test.true in
    let kept = on_error c.add_made-in-changes.result (sym c.is_err.ensures.value ∙ c.if-is_err.true) c.add_made-in-changes.ensures.restored in
    rw c.stopped-then-is_err.ensures.made (rw c.stopped-then-is_err.ensures.bytes (rw kept
    (λ all. absurd (omega (arith, all, c.changes.invariant.0.number_is, below)))))

pub returns-then-is_err-clause-seen : goal.returns-then-is_err-clause-seen
returns-then-is_err-clause-seen g c =
    let failed = sym c.is_err.ensures.value ∙ c.if-is_err.true in
    let kept = on_error c.add_made-in-changes.result failed c.add_made-in-changes.ensures.restored in
    let unseen = on_error c.add_made-in-changes.result failed c.add_made-in-changes.ensures.unseen in
    rw c.stopped-then-is_err.ensures.made (rw c.stopped-then-is_err.ensures.bytes (rw kept (rw unseen
    (record { left = g.R.Rng.stream c.changes.generator; each = c.changes.invariant.3 }))))
