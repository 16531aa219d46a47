use Rattle.std.proofs.Common.{◌≡◌, ◌≤◌, ◌+◌, Option, Result, sym, subst, arith}
use Rattle.std.specs.Prelude.{IfOk, IfErr, IfNone}
use Rattle.std.proofs.lemmas.Grind.{common_steps}
use Rattle.module_rewrites.specs.Mutated.{HasNoMutation, IsInVain, RefusesEntry}
use Rattle.module_rewrites.specs.Writing.{MakesAt}
use Rattle.module_rewrites.specs.declared.mutation.Mutated.{Mutated}
use Rattle.module_rewrites.specs.declared.mutation.MutationError.{MutationError}
use Rattle.module_rewrites.proofs.DrawnLemmas.{all_more, within_here}
use Rattle.module_rewrites.proofs.MutationLemmas.{err_map, none_map, some_both, some_map}
use Rattle.module_rewrites.proofs.ModuleLemmas.{NoneWithin, RefusesWithin, none_next, none_of_last, none_to, refused_of_last, vain_of_last}
use Rattle.module_rewrites.proofs.mutation.mutate_first.Goals as goal

pub returns-then-not-is_in_vain-clause-chosen : goal.returns-then-not-is_in_vain-clause-chosen
returns-then-not-is_in_vain-clause-chosen g c =
    some_map c.mutate_entry-made.result (λ m h.
    within_here c.args.scope.now c.args.bytes.now c.args.info.now c.args.layout.now (g.R.Rng.stream c.args.generator.now) (g.R.Rng.stream c.loop-n.generator)
    (g.R.Rng.stream c.mutate_entry-made.new.generator) c.args.from c.loop-n.n c.args.to m.function m.rewrite m.bytes.items c.loop-n-test.true h.0
    c.loop-n.invariant.4 h.1)
    (some_both (λ (m : Mutated). m.function ≡ c.args.layout.now.imported_functions + c.loop-n.n)
    (λ (m : Mutated). MakesAt c.args.scope.now c.args.bytes.now c.args.info.now c.args.layout.now (g.R.Rng.stream c.loop-n.generator) c.loop-n.n m.rewrite
    m.bytes.items (g.R.Rng.stream c.mutate_entry-made.new.generator)) c.mutate_entry-made.result
    c.mutate_entry-made.ensures.function c.mutate_entry-made.ensures.chosen)

pub returns-then-not-is_in_vain-clause-mutated : goal.returns-then-not-is_in_vain-clause-mutated
returns-then-not-is_in_vain-clause-mutated g c =
    some_map c.mutate_entry-made.result (λ m h. (c.loop-n.n, h.0, h.1)) c.mutate_entry-made.ensures.mutated

pub returns-then-not-is_in_vain-clause-refused : goal.returns-then-not-is_in_vain-clause-refused
returns-then-not-is_in_vain-clause-refused g c =
    err_map c.mutate_entry-made.result (λ e h. (c.loop-n.n, c.loop-n.auto.n, c.loop-n-test.true, h)) c.mutate_entry-made.ensures.refused

pub loop-n-preserved : goal.loop-n-preserved
loop-n-preserved g c =
    let Outcome : Type 0 = Result (Option Mutated) MutationError in
    let scope = c.args.scope.now in
    let bytes = c.args.bytes.now in
    let info = c.args.info.now in
    let layout = c.args.layout.now in
    let old = c.loop-n.vain in
    let made = c.mutate_entry-made.result in
    let vain : IsInVain made = c.is_in_vain.ensures.0 c.if-not-is_in_vain.false in
    let none = subst (λ (r : Outcome). IfOk r (λ o. IfNone o (NoneWithin scope bytes info layout c.args.from c.loop-n.n
    × HasNoMutation scope bytes info layout c.loop-n.n))) (sym c.last-vain.ensures)
    (none_of_last old made (NoneWithin scope bytes info layout c.args.from c.loop-n.n) (HasNoMutation scope bytes info layout c.loop-n.n)
    c.loop-n.invariant.2 c.mutate_entry-made.ensures.none) in (
      omega (arith, c.loop-n-test.true),
      subst (λ (r : Outcome). IsInVain r) (sym c.last-vain.ensures) (vain_of_last old made c.loop-n.invariant.1 vain),
      none_map c.last-vain.result (λ both. none_next scope bytes info layout c.args.from c.loop-n.n both.0 both.1) none,
      subst (λ (r : Outcome). IfErr r (RefusesWithin c.args.scope.now bytes info layout c.args.from (c.loop-n.n + 1))) (sym c.last-vain.ensures)
          (refused_of_last old made (RefusesWithin c.args.scope.now bytes info layout c.args.from c.loop-n.n)
          (RefusesEntry c.args.scope.now bytes info layout c.loop-n.n) (RefusesWithin c.args.scope.now bytes info layout c.args.from (c.loop-n.n + 1))
          (λ e h. (h.0, h.1, omega (arith, h.2), h.3)) (λ e h. (c.loop-n.n, c.loop-n.auto.n, omega arith, h))
          c.loop-n.invariant.3 c.mutate_entry-made.ensures.refused),
      all_more c.args.scope.now bytes info layout (g.R.Rng.stream c.args.generator.now) (g.R.Rng.stream c.loop-n.generator)
          (g.R.Rng.stream c.mutate_entry-made.new.generator) c.args.from c.loop-n.n c.loop-n.invariant.4 (c.mutate_entry-made.ensures.tried vain),
    )

pub returns-clause-none : goal.returns-clause-none
returns-clause-none g c =
    let past : c.args.to ≤ c.loop-n.n = grind (arith, common_steps) in
    none_map c.loop-n.vain
    (none_to c.args.scope.now c.args.bytes.now c.args.info.now c.args.layout.now c.args.from c.loop-n.n c.args.to past)
    c.loop-n.invariant.2
