-- Attempt by attempt.
use Rattle.std.proofs.Common.{◌≡◌, ◌+◌, suc, arith, refl}
use Rattle.module_rewrites.specs.Chosen.{TriesInVain}
use Rattle.module_rewrites.specs.Drawing.{EachInVain}
use Rattle.module_rewrites.specs.Scope.{draws_of}
use Rattle.module_rewrites.specs.Writing.{MakesAt}
use Rattle.module_rewrites.specs.declared.mutation.Mutated.{Mutated}
use Rattle.module_rewrites.proofs.DrawnLemmas.{again_here, again_more}
use Rattle.module_rewrites.proofs.MutationLemmas.{some_both, some_map}
use Rattle.module_rewrites.proofs.ModuleLemmas.{size_in_vain, vain_of_size}
use Rattle.module_rewrites.proofs.mutation.mutate_again.Goals as goal

pub draws-init : goal.draws-init
draws-init g c = (0, refl, refl)

pub returns-then-not-is_refused_for_size-clause-chosen : goal.returns-then-not-is_refused_for_size-clause-chosen
returns-then-not-is_refused_for_size-clause-chosen g c =
    let count = c.draws.invariant.1 in
    some_map c.mutate_entry-made.result (λ m h.
    again_here c.args.scope.now c.args.bytes.now c.args.info.now c.args.layout.now (g.R.Rng.stream c.args.generator.now) (g.R.Rng.stream c.draws.generator)
    (g.R.Rng.stream c.mutate_entry-made.new.generator) c.args.n c.draws.invariant.0 m.function m.rewrite m.bytes.items
    (omega (arith, count, c.draws-test.true, c.draws-end.ensures.is)) h.0 c.draws.invariant.2 h.1)
    (some_both (λ (m : Mutated). m.function ≡ c.args.layout.now.imported_functions + c.args.n)
    (λ (m : Mutated). MakesAt c.args.scope.now c.args.bytes.now c.args.info.now c.args.layout.now (g.R.Rng.stream c.draws.generator) c.args.n m.rewrite
    m.bytes.items (g.R.Rng.stream c.mutate_entry-made.new.generator)) c.mutate_entry-made.result
    c.mutate_entry-made.ensures.function c.mutate_entry-made.ensures.chosen)

pub draws-preserved : goal.draws-preserved
draws-preserved g c =
    let vain = size_in_vain c.mutate_entry-made.result (c.is_refused_for_size.ensures.0 c.if-not-is_refused_for_size.false) in
    let count = c.draws.invariant.1 in (
      suc c.draws.invariant.0,
      omega (arith, count),
      again_more c.args.scope.now c.args.bytes.now c.args.info.now c.args.layout.now (g.R.Rng.stream c.args.generator.now)
          (g.R.Rng.stream c.draws.generator) (g.R.Rng.stream c.mutate_entry-made.new.generator) c.args.n c.draws.invariant.0
          (suc c.draws.invariant.0) refl c.draws.invariant.2 (c.mutate_entry-made.ensures.tried vain),
    )

pub returns-clause-chosen : goal.returns-clause-chosen
returns-clause-chosen g c =
    let count = c.draws.invariant.1 in
    some_map c.mutate_entry.result (λ m h.
    again_here c.args.scope.now c.args.bytes.now c.args.info.now c.args.layout.now (g.R.Rng.stream c.args.generator.now) (g.R.Rng.stream c.draws.generator)
    (g.R.Rng.stream c.mutate_entry.new.generator) c.args.n c.draws.invariant.0 m.function m.rewrite m.bytes.items
    (omega (arith, count, c.draws-test.false, c.draws.auto.counter-end, c.draws-end.ensures.is, c.draws-end.ensures.some)) h.0 c.draws.invariant.2 h.1)
    (some_both (λ (m : Mutated). m.function ≡ c.args.layout.now.imported_functions + c.args.n)
    (λ (m : Mutated). MakesAt c.args.scope.now c.args.bytes.now c.args.info.now c.args.layout.now (g.R.Rng.stream c.draws.generator) c.args.n m.rewrite
    m.bytes.items (g.R.Rng.stream c.mutate_entry.new.generator)) c.mutate_entry.result
    c.mutate_entry.ensures.function c.mutate_entry.ensures.chosen)

pub returns-clause-gives_up : goal.returns-clause-gives_up
returns-clause-gives_up g c =
    let count = c.draws.invariant.1 in
    vain_of_size c.mutate_entry.result (EachInVain (TriesInVain c.args.scope.now c.args.bytes.now c.args.info.now c.args.layout.now) (λ j. c.args.n)
    (draws_of c.args.scope.now c.args.bytes.now)
    (g.R.Rng.stream c.args.generator.now) (g.R.Rng.stream c.mutate_entry.new.generator)) (λ vain.
    again_more c.args.scope.now c.args.bytes.now c.args.info.now c.args.layout.now (g.R.Rng.stream c.args.generator.now) (g.R.Rng.stream c.draws.generator)
    (g.R.Rng.stream c.mutate_entry.new.generator) c.args.n c.draws.invariant.0 (draws_of c.args.scope.now c.args.bytes.now)
    (omega (arith, count, c.draws-test.false, c.draws.auto.counter-end, c.draws-end.ensures.is, c.draws-end.ensures.some))
    c.draws.invariant.2 (c.mutate_entry.ensures.tried vain))
