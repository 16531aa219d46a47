-- Word by word.
use Rattle.std.proofs.Common.{rules, ◌≡◌, ◌+◌, ◌≤◌, length, arith, refl}
use Rattle.std.specs.List.{sum_by}
use Rattle.module_rewrites.specs.Chosen.{GivesUpOn}
use Rattle.module_rewrites.specs.Drawing.{contents_length}
use Rattle.module_rewrites.specs.Scope.{draws_of}
use Rattle.module_rewrites.specs.Writing.{MakesAt}
use Rattle.module_rewrites.specs.declared.mutation.Mutated.{Mutated}
use Rattle.std.specs.Prelude.{None}
use Rattle.module_rewrites.proofs.DrawnLemmas.{all_ordered, drawn_here, drawn_in_order, gives_up_by_words, vain_more}
use Rattle.module_rewrites.proofs.ModuleLemmas.{vain_of_size}
use Rattle.module_rewrites.proofs.MutationLemmas.{some_both, some_map}
use Rattle.module_rewrites.proofs.mutation.mutate_any.Goals as goal

pub draws-init : goal.draws-init
draws-init g c = (search rules, (refl, refl))

pub draw_entry-n-requires-clause-ordered : goal.draw_entry-n-requires-clause-ordered
draw_entry-n-requires-clause-ordered g c =
    all_ordered c.args.bytes.now c.args.layout.now.entries
    (λ n entry at. c.entries_are_inside.ensures c.args.bytes.now c.args.info.now c.args.layout.now n entry c.requires.module at)

pub draw_entry-n-requires-clause-few : goal.draw_entry-n-requires-clause-few
draw_entry-n-requires-clause-few g c =
    let fits : sum_by contents_length c.args.layout.now.entries ≤ length c.args.bytes.now =
    c.entries_fit_the_module.ensures c.args.bytes.now c.args.info.now c.args.layout.now c.requires.module in
    omega (arith, fits, c.well_formed)

pub draws-preserved : goal.draws-preserved
draws-preserved g c = (
  c.draw_entry-n.ensures.inside,
  vain_more c.args.scope.now c.args.bytes.now c.args.info.now c.args.layout.now (g.R.Rng.stream c.args.generator.now)
      (g.R.Rng.stream c.draws.generator) (g.R.Rng.stream c.draw_entry-n.new.generator) (g.R.Rng.stream c.mutate_entry-made.new.generator) c.draws.counter
      c.draws.n c.draw_entry-n.result c.draws.invariant.1 c.draw_entry-n.ensures.after c.draw_entry-n.ensures.named
      (c.mutate_entry-made.ensures.tried (c.is_in_vain.ensures.0 c.if-not-is_in_vain.false)),
)

pub returns-then-not-is_in_vain-clause-chosen : goal.returns-then-not-is_in_vain-clause-chosen
returns-then-not-is_in_vain-clause-chosen g c =
    some_map c.mutate_entry-made.result (λ m h.
    drawn_here c.args.scope.now c.args.bytes.now c.args.info.now c.args.layout.now (g.R.Rng.stream c.args.generator.now) (g.R.Rng.stream c.draws.generator)
    (g.R.Rng.stream c.draw_entry-n.new.generator) (g.R.Rng.stream c.mutate_entry-made.new.generator) c.draws.counter c.draws.n
    c.draw_entry-n.result m.function m.rewrite m.bytes.items (omega (arith, c.draws-test.true, c.draws-end.ensures.is)) c.draws.invariant.1
    c.draw_entry-n.ensures.after c.draw_entry-n.ensures.named
    h.0 h.1)
    (some_both (λ (m : Mutated). m.function ≡ c.args.layout.now.imported_functions + c.draw_entry-n.result)
    (λ (m : Mutated). MakesAt c.args.scope.now c.args.bytes.now c.args.info.now c.args.layout.now (g.R.Rng.stream c.draw_entry-n.new.generator)
    c.draw_entry-n.result m.rewrite m.bytes.items (g.R.Rng.stream c.mutate_entry-made.new.generator)) c.mutate_entry-made.result
    c.mutate_entry-made.ensures.function c.mutate_entry-made.ensures.chosen)

pub returns-then-not-is_in_vain-clause-mutated : goal.returns-then-not-is_in_vain-clause-mutated
returns-then-not-is_in_vain-clause-mutated g c =
    some_map c.mutate_entry-made.result (λ m h. (c.draw_entry-n.result, h.0, h.1)) c.mutate_entry-made.ensures.mutated

pub returns-clause-chosen : goal.returns-clause-chosen
returns-clause-chosen g c =
    let all : c.draws.counter ≡ draws_of c.args.scope.now c.args.bytes.now =
    omega (arith, c.draws-test.false, c.draws.auto.counter-end, c.draws-end.ensures.is) in
    some_map c.mutate_in_order.result (λ m h.
    drawn_in_order c.args.scope.now c.args.bytes.now c.args.info.now c.args.layout.now (g.R.Rng.stream c.args.generator.now)
    (g.R.Rng.stream c.draws.generator) (g.R.Rng.stream c.mutate_in_order.new.generator) c.draws.counter c.draws.n m.function m.rewrite
    m.bytes.items all c.draws.invariant.1 h) c.mutate_in_order.ensures.chosen

pub returns-clause-gives_up : goal.returns-clause-gives_up
returns-clause-gives_up g c =
    let all : c.draws.counter ≡ draws_of c.args.scope.now c.args.bytes.now =
    omega (arith, c.draws-test.false, c.draws.auto.counter-end, c.draws-end.ensures.is) in
    vain_of_size c.mutate_in_order.result (GivesUpOn c.args.scope.now c.args.bytes.now c.args.info.now c.args.layout.now None
    (g.R.Rng.stream c.args.generator.now) (g.R.Rng.stream c.mutate_in_order.new.generator)) (λ vain.
    gives_up_by_words c.args.scope.now c.args.bytes.now c.args.info.now c.args.layout.now (g.R.Rng.stream c.args.generator.now)
    (g.R.Rng.stream c.draws.generator) (g.R.Rng.stream c.mutate_in_order.new.generator) c.draws.counter c.draws.n all c.draws.invariant.1
    (c.mutate_in_order.ensures.tried vain))
