use Rattle.std.proofs.Common.{◌≡◌, ◌+◌, ◌-◌, Some, ap, refl, arith}
use Rattle.wasm_module.specs.Module.{Layout}
use Rattle.module_rewrites.specs.Chosen.{GivesUpAgain, GivesUpOn}
use Rattle.module_rewrites.proofs.DrawnLemmas.{named_here}
use Rattle.module_rewrites.proofs.MutationLemmas.{none_map, some_map}
use Rattle.module_rewrites.proofs.ModuleLemmas.{err_of_size, none_at}
use Rattle.module_rewrites.proofs.mutation.mutate_function.Goals as goal

pub returns-clause-none : goal.returns-clause-none
returns-clause-none g c =
    none_map c.mutate_again.result
    (none_at c.args.scope.now c.args.bytes.now c.args.info.now c.args.layout.now c.args.function c.layout.inside.imported_functions
    (c.args.function - c.layout.inside.imported_functions) (ap (λ (l : Layout). l.imported_functions) c.layout.view_is) refl)
    c.mutate_again.ensures.none

pub returns-clause-chosen : goal.returns-clause-chosen
returns-clause-chosen g c =
    let imported = ap (λ (l : Layout). l.imported_functions) c.layout.view_is in
    let n = c.args.function - c.layout.inside.imported_functions in
    let named : c.args.layout.now.imported_functions + n ≡ c.args.function = omega (arith, imported) in
    some_map c.mutate_again.result (λ m h.
    named_here c.args.scope.now c.args.bytes.now c.args.info.now c.args.layout.now (g.R.Rng.stream c.args.generator.now)
    (g.R.Rng.stream c.mutate_again.new.generator) n c.args.function m.function m.rewrite m.bytes.items named h) c.mutate_again.ensures.chosen

pub returns-clause-gives_up : goal.returns-clause-gives_up
returns-clause-gives_up g c =
    let imported = ap (λ (l : Layout). l.imported_functions) c.layout.view_is in
    let n = c.args.function - c.layout.inside.imported_functions in
    let named : c.args.layout.now.imported_functions + n ≡ c.args.function = omega (arith, imported) in
    err_of_size c.mutate_again.result
    (GivesUpAgain c.args.scope.now c.args.bytes.now c.args.info.now c.args.layout.now n (g.R.Rng.stream c.args.generator.now)
    (g.R.Rng.stream c.mutate_again.new.generator))
    (GivesUpOn c.args.scope.now c.args.bytes.now c.args.info.now c.args.layout.now (Some c.args.function) (g.R.Rng.stream c.args.generator.now)
    (g.R.Rng.stream c.mutate_again.new.generator))
    (λ vain. (n, named, vain)) c.mutate_again.ensures.gives_up
