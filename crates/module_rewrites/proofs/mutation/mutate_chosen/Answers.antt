use Rattle.std.proofs.Common.{◌≡◌, ◌∙◌, ℕ, Option, Some, None, ap, sym, subst}
use Rattle.module_rewrites.specs.Chosen.{ChoosesBy, GivesUpOn}
use Rattle.module_rewrites.specs.Scope.{Scope}
use Rattle.module_rewrites.proofs.MutationLemmas.{err_map, none_map, some_both, some_map}
use Rattle.module_rewrites.proofs.ModuleLemmas.{cannot_any, cannot_one, err_of_size, mutated_any, mutated_one, refuses_any, refuses_one}
use Rattle.module_rewrites.proofs.mutation.mutate_chosen.Goals as goal

pub returns-in-None-clause-mutated : goal.returns-in-None-clause-mutated
returns-in-None-clause-mutated g c =
    let is : c.args.scope.now.function ≡ None = sym (ap (λ (s : Scope). s.function) c.scope.view_is) ∙ c.in-None.is in
    some_map c.mutate_any.result
    (λ m h. mutated_any c.args.scope.now c.args.bytes.now c.args.info.now c.args.layout.now c.requires.module c.requires.marked is m.function
    m.rewrite m.bytes.items h.0 h.1)
    (some_both _ _ c.mutate_any.result c.mutate_any.ensures.mutated c.mutate_any.ensures.fits)

pub returns-in-None-clause-refused : goal.returns-in-None-clause-refused
returns-in-None-clause-refused g c =
    let is : c.args.scope.now.function ≡ None = sym (ap (λ (s : Scope). s.function) c.scope.view_is) ∙ c.in-None.is in
    err_map c.mutate_any.result
    (λ e h. refuses_any c.args.scope.now c.args.bytes.now c.args.info.now c.args.layout.now c.requires.module c.requires.marked is e h)
    c.mutate_any.ensures.refused

pub returns-in-Some-clause-mutated : goal.returns-in-Some-clause-mutated
returns-in-Some-clause-mutated g c =
    let is : c.args.scope.now.function ≡ Some c.in-Some.function = sym (ap (λ (s : Scope). s.function) c.scope.view_is) ∙ c.in-Some.is in
    some_map c.mutate_function.result
    (λ m h. mutated_one c.args.scope.now c.args.bytes.now c.args.info.now c.args.layout.now c.requires.module c.requires.marked c.in-Some.function is m.function
    m.rewrite m.bytes.items h.0 h.1)
    (some_both _ _ c.mutate_function.result c.mutate_function.ensures.mutated c.mutate_function.ensures.fits)

pub returns-in-Some-clause-refused : goal.returns-in-Some-clause-refused
returns-in-Some-clause-refused g c =
    let is : c.args.scope.now.function ≡ Some c.in-Some.function = sym (ap (λ (s : Scope). s.function) c.scope.view_is) ∙ c.in-Some.is in
    err_map c.mutate_function.result
    (λ e h. refuses_one c.args.scope.now c.args.bytes.now c.args.info.now c.args.layout.now c.requires.module c.requires.marked c.in-Some.function is e h)
    c.mutate_function.ensures.refused

pub returns-in-None-clause-chosen : goal.returns-in-None-clause-chosen
returns-in-None-clause-chosen g c =
    let is : c.args.scope.now.function ≡ None = sym (ap (λ (s : Scope). s.function) c.scope.view_is) ∙ c.in-None.is in
    some_map c.mutate_any.result (λ m h. subst (λ (w : Option ℕ). ChoosesBy c.args.scope.now c.args.bytes.now c.args.info.now c.args.layout.now w
    (g.R.Rng.stream c.args.generator.now) m.function m.rewrite m.bytes.items (g.R.Rng.stream c.mutate_any.new.generator)) (sym is) h)
    c.mutate_any.ensures.chosen

pub returns-in-None-clause-none : goal.returns-in-None-clause-none
returns-in-None-clause-none g c =
    none_map c.mutate_any.result (cannot_any c.args.scope.now c.args.bytes.now c.args.info.now c.args.layout.now c.requires.module c.requires.marked)
    c.mutate_any.ensures.none

pub returns-in-None-clause-gives_up : goal.returns-in-None-clause-gives_up
returns-in-None-clause-gives_up g c =
    let is : c.args.scope.now.function ≡ None = sym (ap (λ (s : Scope). s.function) c.scope.view_is) ∙ c.in-None.is in
    err_of_size c.mutate_any.result
    (GivesUpOn c.args.scope.now c.args.bytes.now c.args.info.now c.args.layout.now None (g.R.Rng.stream c.args.generator.now)
    (g.R.Rng.stream c.mutate_any.new.generator))
    (GivesUpOn c.args.scope.now c.args.bytes.now c.args.info.now c.args.layout.now c.args.scope.now.function (g.R.Rng.stream c.args.generator.now)
    (g.R.Rng.stream c.mutate_any.new.generator))
    (λ h. subst (λ (w : Option ℕ). GivesUpOn c.args.scope.now c.args.bytes.now c.args.info.now c.args.layout.now w (g.R.Rng.stream c.args.generator.now)
    (g.R.Rng.stream c.mutate_any.new.generator)) (sym is) h) c.mutate_any.ensures.gives_up

pub returns-in-Some-clause-chosen : goal.returns-in-Some-clause-chosen
returns-in-Some-clause-chosen g c =
    let is : c.args.scope.now.function ≡ Some c.in-Some.function = sym (ap (λ (s : Scope). s.function) c.scope.view_is) ∙ c.in-Some.is in
    some_map c.mutate_function.result (λ m h. subst (λ (w : Option ℕ). ChoosesBy c.args.scope.now c.args.bytes.now c.args.info.now c.args.layout.now w
    (g.R.Rng.stream c.args.generator.now) m.function m.rewrite m.bytes.items (g.R.Rng.stream c.mutate_function.new.generator)) (sym is) h)
    c.mutate_function.ensures.chosen

pub returns-in-Some-clause-none : goal.returns-in-Some-clause-none
returns-in-Some-clause-none g c =
    let is : c.args.scope.now.function ≡ Some c.in-Some.function = sym (ap (λ (s : Scope). s.function) c.scope.view_is) ∙ c.in-Some.is in
    none_map c.mutate_function.result
    (cannot_one c.args.scope.now c.args.bytes.now c.args.info.now c.args.layout.now c.requires.module c.requires.marked c.in-Some.function is)
    c.mutate_function.ensures.none

pub returns-in-Some-clause-gives_up : goal.returns-in-Some-clause-gives_up
returns-in-Some-clause-gives_up g c =
    let is : c.args.scope.now.function ≡ Some c.in-Some.function = sym (ap (λ (s : Scope). s.function) c.scope.view_is) ∙ c.in-Some.is in
    err_of_size c.mutate_function.result
    (GivesUpOn c.args.scope.now c.args.bytes.now c.args.info.now c.args.layout.now (Some c.in-Some.function) (g.R.Rng.stream c.args.generator.now)
    (g.R.Rng.stream c.mutate_function.new.generator))
    (GivesUpOn c.args.scope.now c.args.bytes.now c.args.info.now c.args.layout.now c.args.scope.now.function (g.R.Rng.stream c.args.generator.now)
    (g.R.Rng.stream c.mutate_function.new.generator))
    (λ h. subst (λ (w : Option ℕ). GivesUpOn c.args.scope.now c.args.bytes.now c.args.info.now c.args.layout.now w (g.R.Rng.stream c.args.generator.now)
    (g.R.Rng.stream c.mutate_function.new.generator)) (sym is) h) c.mutate_function.ensures.gives_up
