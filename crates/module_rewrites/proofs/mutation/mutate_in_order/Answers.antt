use Rattle.std.proofs.Common.{◌≡◌, ◌<◌, ℕ, Option, Result, length, ap, sym, subst, ◌∙◌, arith}
use Rattle.std.specs.Prelude.{IfOk, IfErr, IfNone}
use Rattle.std.proofs.lemmas.Grind.{common_steps}
use Rattle.wasm_module.specs.Module.{Layout}
use Rattle.module_rewrites.specs.Mutated.{IsInVain, MutatesOne, RefusesEntry}
use Rattle.module_rewrites.specs.declared.mutation.Mutated.{Mutated}
use Rattle.module_rewrites.specs.declared.mutation.MutationError.{MutationError}
use Rattle.module_rewrites.proofs.MutationLemmas.{err_map, none_map, some_map}
use Rattle.module_rewrites.proofs.DrawnLemmas.{from_here, from_start}
use Rattle.module_rewrites.proofs.ModuleLemmas.{NoneWithin, RefusesWithin, none_in_all, none_of_last, nothing_made, refused_of_last, vain_of_last}
use Rattle.module_rewrites.proofs.mutation.mutate_in_order.Goals as goal

pub returns-then-not-is_in_vain-clause-chosen : goal.returns-then-not-is_in_vain-clause-chosen
returns-then-not-is_in_vain-clause-chosen g c =
    some_map c.mutate_first-behind.result (λ m h.
    from_here c.args.scope.now c.args.bytes.now c.args.info.now c.args.layout.now (g.R.Rng.stream c.args.generator.now)
    (g.R.Rng.stream c.mutate_first-behind.new.generator) c.args.first c.len-count.result m.function m.rewrite m.bytes.items h)
    c.mutate_first-behind.ensures.chosen

pub returns-then-not-is_in_vain-2-clause-chosen : goal.returns-then-not-is_in_vain-2-clause-chosen
returns-then-not-is_in_vain-2-clause-chosen g c =
    let sized : c.len-count.result ≡ length c.layout.inside.entries.items = grind (arith, common_steps) in
    let counted = sized ∙ ap (λ (l : Layout). length l.entries) c.layout.view_is in
    some_map c.mutate_first-before.result (λ m h.
    from_start c.args.scope.now c.args.bytes.now c.args.info.now c.args.layout.now (g.R.Rng.stream c.args.generator.now)
    (g.R.Rng.stream c.mutate_first-behind.new.generator) (g.R.Rng.stream c.mutate_first-before.new.generator) c.args.first
    c.len-count.result m.function m.rewrite m.bytes.items counted
    (c.mutate_first-behind.ensures.tried (c.is_in_vain.ensures.0 c.if-not-is_in_vain.false)) h) c.mutate_first-before.ensures.chosen

pub returns-then-not-is_in_vain-2-clause-refused : goal.returns-then-not-is_in_vain-2-clause-refused
returns-then-not-is_in_vain-2-clause-refused g c =
    err_map c.mutate_first-before.result (λ e h. (h.0, omega (arith, h.2, c.requires.inside), h.3)) c.mutate_first-before.ensures.refused

pub returns-clause-none : goal.returns-clause-none
returns-clause-none g c =
    let sized : c.len-count.result ≡ length c.layout.inside.entries.items = grind (arith, common_steps) in
    let counted = sized ∙ ap (λ (l : Layout). length l.entries) c.layout.view_is in
    let Behind = NoneWithin c.args.scope.now c.args.bytes.now c.args.info.now c.args.layout.now c.args.first c.len-count.result in
    let Before = NoneWithin c.args.scope.now c.args.bytes.now c.args.info.now c.args.layout.now 0 c.args.first in
    none_map c.last.result (λ both.
    none_in_all c.args.scope.now c.args.bytes.now c.args.info.now c.args.layout.now c.args.first c.len-count.result counted both.0 both.1)
    (subst (λ (r : Result (Option Mutated) MutationError). IfOk r (λ o. IfNone o (Behind × Before))) (sym c.last.ensures)
    (none_of_last c.mutate_first-behind.result c.mutate_first-before.result Behind Before c.mutate_first-behind.ensures.none
    c.mutate_first-before.ensures.none))

pub returns-clause-mutated : goal.returns-clause-mutated
returns-clause-mutated g c =
    let vain = vain_of_last c.mutate_first-behind.result c.mutate_first-before.result (c.is_in_vain.ensures.0 c.if-not-is_in_vain.false)
    (c.is_in_vain-2.ensures.0 c.if-not-is_in_vain-2.false) in
    nothing_made c.last.result (λ (m : Mutated).
    MutatesOne c.args.scope.now c.args.bytes.now c.args.info.now c.args.layout.now m.function m.rewrite m.bytes.items)
    (subst (λ (r : Result (Option Mutated) MutationError). IsInVain r) (sym c.last.ensures) vain)

pub returns-clause-refused : goal.returns-clause-refused
returns-clause-refused g c =
    let sized : c.len-count.result ≡ length c.layout.inside.entries.items = grind (arith, common_steps) in
    let counted = sized ∙ ap (λ (l : Layout). length l.entries) c.layout.view_is in
    let Refused : MutationError → Type 0 = λ e. (n : ℕ) × (n < length c.args.layout.now.entries)
    × RefusesEntry c.args.scope.now c.args.bytes.now c.args.info.now c.args.layout.now n e in
    subst (λ (r : Result (Option Mutated) MutationError). IfErr r Refused) (sym c.last.ensures)
    (refused_of_last c.mutate_first-behind.result c.mutate_first-before.result
    (RefusesWithin c.args.scope.now c.args.bytes.now c.args.info.now c.args.layout.now c.args.first c.len-count.result)
    (RefusesWithin c.args.scope.now c.args.bytes.now c.args.info.now c.args.layout.now 0 c.args.first) Refused
    (λ e h. (h.0, omega (arith, h.2, counted), h.3)) (λ e h. (h.0, omega (arith, h.2, c.requires.inside), h.3))
    c.mutate_first-behind.ensures.refused c.mutate_first-before.ensures.refused)
