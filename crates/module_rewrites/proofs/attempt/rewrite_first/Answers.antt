-- The module as it was read, and the first of its rewrites.
use Rattle.std.proofs.Common.{◌∙◌, ℕ, Option, ap, subst}
use Rattle.std.specs.Prelude.{IfNone}
use Rattle.module_rewrites.specs.Attempt.{AreChosen}
use Rattle.module_rewrites.specs.Mutated.{CannotMutate}
use Rattle.module_rewrites.specs.Scope.{Scope}
use Rattle.module_rewrites.specs.declared.mutation.Mutated.{Mutated}
use Rattle.module_rewrites.proofs.AttemptLemmas.{index_not_for_size, index_reason}
use Rattle.module_rewrites.proofs.MutationLemmas.{was_rewritten}
use Rattle.module_rewrites.proofs.attempt.rewrite_first.Goals as goal

pub returns-in-Err-chosen_entries-clause-fails : goal.returns-in-Err-chosen_entries-clause-fails
returns-in-Err-chosen_entries-clause-fails g c =
    index_reason c.args.scope.now c.args.bytes.now c.in-Ok.module.info c.in-Ok.module.layout c.scope.inside.function c.in-Err-chosen_entries.reason
    (ap (λ (s : Scope). s.function) c.scope.view_is) c.in-Ok.ensures.read c.in-Err-chosen_entries.ensures.refused

pub returns-in-Err-chosen_entries-clause-gives_up : goal.returns-in-Err-chosen_entries-clause-gives_up
returns-in-Err-chosen_entries-clause-gives_up g c size =
    absurd (index_not_for_size c.in-Ok.module.layout c.scope.inside.function c.in-Err-chosen_entries.reason c.in-Err-chosen_entries.ensures.refused size)

pub returns-in-Ok-None-clause-fails : goal.returns-in-Ok-None-clause-fails
returns-in-Ok-None-clause-fails g c =
    let layout = c.in-Ok.module.layout in
    let start = c.in-Ok-chosen_entries.entries.start in
    let end = c.in-Ok-chosen_entries.entries.end in
    let may : AreChosen c.scope.inside.function layout start end =
    record { chosen = c.in-Ok-chosen_entries.ensures.chosen; named = c.in-Ok-chosen_entries.ensures.named } in
    c.without_rewrite.ensures.reason c.args.scope.now (c.in-Ok.ensures.marked ∙ ap (λ (s : Scope). s.exact) c.scope.view_is)
    (subst (λ (o : Option Mutated). IfNone o (CannotMutate c.args.scope.now c.args.bytes.now)) c.in-Ok-None.field-0-is c.in-Ok-None.ensures.none)
    (subst (λ (o : Option ℕ). AreChosen o layout start end) (ap (λ (s : Scope). s.function) c.scope.view_is) may)

pub returns-in-Ok-Some-clause-read : goal.returns-in-Ok-Some-clause-read
returns-in-Ok-Some-clause-read g c =
    was_rewritten c.args.scope.now c.args.bytes.now c.in-Ok.module.info c.in-Ok.module.layout c.in-Ok-Some.mutated.function c.in-Ok-Some.mutated.rewrite
    c.in-Ok-Some.mutated.bytes.items c.without_bytes.result.info c.without_bytes.result.layout c.one_reading.ensures c.in-Ok.ensures.read
    (c.in-Ok.ensures.marked ∙ ap (λ (s : Scope). s.exact) c.scope.view_is)
    c.without_bytes.ensures.info c.without_bytes.ensures.layout (rw c.in-Ok-Some.field-0-is at c.in-Ok-Some.ensures.mutated)

pub mutate_chosen-requires-clause-marked : goal.mutate_chosen-requires-clause-marked
mutate_chosen-requires-clause-marked g c = c.in-Ok.ensures.marked ∙ ap (λ (s : Scope). s.exact) c.scope.view_is
