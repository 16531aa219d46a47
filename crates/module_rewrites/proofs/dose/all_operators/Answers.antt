-- The operators of the functions that may be rewritten.
use Rattle.std.proofs.Common.{ℕ, Option, ap, subst}
use Rattle.module_rewrites.specs.Attempt.{AreChosen}
use Rattle.module_rewrites.specs.Scope.{Scope}
use Rattle.module_rewrites.proofs.DoseLemmas.{index_of_reading}
use Rattle.module_rewrites.proofs.dose.all_operators.Goals as goal

pub returns-in-Ok-operators_of-clause-all : goal.returns-in-Ok-operators_of-clause-all
returns-in-Ok-operators_of-clause-all c =
    let layout = c.in-Ok.module.layout in
    let start = c.in-Ok-chosen_entries.entries.start in
    let end = c.in-Ok-chosen_entries.entries.end in
    let may : AreChosen c.scope.inside.function layout start end =
    record { chosen = c.in-Ok-chosen_entries.ensures.chosen; named = c.in-Ok-chosen_entries.ensures.named } in
    record {
      info = c.in-Ok.module.info;
      layout = layout;
      is = c.in-Ok.ensures.read;
      are = c.in-Ok-operators_of.ensures.all c.args.scope.now.function
          (subst (λ (o : Option ℕ). AreChosen o layout start end) (ap (λ (s : Scope). s.function) c.scope.view_is) may);
    }

pub returns-in-Err-chosen_entries-clause-reading : goal.returns-in-Err-chosen_entries-clause-reading
returns-in-Err-chosen_entries-clause-reading c =
    index_of_reading c.in-Ok.module.layout c.scope.inside.function c.in-Err-chosen_entries.reason c.in-Err-chosen_entries.ensures.refused
