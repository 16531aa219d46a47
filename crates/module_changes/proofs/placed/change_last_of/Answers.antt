-- The entry of the function that is named.
use Rattle.std.proofs.Common.{◌≤◌, inl, inr, sym, subst, arith}
use Rattle.module_changes.specs.Placed.{RefusesLast}
use Rattle.module_changes.proofs.PlacedLemmas.{refuses_last}
use Rattle.module_changes.proofs.placed.change_last_of.Goals as goal

pub returns-in-Err-chosen_entries-clause-refused : goal.returns-in-Err-chosen_entries-clause-refused
returns-in-Err-chosen_entries-clause-refused c =
    subst (RefusesLast c.args.at c.args.max_size c.args.bytes.now) (sym c.refusal_by.ensures)
    (refuses_last c.args.at c.args.max_size c.args.bytes.now c.in-Ok.module.info c.in-Ok.module.layout c.in-Ok.ensures.read c.in-Err-chosen_entries.reason
    c.in-Err-chosen_entries.ensures.refused)

pub change_last_read-requires-clause-function : goal.change_last_read-requires-clause-function
change_last_read-requires-clause-function c = elim c.in-Ok-chosen_entries.ensures.named [
  | inl none ↦ absurd cc
  | inr some ↦
      let first : c.in-Ok-chosen_entries.entries.start ≤ c.in-Ok-chosen_entries.entries.start = omega arith in
      ((c.in-Ok-chosen_entries.ensures.chosen c.in-Ok-chosen_entries.entries.start).0 (first, some)).1
]
