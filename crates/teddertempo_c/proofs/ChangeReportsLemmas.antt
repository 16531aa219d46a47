-- What a call that changes a module by options comes to.
use Rattle.std.proofs.Common.{◌≡◌, ℕ, List, length, take, refl, subst, arith}
use Rattle.std.specs.Prelude.{IsTrue}
use Rattle.rand_core.specs.Stream.{Stream}
use Rattle.module_changes.specs.Scope.{Scope}
use Rattle.module_changes.specs.Times.{IsRefusal}
use Rattle.module_changes.specs.declared.refusal.Refusal.{Refusal as ChangeRefusal}
use Rattle.module_changes.specs.declared.refusal.Refusal.TheVariants as refusals
use Rattle.module_changes.specs.declared.entry.MadeChange.{MadeChange}
use Rattle.module_rewrites.specs.Seeded.{seeded}
use Rattle.module_rewrites.specs.declared.attempt.Reason.TheVariants as reasons
use Rattle.teddertempo_c.specs.ChangeOptions.{AreBad, count_of, scope_of_change_options}
use Rattle.teddertempo_c.specs.ChangeReports.{IsChangedBySeed, IsChangedSo, IsOutcome, IsOutcomeFor, TellsChanges}
use Rattle.teddertempo_c.specs.ChangeReports.{offset_by, outcome_by}
use Rattle.teddertempo_c.specs.Changes.{HasSize}
use Rattle.teddertempo_c.specs.Options.{are_zero}
use Rattle.teddertempo_c.specs.Outcome.{outcome_number}
use Rattle.teddertempo_c.specs.Reported.{IsBadCall, IsMade, IsNone}
use Rattle.teddertempo_c.specs.declared.change_options.ChangeOptions.{ChangeOptions}
use Rattle.teddertempo_c.specs.declared.outcome.Outcome.TheVariants.{Done, NoMemory}
use Rattle.teddertempo_c.specs.declared.outcome.Refusal.{Refusal}
use Rattle.teddertempo_c.specs.declared.report.Made.{Made}
use Rattle.teddertempo_c.proofs.ChangesLemmas.{size_of_all}
use Rattle.teddertempo_c.proofs.OptionsLemmas.{most_le}
use Rattle.teddertempo_c.proofs.OutcomeLemmas.{by_fault}
use Rattle.teddertempo_c.proofs.ReportedLemmas.{none_for, sized}

-- ---- a new module's size

module _ (options : ChangeOptions) (size room : ℕ) (bytes : List ℕ) where
  size_so : (made : List MadeChange) (new : List ℕ) → IsChangedBySeed options size room bytes made new → HasSize room new
  size_so made new is =
      let has = size_of_all (scope_of_change_options options size room) (count_of options) bytes (seeded options.seed) made new is.stopped is.changes in
      let below = most_le options.growth options.flags size room in
      record { some = has.some; fits = omega (arith, has.fits, below) }

-- ---- what a refusal comes to is right

module _ (scope : Scope) (bytes : List ℕ) (s : Stream) where
  by_refusal : (refusal : ChangeRefusal) → IsRefusal scope bytes s refusal → IsOutcome scope bytes s (offset_by refusal) (outcome_by refusal)
  by_refusal (refusals.Read e) h = by_fault (IsOutcome scope bytes s) bytes (λ offset h. h) (λ offset h. h) refl e.kind e.offset h
  by_refusal (refusals.NoFunction function) h = (refl, (reasons.NoFunction function, h))
  by_refusal (refusals.UnknownImport e) h = (refl, (reasons.UnknownImport e, h))
  by_refusal refusals.NoChange h = (refl, h)
  by_refusal refusals.TooLarge h = (refl, h)
  by_refusal refusals.Memory h = refl

-- ---- an attempt

module _ (options : ChangeOptions) (size : ℕ) (buffer : List ℕ) (good : ¬ (IsBadCall (AreBad options) size buffer)) where
  pub made_so : (made : List MadeChange) (m : Made) →
      IsChangedBySeed options (length (take size buffer)) (length buffer) (take size buffer) made m.bytes.items →
      m.report.outcome ≡ outcome_number Done → TellsChanges made m.report → IsTrue (are_zero m.report.reserved) →
      IsMade (IsChangedSo options size buffer) (IsBadCall (AreBad options) size buffer) (length buffer) m
  made_so made m is number tells reserved =
      let there = subst (λ (n : ℕ). IsChangedBySeed options n (length buffer) (take size buffer) made m.bytes.items) (sized (AreBad options) size buffer good)
      is in
      let has = size_so options size (length buffer) (take size buffer) made m.bytes.items there in
      record {
        good = good;
        done = record { made = made; is = there; tells = tells };
        outcome = number;
        reserved = reserved;
        some = has.some;
        fits = has.fits;
      }

  pub none_so : (refusal : Refusal) (own : ChangeRefusal) → refusal ≡ record { outcome = outcome_by own; offset = offset_by own } →
      IsRefusal (scope_of_change_options options (length (take size buffer)) (length buffer)) (take size buffer) (seeded options.seed) own →
      IsNone (IsOutcomeFor options size buffer) (IsBadCall (AreBad options) size buffer) refusal
  none_so refusal own same is =
      none_for (IsOutcomeFor options size buffer) (IsBadCall (AreBad options) size buffer) (λ n h. h) (λ n h. h) refusal
      (record { outcome = outcome_by own; offset = offset_by own }) same good
      (by_refusal (scope_of_change_options options size (length buffer)) (take size buffer) (seeded options.seed) own
      (subst (λ (n : ℕ). IsRefusal (scope_of_change_options options n (length buffer)) (take size buffer) (seeded options.seed) own)
      (sized (AreBad options) size buffer good) is))

  pub none_memory : (refusal : Refusal) → refusal ≡ record { outcome = NoMemory; offset = 0 } →
      IsNone (IsOutcomeFor options size buffer) (IsBadCall (AreBad options) size buffer) refusal
  none_memory refusal same =
      none_for (IsOutcomeFor options size buffer) (IsBadCall (AreBad options) size buffer) (λ n h. h) (λ n h. h) refusal
      (record { outcome = NoMemory; offset = 0 }) same good refl
