-- What a call that changes operators that are named comes to.
use Rattle.std.proofs.Common.{◌≡◌, ℕ, zero, suc, ◌+◌, ◌<◌, List, [], ◌∷◌, length, take, get_or, refl, sym, subst, arith}
use Rattle.std.specs.Prelude.{IsTrue}
use Rattle.wasm_sections.specs.declared.fault.ModuleFault.{ModuleFault}
use Rattle.wasm_sections.specs.declared.fault.ModuleFault.TheVariants as faults
use Rattle.body_changes.specs.declared.change.Change.{Change}
use Rattle.body_changes.specs.declared.change.TheConstants.{CHANGES}
use Rattle.module_changes.specs.Placed.{up_to, ChangesAt, ChangesDown, RefusesAt}
use Rattle.module_changes.specs.Valid.{StaysValidModule}
use Rattle.module_changes.specs.declared.entry.MadeChange.{MadeChange}
use Rattle.module_changes.specs.declared.placed.ChangeAt.{ChangeAt}
use Rattle.module_changes.specs.declared.refusal.Refusal.{Refusal as ChangeRefusal}
use Rattle.module_changes.specs.declared.refusal.Refusal.TheVariants as refusals
use Rattle.teddertempo_c.specs.ChangeOptions.{change_number}
use Rattle.teddertempo_c.specs.ChangeReports.{offset_by, outcome_by, TellsChanges}
use Rattle.teddertempo_c.specs.Changes.{HasSize}
use Rattle.teddertempo_c.specs.Options.{are_zero, most_of}
use Rattle.teddertempo_c.specs.Outcome.{outcome_by_fault, outcome_number}
use Rattle.teddertempo_c.specs.Places.{IsBad, IsChangedSo, IsOutcomeFor, Names}
use Rattle.teddertempo_c.specs.Reported.{IsBadCall, IsMade, IsNone}
use Rattle.teddertempo_c.specs.declared.outcome.Outcome.TheVariants.{Done, BadOptions}
use Rattle.teddertempo_c.specs.declared.outcome.Refusal.{Refusal}
use Rattle.teddertempo_c.specs.declared.place.Place.{Place}
use Rattle.teddertempo_c.specs.declared.report.Made.{Made}
use Rattle.teddertempo_c.proofs.FitsLemmas.{length-rewritten}
use Rattle.teddertempo_c.proofs.OptionsLemmas.{most_le}
use Rattle.teddertempo_c.proofs.ReportedLemmas.{none_for}

-- ---- the change with the number

-- they have the numbers from that one on
abbrev Numbered : (from : ℕ) → List Change → Type 0
Numbered from [] = Unit {0}
Numbered from (c ∷ cs) = (change_number c ≡ from) × Numbered (from + 1) cs

number_from : (from : ℕ) (cs : List Change) (n : ℕ) (d : Change) → Numbered from cs → n < length cs → change_number (get_or cs n d) ≡ from + n
number_from from [] n d h inside = absurd (omega (arith, inside))
number_from from (x ∷ cs) zero d h inside = let own = h.0 in omega (arith, own)
number_from from (x ∷ cs) (suc n) d h inside = let next = number_from (from + 1) cs n d h.1 (omega (arith, inside)) in omega (arith, next)

pub number_is : (n : ℕ) (d : Change) → n < length CHANGES → change_number (get_or CHANGES n d) ≡ n
number_is n d inside =
    let is = number_from 0 CHANGES n d
    (refl, (refl, (refl, (refl, (refl, (refl, (refl, (refl, (refl, (refl, (refl, (refl, (refl, (refl, tt)))))))))))))) inside in
    omega (arith, is)

-- ---- a new module's size

size_of_down : (at : ChangeAt) (size : ℕ) (bytes : List ℕ) (m : MadeChange) (ms : List MadeChange) (new : List ℕ) (left : ℕ) →
    ChangesDown at size bytes (m ∷ ms) new left → HasSize size new
size_of_down at size bytes m [] new left h =
    subst (HasSize size) (sym h.2.0) (record { some = length-rewritten _ _ _ _ _ h.0 h.1.makes.written; fits = h.1.makes.fits })
size_of_down at size bytes m (k ∷ ks) new left h = size_of_down (up_to at m.start) size h.0 k ks new left h.2

size_of_all : (at : ChangeAt) (size : ℕ) (bytes : List ℕ) (made : List MadeChange) (new : List ℕ) → ChangesAt at size bytes made new → HasSize size new
size_of_all at size bytes [] new h = absurd (let some = h.some in omega (arith, some))
size_of_all at size bytes (m ∷ ms) new h = size_of_down at size bytes m ms new h.left h.down

-- ---- a refusal is told as neither

of_fault : (fault : ModuleFault) → (outcome_by_fault fault ≡ Done → ⊥) × (outcome_by_fault fault ≡ BadOptions → ⊥)
of_fault faults.Linkable = ((λ e. absurd cc), (λ e. absurd cc))
of_fault faults.Memory = ((λ e. absurd cc), (λ e. absurd cc))
of_fault fault = ((λ e. absurd cc), (λ e. absurd cc))

of_refusal : (refusal : ChangeRefusal) → (outcome_by refusal ≡ Done → ⊥) × (outcome_by refusal ≡ BadOptions → ⊥)
of_refusal (refusals.Read e) = of_fault e.kind
of_refusal (refusals.NoFunction f) = ((λ e. absurd cc), (λ e. absurd cc))
of_refusal (refusals.UnknownImport e) = ((λ e. absurd cc), (λ e. absurd cc))
of_refusal refusals.NoChange = ((λ e. absurd cc), (λ e. absurd cc))
of_refusal refusals.TooLarge = ((λ e. absurd cc), (λ e. absurd cc))
of_refusal refusals.Memory = ((λ e. absurd cc), (λ e. absurd cc))

never_done : (place : Place) (size : ℕ) (old : List ℕ) (offset : ℕ) → IsOutcomeFor place size old offset Done → ⊥
never_done place size old offset h = (of_refusal h.refusal).0 (sym h.outcome_is)

never_bad : (place : Place) (size : ℕ) (old : List ℕ) (offset : ℕ) → IsOutcomeFor place size old offset BadOptions → ⊥
never_bad place size old offset h = (of_refusal h.refusal).1 (sym h.outcome_is)

-- ---- an attempt

module _ (place : Place) (size : ℕ) (buffer : List ℕ) (good : ¬ (IsBadCall (IsBad place) size buffer)) (at : ChangeAt) (most : ℕ)
    (names : Names place at) (most_is : most ≡ most_of place.growth place.flags size (length buffer)) where
  pub made_so : (made : List MadeChange) (m : Made) → ChangesAt at most (take size buffer) made m.bytes.items →
      StaysValidModule (take size buffer) m.bytes.items → m.report.outcome ≡ outcome_number Done → TellsChanges made m.report →
      IsTrue (are_zero m.report.reserved) → IsMade (IsChangedSo place size buffer) (IsBadCall (IsBad place) size buffer) (length buffer) m
  made_so made m changes valid number tells reserved =
      let has = size_of_all at most (take size buffer) made m.bytes.items changes in
      let below = most_le place.growth place.flags size (length buffer) in
      record {
        good = good;
        done = record {
          made = made;
          is = record {
            at = at;
            names = names;
            changes = subst (λ (n : ℕ). ChangesAt at n (take size buffer) made m.bytes.items) most_is changes;
            valid = valid;
          };
          tells = tells;
        };
        outcome = number;
        reserved = reserved;
        some = has.some;
        fits = omega (arith, has.fits, below, most_is);
      }

  pub none_so : (refusal : Refusal) (own : ChangeRefusal) → refusal ≡ record { outcome = outcome_by own; offset = offset_by own } →
      RefusesAt at most (take size buffer) own → IsNone (IsOutcomeFor place size buffer) (IsBadCall (IsBad place) size buffer) refusal
  none_so refusal own same refuses =
      none_for (IsOutcomeFor place size buffer) (IsBadCall (IsBad place) size buffer) (never_done place size buffer) (never_bad place size buffer) refusal
      (record { outcome = outcome_by own; offset = offset_by own }) same good (record {
        at = at;
        names = names;
        refusal = own;
        refuses = subst (λ (n : ℕ). RefusesAt at n (take size buffer) own) most_is refuses;
        outcome_is = refl;
        offset_is = refl;
      })
