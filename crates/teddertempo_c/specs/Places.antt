-- A call that changes operators of a module that are named: what it asks for, and what it leaves and reports (this project).
use Rattle.std.specs.Prelude.{◌≡◌, ◌⊎◌, ℕ, ◌≤◌, eqb, if◌then◌else◌, List, length, take}
use Rattle.body_changes.specs.declared.change.TheConstants.{CHANGES}
use Rattle.module_changes.specs.Placed.{ChangesAt, RefusesAt}
use Rattle.module_changes.specs.Valid.{StaysValidModule}
use Rattle.module_changes.specs.declared.entry.MadeChange.{MadeChange}
use Rattle.module_changes.specs.declared.placed.ChangeAt.{ChangeAt}
use Rattle.module_changes.specs.declared.refusal.Refusal.{Refusal}
use Rattle.teddertempo_c.specs.ChangeOptions.{change_number}
use Rattle.teddertempo_c.specs.ChangeReports.{offset_by, outcome_by, TellsChanges}
use Rattle.teddertempo_c.specs.Options.{IsMisused, most_of}
use Rattle.teddertempo_c.specs.Reported.{Reported}
use Rattle.teddertempo_c.specs.declared.options.TheConstants.{NO_GROWTH}
use Rattle.teddertempo_c.specs.declared.outcome.Outcome.{Outcome}
use Rattle.teddertempo_c.specs.declared.place.Place.{Place}
use Rattle.teddertempo_c.specs.declared.report.Report.{Report}

-- The place is refused.
abbrev pub IsBad : Place → Type 0
IsBad place = IsMisused place.growth place.flags NO_GROWTH place.reserved ⊎ (length CHANGES ≤ place.change)

-- the operator after the last one: by 0 there is none after all of them
abbrev pub end_of : (end : ℕ) → ℕ
end_of end = if eqb end 0 then 18446744073709551615 else end

-- These operators are named: those of the function from `first` on up to the one before `end`, by the change with the number.
pub record Names (place : Place) (at : ChangeAt) : Type 0 where
  pub change : change_number at.change ≡ place.change
  pub function : at.function ≡ place.function
  pub first : at.first ≡ place.first
  pub end : at.end ≡ end_of place.end

-- The new bytes are the module with that change of each of these operators of which it makes anything; it is valid where the old one was.
pub record IsChangedThere (place : Place) (size room : ℕ) (bytes : List ℕ) (made : List MadeChange) (new : List ℕ) : Type 0 where
  pub at : ChangeAt
  pub names : Names place at
  pub changes : ChangesAt at (most_of place.growth place.flags size room) bytes made new
  pub valid : StaysValidModule bytes new

-- The first `size` bytes of the old ones are a module, and the new ones are that module changed as the place and the report say.
pub record IsChangedSo (place : Place) (size : ℕ) (old new : List ℕ) (report : Report) : Type 0 where
  pub made : List MadeChange
  pub is : IsChangedThere place size (length old) (take size old) made new
  pub tells : TellsChanges made report

-- The outcome is why none of these operators of the first `size` bytes is changed, and the offset that of the module's fault, or 0.
pub record IsOutcomeFor (place : Place) (size : ℕ) (old : List ℕ) (offset : ℕ) (outcome : Outcome) : Type 0 where
  pub at : ChangeAt
  pub names : Names place at
  pub refusal : Refusal
  pub refuses : RefusesAt at (most_of place.growth place.flags size (length old)) (take size old) refusal
  pub outcome_is : outcome ≡ outcome_by refusal
  pub offset_is : offset ≡ offset_by refusal

-- what the call does and reports
abbrev pub ChangesPlace : Place → (size : ℕ) → (old : List ℕ) → (result : ℕ) → (new : List ℕ) → Report → Type 0
ChangesPlace place size old = Reported (IsChangedSo place size old) (IsOutcomeFor place size old) (IsBad place) size old
