-- What a call that reports leaves in the buffer that it was given, and what it reports (this project).
use Rattle.std.specs.Prelude.{◌≡◌, ◌≢◌, ◌↔◌, ◌⊎◌, ℕ, ◌<◌, ◌≤◌, IsTrue, List, length, replicate, take}
use Rattle.teddertempo_c.specs.Options.{are_zero}
use Rattle.teddertempo_c.specs.Outcome.{outcome_number}
use Rattle.teddertempo_c.specs.Writes.{IsPutInBuffer, WritesFront}
use Rattle.teddertempo_c.specs.declared.outcome.Outcome.{Outcome}
use Rattle.teddertempo_c.specs.declared.outcome.Outcome.TheVariants.{Done, BadOptions}
use Rattle.teddertempo_c.specs.declared.outcome.Refusal.{Refusal}
use Rattle.teddertempo_c.specs.declared.report.Made.{Made}
use Rattle.teddertempo_c.specs.declared.report.Report.{Report}

-- the report with these fields; those of later versions are 0
abbrev pub report_of : Outcome → (kind function made offset : ℕ) → Report
report_of outcome kind function made offset = record {
  outcome = outcome_number outcome;
  kind = kind;
  function = function;
  made = made;
  offset = offset;
  reserved = replicate 8 0;
}

-- nothing was made
pub record TellsNone (report : Report) : Type 0 where
  pub made : report.made ≡ 0
  pub function : report.function ≡ 0
  pub kind : report.kind ≡ 0

-- why nothing was made: what was asked for is bad, or that outcome is right
abbrev pub IsWhyNone : (Bad : Type 0) → (IsOutcome : (offset : ℕ) → Outcome → Type 0) → (offset : ℕ) → Outcome → Type 0
IsWhyNone Bad IsOutcome offset BadOptions = (offset ≡ 0) × Bad
IsWhyNone Bad IsOutcome offset outcome = IsOutcome offset outcome

-- The report says what was done, or why nothing was, and then no edit. What is bad is always reported as that. The words of later versions are 0.
pub record Tells (IsDone IsNothing : Type 0) (IsOutcome : (offset : ℕ) → Outcome → Type 0) (Bad : Type 0) (report : Report) : Type 0 where
  pub outcome : Outcome
  pub number : report.outcome ≡ outcome_number outcome
  pub done : outcome ≡ Done → IsDone
  pub nothing : outcome ≢ Done → IsNothing
  pub none : outcome ≢ Done → TellsNone report
  pub why : outcome ≢ Done → IsWhyNone Bad IsOutcome report.offset outcome
  pub bad : Bad → outcome ≡ BadOptions
  pub reserved : IsTrue (are_zero report.reserved)

-- the size is above that of the buffer, or what is asked for is bad
abbrev pub IsBadCall : (Bad : Type 0) → (size : ℕ) → (old : List ℕ) → Type 0
IsBadCall Bad size old = (length old < size) ⊎ Bad

-- The first bytes of the buffer, the result says how many, are a new module, as the report says; or the result is 0, the buffer is unchanged, and the report
-- says why.
pub record Reported (IsDone : (new : List ℕ) → Report → Type 0) (IsOutcome : (offset : ℕ) → Outcome → Type 0) (Bad : Type 0) (size : ℕ) (old : List ℕ)
    (result : ℕ) (new : List ℕ) (report : Report) : Type 0 where
  pub writes : WritesFront old result new
  pub tells : Tells (IsDone (take result new) report) (result ≡ 0) IsOutcome (IsBadCall Bad size old) report
  pub some : (result ≢ 0) ↔ (tells.outcome ≡ Done)

-- ---- for private functions

-- the new module is written over the front of the buffer, and its report is the report
pub record IsWritten (made : Made) (old : List ℕ) (result : ℕ) (new : List ℕ) (report : Report) : Type 0 where
  pub put : IsPutInBuffer made.bytes.items old result new
  pub report_is : report ≡ made.report

-- nothing is written but the report
pub record IsLeft (refusal : Refusal) (old : List ℕ) (result : ℕ) (new : List ℕ) (report : Report) : Type 0 where
  pub size : result ≡ 0
  pub unchanged : new ≡ old
  pub report_is : report ≡ report_of refusal.outcome 0 0 0 refusal.offset

-- the call isn't bad, and these are a new module of at most so many bytes, and the report on it
pub record IsMade (IsDone : (new : List ℕ) → Report → Type 0) (Bad : Type 0) (room : ℕ) (made : Made) : Type 0 where
  pub good : ¬ Bad
  pub done : IsDone made.bytes.items made.report
  pub outcome : made.report.outcome ≡ outcome_number Done
  pub reserved : IsTrue (are_zero made.report.reserved)
  pub some : 0 < length made.bytes.items
  pub fits : length made.bytes.items ≤ room

-- nothing is made, and the outcome is right
pub record IsNone (IsOutcome : (offset : ℕ) → Outcome → Type 0) (Bad : Type 0) (refusal : Refusal) : Type 0 where
  pub why : IsWhyNone Bad IsOutcome refusal.offset refusal.outcome
  pub bad : Bad → refusal.outcome ≡ BadOptions
  pub undone : refusal.outcome ≢ Done
