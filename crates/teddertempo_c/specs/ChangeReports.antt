-- What a call that changes a module by options leaves in the buffer, and what it reports (this project).
use Rattle.std.specs.Prelude.{◌≡◌, false, true, ℕ, List, [], ◌∷◌, ◌++◌, Option, length, take}
use Rattle.rand_core.specs.Stream.{Stream}
use Rattle.wasm_sections.specs.declared.fault.ModuleFault.TheVariants as faults
use Rattle.wasm_module.specs.Fault.{IsModuleFault}
use Rattle.module_changes.specs.Chosen.{ChangeGivesUp}
use Rattle.module_changes.specs.Scope.{Scope}
use Rattle.module_changes.specs.Times.{ChangesTimes}
use Rattle.module_changes.specs.Valid.{StaysValidModule}
use Rattle.module_changes.specs.declared.entry.MadeChange.{MadeChange}
use Rattle.module_changes.specs.declared.refusal.Refusal.{Refusal}
use Rattle.module_changes.specs.declared.refusal.Refusal.TheVariants as refusals
use Rattle.module_rewrites.specs.Attempt.{RefusesIndexOf}
use Rattle.module_rewrites.specs.Seeded.{seeded}
use Rattle.module_rewrites.specs.declared.attempt.Reason.{Reason}
use Rattle.teddertempo_c.specs.ChangeOptions.{AreBad, change_number, count_of, scope_of_change_options}
use Rattle.teddertempo_c.specs.Outcome.{IsNoModule, offset_by_fault, outcome_by_fault}
use Rattle.teddertempo_c.specs.Reported.{Reported}
use Rattle.teddertempo_c.specs.declared.change_options.ChangeOptions.{ChangeOptions}
use Rattle.teddertempo_c.specs.declared.outcome.Outcome.{Outcome}
use Rattle.teddertempo_c.specs.declared.outcome.Outcome.TheVariants.{Done, NotAModule, LinkableObject, Unreadable, NothingApplies, NoFunction}
use Rattle.teddertempo_c.specs.declared.outcome.Outcome.TheVariants.{TooLarge, NoMemory, BadOptions}
use Rattle.teddertempo_c.specs.declared.report.Report.{Report}

-- The new bytes are the module with these changes, at most as many as the options say, which the seed chooses; it is valid where the old one was.
pub record IsChangedBySeed (options : ChangeOptions) (size room : ℕ) (bytes : List ℕ) (made : List MadeChange) (new : List ℕ) : Type 0 where
  pub stopped : Option Refusal
  pub changes : ChangesTimes (scope_of_change_options options size room) (count_of options) bytes (seeded options.seed) made new stopped
  pub valid : StaysValidModule bytes new

-- how many changes were made, and the function and the number of the last one
pub record TellsChanges (made : List MadeChange) (report : Report) : Type 0 where
  pub count : report.made ≡ length made
  pub before : List MadeChange
  pub last : MadeChange
  pub made_are : made ≡ before ++ last ∷ []
  pub function : report.function ≡ last.function
  pub change : report.kind ≡ change_number last.change
  pub offset : report.offset ≡ 0

-- The first `size` bytes of the old ones are a module, and the new ones are that module changed as the options and the report say.
pub record IsChangedSo (options : ChangeOptions) (size : ℕ) (old new : List ℕ) (report : Report) : Type 0 where
  pub made : List MadeChange
  pub is : IsChangedBySeed options size (length old) (take size old) made new
  pub tells : TellsChanges made report

-- Why nothing of the module is changed; the offset is that of its fault, or 0. Nothing is said of a want of memory.
abbrev pub IsOutcome : Scope → (bytes : List ℕ) → Stream → (offset : ℕ) → Outcome → Type 0
IsOutcome scope bytes s offset Done = ⊥
IsOutcome scope bytes s offset NotAModule = IsNoModule bytes offset
IsOutcome scope bytes s offset LinkableObject = IsModuleFault bytes faults.Linkable offset
IsOutcome scope bytes s offset Unreadable = ⊥
IsOutcome scope bytes s offset NothingApplies = (offset ≡ 0) × ChangeGivesUp scope bytes false s
IsOutcome scope bytes s offset NoFunction = (offset ≡ 0) × ((reason : Reason) × RefusesIndexOf scope.function bytes reason)
IsOutcome scope bytes s offset TooLarge = (offset ≡ 0) × ChangeGivesUp scope bytes true s
IsOutcome scope bytes s offset NoMemory = offset ≡ 0
IsOutcome scope bytes s offset BadOptions = ⊥

-- that outcome is why nothing of the first `size` bytes is changed
abbrev pub IsOutcomeFor : ChangeOptions → (size : ℕ) → (old : List ℕ) → (offset : ℕ) → Outcome → Type 0
IsOutcomeFor options size old = IsOutcome (scope_of_change_options options size (length old)) (take size old) (seeded options.seed)

-- what the call does and reports
abbrev pub ChangesWith : ChangeOptions → (size : ℕ) → (old : List ℕ) → (result : ℕ) → (new : List ℕ) → Report → Type 0
ChangesWith options size old = Reported (IsChangedSo options size old) (IsOutcomeFor options size old) (AreBad options) size old

-- ---- for private functions

-- what a refusal comes to
abbrev pub outcome_by : Refusal → Outcome
outcome_by (refusals.Read e) = outcome_by_fault e.kind
outcome_by (refusals.NoFunction function) = NoFunction
outcome_by (refusals.UnknownImport e) = NoFunction
outcome_by refusals.NoChange = NothingApplies
outcome_by refusals.TooLarge = TooLarge
outcome_by refusals.Memory = NoMemory

-- the offset that is told of it; 0 where nothing of the module's bytes is at fault
abbrev pub offset_by : Refusal → ℕ
offset_by (refusals.Read e) = offset_by_fault e.kind e.offset
offset_by refusal = 0
