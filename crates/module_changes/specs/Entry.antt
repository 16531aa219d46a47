-- An attempt at a code entry. For private functions (this project).
use Rattle.std.specs.Prelude.{◌⊎◌, ⊤, false, true, ℕ, ◌+◌, ◌<◌, ◌≤◌, List, [], length}
use Rattle.rand_core.specs.Stream.{Stream}
use Rattle.wasm_types.specs.Module.{Module}
use Rattle.wasm_module.specs.Limits.{IsTooLarge}
use Rattle.wasm_module.specs.Module.{Layout, IsModule}
use Rattle.wasm_module.specs.Rewritten.{IsRewritten}
use Rattle.module_rewrites.specs.Attempt.{RefusesIndex}
use Rattle.module_rewrites.specs.Mutated.{IsChosen}
use Rattle.module_changes.specs.Changed.{ChangeDoesNotFit, HasNoChange, MakesChange}
use Rattle.module_rewrites.specs.declared.attempt.Reason.{Reason}
use Rattle.module_rewrites.specs.declared.attempt.Reason.TheVariants as reasons
use Rattle.module_changes.specs.Chosen.{AreUnchanged, ChoosesChangeBy, ChoosesLarge, ChoosesNothing, ChangeGivesUpOn}
use Rattle.module_changes.specs.Donor.{Donor}
use Rattle.module_changes.specs.Scope.{Choice, Scope}
use Rattle.module_changes.specs.declared.copying.Source.{Source}
use Rattle.module_changes.specs.declared.entry.Attempt.{Attempt}
use Rattle.module_changes.specs.declared.entry.Attempt.TheVariants.{Made, TooLarge, Unchanged}
use Rattle.module_changes.specs.declared.entry.Reading.{Reading}
use Rattle.module_changes.specs.declared.entry.Trial.{Trial}
use Rattle.module_changes.specs.declared.refusal.Refusal.{Refusal}
use Rattle.module_changes.specs.declared.refusal.Refusal.TheVariants as refusals

-- The bytes are a module, of which this was read.
abbrev pub IsReading : Reading → Type 0
IsReading r = IsModule r.bytes.now r.info.now r.layout.now

-- what a trial chooses among
abbrev pub choice_of : Trial → Choice
choice_of t = record { scope = t.scope.now; copied = t.copied.now }

-- where code is copied from
abbrev pub donor_of : Source → Donor
donor_of s = record { bytes = s.reading.bytes.now; info = s.reading.info.now; layout = s.reading.layout.now; plain = s.plain }

-- 32 bits don't hold a size of the module with these contents of the entry, or it has more than so many bytes
abbrev pub IsLarge : (bytes : List ℕ) → Layout → (n : ℕ) → (contents : List ℕ) → (most : ℕ) → Type 0
IsLarge bytes layout n contents most =
    IsTooLarge bytes layout n contents [] ⊎ ((new : List ℕ) × IsRewritten bytes layout n contents [] new × (most < length new))

-- what the attempt came to
abbrev pub IsTried : Choice → (bytes : List ℕ) → Module → Layout → (words : List ℕ) → (n : ℕ) → Attempt → Type 0
IsTried choice bytes info layout words n (Made made new) = MakesChange choice bytes info layout words n made new.items
IsTried choice bytes info layout words n Unchanged = HasNoChange choice bytes info layout words n
IsTried choice bytes info layout words n TooLarge = ChangeDoesNotFit choice bytes info layout words n

-- ---- several entries

-- Of the first entry from `from` on, before `to`, whose function the words change, that is so.
pub record IsFirstWithin (choice : Choice) (bytes : List ℕ) (info : Module) (layout : Layout) (words : List ℕ) (from to : ℕ) (Is : ℕ → Type 0) : Type 0 where
  pub n : ℕ
  pub behind : from ≤ n
  pub before : n < to
  pub chosen : IsChosen choice.scope.function (layout.imported_functions + n)
  pub unchanged : AreUnchanged choice bytes info layout words from n
  pub is : Is n

-- what attempts at these came to
abbrev pub AreTried : Choice → (bytes : List ℕ) → Module → Layout → (words : List ℕ) → (from to : ℕ) → Attempt → Type 0
AreTried choice bytes info layout words from to (Made made new) =
    IsFirstWithin choice bytes info layout words from to (λ n. MakesChange choice bytes info layout words n made new.items)
AreTried choice bytes info layout words from to Unchanged = AreUnchanged choice bytes info layout words from to
AreTried choice bytes info layout words from to TooLarge =
    IsFirstWithin choice bytes info layout words from to (ChangeDoesNotFit choice bytes info layout words)

-- what those at all entries did, by words of which the first one names an entry
abbrev pub AllTried : Donor → Scope → (bytes : List ℕ) → Module → Layout → (words : List ℕ) → Attempt → Type 0
AllTried donor scope bytes info layout words (Made made new) = ChoosesChangeBy donor scope bytes info layout words made new.items
AllTried donor scope bytes info layout words Unchanged = ChoosesNothing donor scope bytes info layout words
AllTried donor scope bytes info layout words TooLarge = ChoosesLarge donor scope bytes info layout words

-- ---- drawn words

-- why no change is made of the module: no function of it may be changed, as many words as are drawn choose nothing that can be made, or for want of memory
abbrev pub RefusesFrom : Donor → Scope → (bytes : List ℕ) → Module → Layout → Stream → Refusal → Type 0
RefusesFrom donor scope bytes info layout s (refusals.NoFunction function) = RefusesIndex layout scope.function (reasons.NoFunction function)
RefusesFrom donor scope bytes info layout s (refusals.UnknownImport e) = RefusesIndex layout scope.function (reasons.UnknownImport e)
RefusesFrom donor scope bytes info layout s refusals.NoChange = ChangeGivesUpOn donor scope bytes info layout false s
RefusesFrom donor scope bytes info layout s refusals.TooLarge = ChangeGivesUpOn donor scope bytes info layout true s
RefusesFrom donor scope bytes info layout s refusals.Memory = ⊤
RefusesFrom donor scope bytes info layout s (refusals.Read e) = ⊥

-- why no function may be changed
abbrev pub refusal_by : Reason → Refusal
refusal_by (reasons.NoFunction function) = refusals.NoFunction function
refusal_by (reasons.UnknownImport e) = refusals.UnknownImport e
refusal_by reason = refusals.NoChange
