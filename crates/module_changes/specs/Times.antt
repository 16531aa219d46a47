-- A module changed several times, one change after another (this project).
use Rattle.std.specs.Prelude.{◌≡◌, ⊤, false, true, ℕ, ◌<◌, ◌≤◌, List, [], ◌∷◌, length, Option, Some, None}
use Rattle.rand_core.specs.Stream.{Stream}
use Rattle.wasm_module.specs.Fault.{IsModuleFault}
use Rattle.module_rewrites.specs.Attempt.{RefusesIndexOf}
use Rattle.module_rewrites.specs.declared.attempt.Reason.TheVariants as reasons
use Rattle.module_changes.specs.Chosen.{ChoosesOne, ChangeGivesUp}
use Rattle.module_changes.specs.Scope.{Scope}
use Rattle.module_changes.specs.declared.entry.MadeChange.{MadeChange}
use Rattle.module_changes.specs.declared.refusal.Refusal.{Refusal}
use Rattle.module_changes.specs.declared.refusal.Refusal.TheVariants.{Memory, NoChange, NoFunction, Read, TooLarge, UnknownImport}

-- The words choose these changes and the new bytes: the first one of the module, and each other one of the module that the one before it left, by the words
-- behind those that it took. `after` is what the generator gives behind them all.
abbrev pub ChoosesEachChange : Scope → (bytes : List ℕ) → Stream → List MadeChange → (new : List ℕ) → (after : Stream) → Type 0
ChoosesEachChange scope bytes s [] new after = (new ≡ bytes) × (after ≡ s)
ChoosesEachChange scope bytes s (m ∷ ms) new after =
    (next : List ℕ) × (left : Stream) × ChoosesOne scope bytes s m next left × ChoosesEachChange scope next left ms new after

-- Why nothing of the module is changed, or nothing more: the bytes are none that can be read, it has no function of its own with the index that is named, as
-- many words as are drawn choose no change, or none that fits, or for want of memory.
abbrev pub IsRefusal : Scope → (bytes : List ℕ) → Stream → Refusal → Type 0
IsRefusal scope bytes s (Read e) = IsModuleFault bytes e.kind e.offset
IsRefusal scope bytes s (NoFunction function) = RefusesIndexOf scope.function bytes (reasons.NoFunction function)
IsRefusal scope bytes s (UnknownImport e) = RefusesIndexOf scope.function bytes (reasons.UnknownImport e)
IsRefusal scope bytes s NoChange = ChangeGivesUp scope bytes false s
IsRefusal scope bytes s TooLarge = ChangeGivesUp scope bytes true s
IsRefusal scope bytes s Memory = ⊤

-- The new bytes are the module with these changes, one or more, at most `count`, as the words choose them; and fewer only for that reason.
pub record ChangesTimes (scope : Scope) (count : ℕ) (bytes : List ℕ) (s : Stream) (made : List MadeChange) (new : List ℕ) (stopped : Option Refusal) :
    Type 0 where
  pub some : 0 < length made
  pub most : length made ≤ count
  pub after : Stream
  pub each : ChoosesEachChange scope bytes s made new after
  pub fewer : length made < count → (refusal : Refusal) × (stopped ≡ Some refusal) × IsRefusal scope new after refusal
  pub all : length made ≡ count → stopped ≡ None
