-- A module changed once, where the code that may be copied is of another module (this project).
use Rattle.std.specs.Prelude.{◌≡◌, ⊤, Bool, false, true, ℕ, List}
use Rattle.rand_core.specs.Stream.{Stream}
use Rattle.wasm_types.specs.Module.{Module}
use Rattle.wasm_module.specs.Fault.{IsModuleFault}
use Rattle.wasm_module.specs.Module.{Layout, IsModule}
use Rattle.module_rewrites.specs.Attempt.{RefusesIndexOf}
use Rattle.module_rewrites.specs.declared.attempt.Reason.TheVariants as reasons
use Rattle.module_changes.specs.Chosen.{ChoosesLater, ChangeGivesUpOn}
use Rattle.module_changes.specs.Donor.{Donor}
use Rattle.module_changes.specs.Scope.{Scope}
use Rattle.module_changes.specs.declared.entry.MadeChange.{MadeChange}
use Rattle.module_changes.specs.declared.refusal.Refusal.TheVariants.{Memory, NoChange, NoFunction, Read, TooLarge, UnknownImport}
use Rattle.module_changes.specs.declared.splicing.SpliceRefusal.{SpliceRefusal}
use Rattle.module_changes.specs.declared.splicing.SpliceRefusal.TheVariants.{Change, Other}

-- Of another module such code alone is copied of which the standard asks nothing beyond its types: what else is asked was asked of another module.
abbrev pub another : (bytes : List ℕ) → Module → Layout → Donor
another bytes info layout = record { bytes = bytes; info = info; layout = layout; plain = true }

-- Both are modules, of which this was read; the second one gives code.
pub record AreModules (bytes other : List ℕ) : Type 0 where
  pub info : Module
  pub layout : Layout
  pub is : IsModule bytes info layout
  pub exact : info.exact ≡ false
  pub others : Module
  pub others_layout : Layout
  pub other_is : IsModule other others others_layout

abbrev pub donor_in : {bytes other : List ℕ} → AreModules bytes other → Donor
donor_in {bytes} {other} m = another other m.others m.others_layout

-- The generator's words make this of the module with these bytes, and of code of the other one.
pub record SplicesOne (scope : Scope) (bytes other : List ℕ) (s : Stream) (made : MadeChange) (new : List ℕ) (after : Stream) : Type 0 where
  pub are : AreModules bytes other
  pub chooses : ChoosesLater (donor_in are) scope bytes are.info are.layout s made new after

-- They make nothing, so many times; `large` is true where any choose what doesn't fit.
pub record SplicesNone (scope : Scope) (bytes other : List ℕ) (large : Bool) (s : Stream) : Type 0 where
  pub are : AreModules bytes other
  pub gives_up : ChangeGivesUpOn (donor_in are) scope bytes are.info are.layout large s

-- why nothing of the module is changed
abbrev pub IsSpliceRefusal : Scope → (bytes other : List ℕ) → Stream → SpliceRefusal → Type 0
IsSpliceRefusal scope bytes other s (Other e) = IsModuleFault other e.kind e.offset
IsSpliceRefusal scope bytes other s (Change (Read e)) = IsModuleFault bytes e.kind e.offset
IsSpliceRefusal scope bytes other s (Change (NoFunction function)) = RefusesIndexOf scope.function bytes (reasons.NoFunction function)
IsSpliceRefusal scope bytes other s (Change (UnknownImport e)) = RefusesIndexOf scope.function bytes (reasons.UnknownImport e)
IsSpliceRefusal scope bytes other s (Change NoChange) = SplicesNone scope bytes other false s
IsSpliceRefusal scope bytes other s (Change TooLarge) = SplicesNone scope bytes other true s
IsSpliceRefusal scope bytes other s (Change Memory) = ⊤
