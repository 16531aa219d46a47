-- What a run writes (this project).
use Rattle.std.specs.Prelude.{◌≡◌, ◌⊎◌, ℕ, List, [], Bool, true, false, Option, Some, None}
use Rattle.std.specs.Io.KnownBytes.{Appends}
use Rattle.wasm_sections.specs.declared.section.Section.{Section}
use Rattle.wasm_sections.specs.Section.{SpellsModule}
use Rattle.wasm_sections.specs.Debug.{IsWithoutDebug}
use Rattle.module_rewrites.specs.Attempt.{IsForSize, IsReason}
use Rattle.module_rewrites.specs.Chosen.{GivesUp}
use Rattle.module_rewrites.specs.ChosenTimes.{ChoosesTimes}
use Rattle.module_rewrites.specs.DoesAsBefore.{DoesAsBefore}
use Rattle.module_rewrites.specs.Dose.{IsDoseOf}
use Rattle.module_rewrites.specs.Mutates.{Mutates}
use Rattle.module_rewrites.specs.Seeded.{seeded}
use Rattle.module_rewrites.specs.declared.attempt.Reason.{Reason}
use Rattle.module_rewrites.specs.declared.attempt.Reason.TheVariants.{Refused}
use Rattle.module_rewrites.specs.declared.mutation.MutationError.{MutationError}
use Rattle.module_rewrites.specs.declared.times.MadeRewrite.{MadeRewrite}
use Rattle.module_commands.specs.Ending.{ending_of}
use Rattle.module_commands.specs.Failures.{leaves_by}
use Rattle.module_options.specs.Scope.{scope_of}
use Rattle.module_commands.specs.declared.ending.Ending.{Ending}
use Rattle.module_options.specs.declared.options.Options.{Options}

-- The bytes are the module's, or where its custom sections that name places in the code are dropped, the module's without these.
abbrev pub IsWrittenAs : (strip : Bool) → (module_bytes written : List ℕ) → Type 0
IsWrittenAs false module_bytes written = written ≡ module_bytes
IsWrittenAs true module_bytes written = (sections : List Section) × SpellsModule module_bytes sections × IsWithoutDebug module_bytes sections written

-- The new bytes are the module with one rewrite or more made, at most `count`, as the seed of the options chooses them.
pub record IsRewrittenByOptions (options : Options) (count : ℕ) (bytes : List ℕ) (made : List MadeRewrite) (stopped : Option MutationError) (new : List ℕ) :
    Type 0 where
  pub mutates : Mutates (scope_of options) count bytes made new stopped
  pub chosen : ChoosesTimes (scope_of options) bytes (seeded options.seed) made new stopped

-- what refused the module with each rewrite, where something did
abbrev pub stopped_by : Reason → Option MutationError
stopped_by (Refused e) = Some e
stopped_by reason = None

-- The new bytes are the module as it is: rewrites are to make it smaller, and no rule applies, or the words that the seed gives choose no rewrite with which it
-- is smaller.
pub record IsLeft (options : Options) (bytes : List ℕ) (made : List MadeRewrite) (stopped : Option MutationError) (new : List ℕ) : Type 0 where
  pub reason : Reason
  pub is : IsReason (scope_of options) bytes reason
  pub leaves : leaves_by options bytes reason ≡ true
  pub gives_up : IsForSize reason → GivesUp (scope_of options) bytes (seeded options.seed)
  pub none : made ≡ []
  pub stopped_is : stopped ≡ stopped_by reason
  pub same : new ≡ bytes

-- Bytes are written of the module rewritten, at most as often as the options say, which is `count`, or as it is; they are valid where it was, and do what it
-- did.
pub record IsCommandOutcome (options : Options) (count : ℕ) (bytes : List ℕ) (made : List MadeRewrite) (stopped : Option MutationError) (written : List ℕ) :
    Type 0 where
  pub count_is : IsDoseOf options.dose options.function bytes count
  pub module_bytes : List ℕ
  pub is_made : IsRewrittenByOptions options count bytes made stopped module_bytes ⊎ IsLeft options bytes made stopped module_bytes
  pub is_written : IsWrittenAs options.strip_debug module_bytes written
  pub does : DoesAsBefore options.exact bytes written

-- A device has grown by such bytes, and a run that ends so has written them.
pub record WritesMutated (options : Options) (bytes : List ℕ) (ending : Ending) (old new : Option (List ℕ)) : Type 0 where
  pub made : List MadeRewrite
  pub stopped : Option MutationError
  pub written_bytes : List ℕ
  pub count : ℕ
  pub outcome : IsCommandOutcome options count bytes made stopped written_bytes
  pub written : Appends old new written_bytes
  pub ending_is : ending ≡ ending_of stopped
