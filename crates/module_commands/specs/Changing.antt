-- A module that a run changes: what it writes, and what it tells of that (this project).
use Rattle.std.specs.Prelude.{◌≡◌, ℕ, List, [], ◌∷◌, ◌++◌, length, Bool, true, false, ◌&&◌, codes, Option, Some, None, is_none, option_map, if◌then◌else◌}
use Rattle.std.specs.Io.KnownBytes.{Appends}
use Rattle.wasm_sections.specs.Fault.{fault_name}
use Rattle.module_changes.specs.Placed.{ChangesAt}
use Rattle.module_changes.specs.Sites.{site_of_change}
use Rattle.module_changes.specs.Times.{ChangesTimes}
use Rattle.module_changes.specs.Valid.{StaysValidModule}
use Rattle.module_changes.specs.declared.entry.MadeChange.{MadeChange}
use Rattle.module_changes.specs.declared.placed.ChangeAt.{ChangeAt}
use Rattle.module_changes.specs.declared.refusal.Refusal.{Refusal}
use Rattle.module_changes.specs.declared.refusal.Refusal.TheVariants.{Memory, NoChange, NoFunction, Read, TooLarge, UnknownImport}
use Rattle.module_rewrites.specs.DoesAsBefore.{DoesAsBefore}
use Rattle.module_rewrites.specs.Dose.{IsDoseOf}
use Rattle.module_rewrites.specs.Seeded.{seeded}
use Rattle.module_showing.specs.Changed.{shown_change_line as first_line}
use Rattle.module_commands.specs.Ending.{is_memory_fault}
use Rattle.module_options.specs.Form.{output_form_of}
use Rattle.module_commands.specs.Lines.{sizes_line, stopped_part}
use Rattle.module_commands.specs.Reports.{ReportsModule}
use Rattle.module_options.specs.Scope.{change_scope_of}
use Rattle.module_commands.specs.Sites.{site_line}
use Rattle.module_commands.specs.Writes.{IsWrittenAs}
use Rattle.module_commands.specs.declared.changing.ChangeShower.{ChangeShower}
use Rattle.module_commands.specs.declared.ending.Ending.{Ending}
use Rattle.module_commands.specs.declared.ending.Ending.TheVariants.{OutOfMemory, Whole}
use Rattle.module_commands.specs.declared.failure.Failure.{Failure}
use Rattle.module_commands.specs.declared.failure.Failure.TheVariants.{Unchanged, Memory as NoMemory}
use Rattle.module_options.specs.declared.form.Form.{Form}
use Rattle.module_options.specs.declared.options.Options.{Options}

-- ---- what is written

-- The module becomes the new bytes by changes of the operators that the options name; or where they name none by at most as many as they say, which is `count`,
-- as their seed chooses them.
abbrev pub MakesChanges : (place : Option ChangeAt) → Options → (count : ℕ) → (bytes : List ℕ) → List MadeChange → Option Refusal → (new : List ℕ) → Type 0
MakesChanges None options count bytes made stopped new =
    IsDoseOf options.dose options.function bytes count × ChangesTimes (change_scope_of options) count bytes (seeded options.seed) made new stopped
MakesChanges (Some at) options count bytes made stopped new = ChangesAt at options.max_size bytes made new × (stopped ≡ None)

-- Bytes are written of the module with these changes made, one or more: valid where it was. Where its custom sections that name places in the code are dropped,
-- what is left does what it does with them.
pub record IsChangedAs (options : Options) (count : ℕ) (bytes : List ℕ) (made : List MadeChange) (stopped : Option Refusal) (written : List ℕ) : Type 0 where
  pub module_bytes : List ℕ
  pub changes : MakesChanges options.place options count bytes made stopped module_bytes
  pub valid : StaysValidModule bytes module_bytes
  pub is_written : IsWrittenAs options.strip_debug module_bytes written
  pub does : DoesAsBefore false module_bytes written

-- out of memory where a further change was refused for that, else whole
abbrev pub change_ending : (stopped : Option Refusal) → Ending
change_ending (Some Memory) = OutOfMemory
change_ending (Some (Read e)) = if is_memory_fault e.kind then OutOfMemory else Whole
change_ending stopped = Whole

-- A device has grown by such bytes, and a run that ends so has written them.
pub record WritesChanged (options : Options) (bytes : List ℕ) (ending : Ending) (old new : Option (List ℕ)) : Type 0 where
  pub made : List MadeChange
  pub stopped : Option Refusal
  pub written_bytes : List ℕ
  pub count : ℕ
  pub outcome : IsChangedAs options count bytes made stopped written_bytes
  pub written : Appends old new written_bytes
  pub ending_is : ending ≡ change_ending stopped

-- ---- what is told

-- the function, the operator with which the code ended that was replaced, and the change, in the form that was asked for
abbrev pub change_line : Form → MadeChange → List ℕ
change_line form made = site_line form made.function (site_of_change made)

-- a line for each change, in the order in which they were made
abbrev pub change_lines : Form → List MadeChange → List ℕ
change_lines form [] = []
change_lines form (m ∷ ms) = change_line form m ++ change_lines form ms

-- the name of why no further change was made
abbrev pub refusal_name : Refusal → List ℕ
refusal_name (Read e) = fault_name e.kind
refusal_name (NoFunction function) = codes "NoFunction"
refusal_name (UnknownImport e) = codes "UnknownImport"
refusal_name NoChange = codes "NoChange"
refusal_name TooLarge = codes "TooLarge"
refusal_name Memory = codes "Memory"

-- the changes that were made, why there are no more where there were to be, and the sizes of the module and of what is written
abbrev pub changes_report : Form → (bytes : List ℕ) → List MadeChange → Option Refusal → (written : List ℕ) → List ℕ
changes_report form bytes made stopped written =
    (change_lines form made ++ stopped_part form (option_map refusal_name stopped)) ++ sizes_line form (length bytes) (length written)

-- the same where the options ask for it
abbrev pub report_asked : (asked : Bool) → Form → (bytes : List ℕ) → List MadeChange → Option Refusal → (written : List ℕ) → List ℕ
report_asked false form bytes made stopped written = []
report_asked true form bytes made stopped written = changes_report form bytes made stopped written

-- The text shows these changes, one behind another: of each the line that names it, and what is drawn behind that.
abbrev pub ShowsChanges : List MadeChange → (text : List ℕ) → Type 0
ShowsChanges [] text = text ≡ []
ShowsChanges (m ∷ ms) text = (drawn : List ℕ) × (rest : List ℕ) × (text ≡ (first_line m ++ drawn) ++ rest) × ShowsChanges ms rest

-- The same where changes are to be shown; else there is no text.
abbrev pub AreShown : (show : Bool) → List MadeChange → (text : List ℕ) → Type 0
AreShown false made text = text ≡ []
AreShown true made text = ShowsChanges made text

-- Changes are to be shown: those of operators that are named aren't.
abbrev pub are_shown : Options → Bool
are_shown options = options.show && is_none options.place

-- The device has grown by what is told of the module before it is changed, where that is asked for.
abbrev pub TellsModule : (asked : Bool) → Options → (bytes : List ℕ) → (old new : Option (List ℕ)) → Type 0
TellsModule false options bytes old new = new ≡ old
TellsModule true options bytes old new = ReportsModule options bytes old new

-- The module is written changed; and as far as the options ask for it, the notes have grown by what is told of it before, by what is shown of the changes, and
-- by what is reported of them and of what is written.
pub record TellsChanged (options : Options) (bytes : List ℕ) (ending : Ending) (old new notes_old notes_new : Option (List ℕ)) : Type 0 where
  pub writes : WritesChanged options bytes ending old new
  pub between : Option (List ℕ)
  pub before : TellsModule options.stats options bytes notes_old between
  pub shown : List ℕ
  pub shown_are : AreShown (are_shown options) writes.made shown
  pub changes : Appends between notes_new
      (shown ++ report_asked options.stats (output_form_of options) bytes writes.made writes.stopped writes.written_bytes)

-- ---- for private functions

-- why nothing is changed; want of memory is told as that
abbrev pub failure_by : Refusal → Failure
failure_by Memory = NoMemory
failure_by refusal = Unchanged refusal

-- the text has grown by what is shown of a change, where that is asked for
abbrev pub GrowsByChange : (wanted : Bool) → MadeChange → (old new : List ℕ) → Type 0
GrowsByChange false made old new = new ≡ old
GrowsByChange true made old new = (drawn : List ℕ) × (new ≡ old ++ (first_line made ++ drawn))

-- so it has where nothing failed
pub record ShowsOneChange {P : Type 0} (before : ChangeShower P) (made : MadeChange) (after : ChangeShower P) : Type 0 where
  pub wanted : after.wanted ≡ before.wanted
  pub never : after.failed ≡ false → before.failed ≡ false
  pub grows : after.failed ≡ false → GrowsByChange before.wanted made before.text.items after.text.items
