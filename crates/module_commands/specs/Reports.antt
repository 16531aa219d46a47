-- What `--stats` reports (this project).
use Rattle.std.specs.Prelude.{◌≡◌, ◌⊎◌, ℕ, zero, suc, ◌+◌, nat_lt, if◌then◌else◌, Bool, true, false, List, [], ◌∷◌, ◌++◌, length, codes, Option, Some, None}
use Rattle.std.specs.Io.KnownBytes.{Appends}
use Rattle.wasm_types.specs.Module.{Module}
use Rattle.wasm_module.specs.Module.{Layout, IsModule}
use Rattle.module_rewrites.specs.Attempt.{CanRead}
use Rattle.module_rewrites.specs.Scope.{Scope, IsMarked}
use Rattle.module_rewrites.specs.declared.mutation.MutationError.{MutationError}
use Rattle.module_rewrites.specs.declared.times.MadeRewrite.{MadeRewrite}
use Rattle.module_commands.specs.Blocks.{TellsUnread}
use Rattle.module_options.specs.Form.{output_form_of}
use Rattle.module_commands.specs.Lines.{functions_line, reach_lines, rewrite_line, sizes_line, stopped_name, stopped_part}
use Rattle.module_commands.specs.Reach.{IsReach}
use Rattle.module_options.specs.Scope.{scope_of}
use Rattle.module_commands.specs.Shown.{IsShown}
use Rattle.module_commands.specs.Writes.{WritesMutated}
use Rattle.module_commands.specs.declared.ending.Ending.{Ending}
use Rattle.module_options.specs.declared.form.Form.{Form}
use Rattle.module_options.specs.declared.options.Options.{Options}
use Rattle.module_commands.specs.declared.reach.Reach.{Reach}

-- ---- functions that can't be read

-- The text is the line of the function of the n-th code entry where that can't be read, and counts as one; none, which counts as 0, where it can.
abbrev pub TellsIfUnread : Form → (bytes : List ℕ) → Module → Layout → (n one : ℕ) → (text : List ℕ) → Type 0
TellsIfUnread form bytes info layout n one text =
    (CanRead bytes info layout n × (one ≡ 0) × (text ≡ [])) ⊎ (¬ (CanRead bytes info layout n) × (one ≡ 1) × TellsUnread form bytes info layout n text)

-- The same of the first `count` code entries, one behind another; together they count as so many.
abbrev pub TellsUnreadable : Form → (bytes : List ℕ) → Module → Layout → (count unreadable : ℕ) → (text : List ℕ) → Type 0
TellsUnreadable form bytes info layout zero unreadable text = (unreadable ≡ 0) × (text ≡ [])
TellsUnreadable form bytes info layout (suc n) unreadable text =
    (before : ℕ) × (one : ℕ) × (front : List ℕ) × (own : List ℕ) × (unreadable ≡ before + one) × (text ≡ front ++ own)
    × TellsUnreadable form bytes info layout n before front × TellsIfUnread form bytes info layout n one own

-- A device has grown by these lines of the module's functions, and the line that counts them.
pub record ReportsFunctions (form : Form) (bytes : List ℕ) (info : Module) (layout : Layout) (old new : Option (List ℕ)) : Type 0 where
  pub unreadable : ℕ
  pub lines : List ℕ
  pub told : TellsUnreadable form bytes info layout (length layout.entries) unreadable lines
  pub written : Appends old new (lines ++ functions_line form (length layout.entries) unreadable)

-- The text tells how much of the module the rules reach, where that is asked for; else there is none.
abbrev pub TellsReach : (asked : Bool) → Form → Scope → (bytes : List ℕ) → Module → Layout → (text : List ℕ) → Type 0
TellsReach false form scope bytes info layout text = text ≡ []
TellsReach true form scope bytes info layout text = (reach : Reach) × IsReach scope bytes info layout reach × (text ≡ reach_lines form reach)

-- A device has grown by the lines of the functions of the module with these bytes, and by such a text.
pub record ReportsModule (options : Options) (bytes : List ℕ) (old new : Option (List ℕ)) : Type 0 where
  pub info : Module
  pub layout : Layout
  pub is : IsModule bytes info layout
  pub marked : IsMarked (scope_of options) info
  pub between : Option (List ℕ)
  pub functions : ReportsFunctions (output_form_of options) bytes info layout old between
  pub text : List ℕ
  pub tells : TellsReach options.reach (output_form_of options) (scope_of options) bytes info layout text
  pub reaches : Appends between new text

-- ---- rewrites

-- a line for each rewrite, in the order in which they were made
abbrev pub made_lines : Form → List MadeRewrite → List ℕ
made_lines form [] = []
made_lines form (m ∷ ms) = rewrite_line form m.function m.rewrite ++ made_lines form ms

-- why there are no more rewrites than these, where there were to be so many: one was refused, or there are fewer, since no rule applies any more
abbrev pub stop_name : (count : ℕ) → List MadeRewrite → Option MutationError → Option (List ℕ)
stop_name count made (Some e) = Some (stopped_name e)
stop_name count made None = if nat_lt (length made) count then Some (codes "NoRule") else None

-- the rewrites that were made, in order, why there are no more where there were to be, and the sizes of the module and of what is written
abbrev pub rewrites_report : Form → (count : ℕ) → (bytes : List ℕ) → List MadeRewrite → Option MutationError → (written : List ℕ) → List ℕ
rewrites_report form count bytes made stopped written =
    (made_lines form made ++ stopped_part form (stop_name count made stopped)) ++ sizes_line form (length bytes) (length written)

-- The notes have grown by what is told of the module, by what is shown of the rewrites that were made where they are to be, and by what is told of them and
-- of the module that was written.
pub record ReportsMutated (options : Options) (bytes : List ℕ) (ending : Ending) (old new notes_old notes_new : Option (List ℕ)) : Type 0 where
  pub writes : WritesMutated options bytes ending old new
  pub between : Option (List ℕ)
  pub before : ReportsModule options bytes notes_old between
  pub shown : List ℕ
  pub is_shown : IsShown options.show writes.made shown
  pub rewrites : Appends between notes_new
      (shown ++ rewrites_report (output_form_of options) writes.count bytes writes.made writes.stopped writes.written_bytes)
