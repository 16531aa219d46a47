-- What `--show` writes of the rewrites that a run makes (this project).
use Rattle.std.specs.Prelude.{◌≡◌, ℕ, List, [], ◌∷◌, ◌++◌, Bool, true, false, Option}
use Rattle.std.specs.Io.KnownBytes.{Appends}
use Rattle.module_showing.specs.Shown.{first_line}
use Rattle.module_rewrites.specs.declared.times.MadeRewrite.{MadeRewrite}
use Rattle.module_commands.specs.Writes.{WritesMutated}
use Rattle.module_commands.specs.declared.ending.Ending.{Ending}
use Rattle.module_options.specs.declared.options.Options.{Options}
use Rattle.module_commands.specs.declared.showing.Shower.{Shower}

-- The text shows these rewrites, one behind another: of each the line that names it, and what is drawn behind that.
abbrev pub Shows : List MadeRewrite → (text : List ℕ) → Type 0
Shows [] text = text ≡ []
Shows (m ∷ ms) text = (drawn : List ℕ) × (rest : List ℕ) × (text ≡ (first_line m ++ drawn) ++ rest) × Shows ms rest

-- The same where rewrites are to be shown; else there is no text.
abbrev pub IsShown : (show : Bool) → List MadeRewrite → (text : List ℕ) → Type 0
IsShown false made text = text ≡ []
IsShown true made text = Shows made text

-- The notes have grown by what is shown of the rewrites that were made of the module that was written.
pub record ShowsMutated (options : Options) (bytes : List ℕ) (ending : Ending) (old new notes_old notes_new : Option (List ℕ)) : Type 0 where
  pub writes : WritesMutated options bytes ending old new
  pub text : List ℕ
  pub is_shown : IsShown options.show writes.made text
  pub written : Appends notes_old notes_new text

-- ---- for private functions

-- the text has grown by what is shown of a rewrite, where that is asked for
abbrev pub GrowsBy : (wanted : Bool) → MadeRewrite → (old new : List ℕ) → Type 0
GrowsBy false made old new = new ≡ old
GrowsBy true made old new = (drawn : List ℕ) × (new ≡ old ++ (first_line made ++ drawn))

-- so it has where nothing failed
pub record ShowsOne {P : Type 0} (before : Shower P) (made : MadeRewrite) (after : Shower P) : Type 0 where
  pub wanted : after.wanted ≡ before.wanted
  pub never : after.failed ≡ false → before.failed ≡ false
  pub grows : after.failed ≡ false → GrowsBy before.wanted made before.text.items after.text.items
