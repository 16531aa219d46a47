-- The list of the sites of a module's functions, which `--change --list` writes (this project).
use Rattle.std.specs.Prelude.{◌≡◌, ℕ, ◌+◌, ◌^◌, ◌<◌, List, [], ◌∷◌, ◌++◌, codes, Option}
use Rattle.serde_json.specs.Data.{Data, no_members, object}
use Rattle.wasm_types.specs.Module.{Module}
use Rattle.wasm_module.specs.Module.{Layout}
use Rattle.body_changes.specs.Change.{change_name}
use Rattle.body_changes.specs.declared.change.Change.{Change}
use Rattle.module_changes.specs.Sites.{AreSitesOf}
use Rattle.module_changes.specs.declared.sites.Site.{Site}
use Rattle.module_commands.specs.Lines.{json_line, left_aligned, with_number, with_text}
use Rattle.module_commands.specs.Lists.{WritesOfFunctions}
use Rattle.module_options.specs.declared.form.Form.{Form}
use Rattle.module_options.specs.declared.form.Form.TheVariants.{Json, Text}

-- ---- the line of a site of the function with the index

-- the index of the function, the number of the operator in its body, and the name of the change
abbrev pub site_text : (function : ℕ) → Site → List ℕ
site_text function s =
    codes "function " ++ (left_aligned 6 function ++ (codes " operator " ++ (left_aligned 6 s.operator
    ++ (codes " change " ++ (change_name s.change ++ codes "\n")))))

-- the same three as an object
abbrev pub site_object : (function : ℕ) → Site → Data
site_object function s =
    object (with_text (codes "change") (change_name s.change) (with_number (codes "function") function
    (with_number (codes "operator") s.operator no_members)))

-- one site, in the form that was asked for
abbrev pub site_line : Form → (function : ℕ) → Site → List ℕ
site_line Text function s = site_text function s
site_line Json function s = json_line (site_object function s)

-- some of them, one line behind another
abbrev pub site_lines : Form → (function : ℕ) → List Site → List ℕ
site_lines form function [] = []
site_lines form function (s ∷ ss) = site_line form function s ++ site_lines form function ss

-- ---- the sites that there are

-- The text has a line for each operator and each of the changes that makes anything of it, of the function of the n-th code entry, and no other; none where
-- that can't be read. (An index has 64 bits.)
pub record ListsSitesInText (form : Form) (changes : List Change) (bytes : List ℕ) (info : Module) (layout : Layout) (n : ℕ) (text : List ℕ) : Type 0 where
  pub list : List Site
  pub are : AreSitesOf changes bytes info layout n list
  pub lines : layout.imported_functions + n < 2 ^ 64 → text ≡ site_lines form (layout.imported_functions + n) list

-- A device has grown by the lines of the functions that are looked at.
abbrev pub WritesSites : Form → List Change → (only : Option ℕ) → (bytes : List ℕ) → (old new : Option (List ℕ)) → Type 0
WritesSites form changes only bytes old new = WritesOfFunctions (ListsSitesInText form changes bytes) only bytes old new
