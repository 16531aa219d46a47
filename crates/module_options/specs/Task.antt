-- What a run does (this project).
use Rattle.std.specs.Prelude.{if◌then◌else◌, Option, Some, None, codes, option_map}
use Rattle.std.specs.Str.{bytes_eq}
use Rattle.clap.specs.Walk.{Text}
use Rattle.module_options.specs.declared.flags.Flags.{Flags}
use Rattle.module_options.specs.declared.task.Task.{Task}
use Rattle.module_options.specs.declared.task.Task.TheVariants.{Rewrite, Change as Changed, List as Lists, Sites, Blocks, Rules, Changes}
use Rattle.rule_listing.specs.declared.form.Form.{Form}
use Rattle.rule_listing.specs.declared.form.Form.TheVariants.{Text as AsText, Json, Markdown}

-- what it lists of a module: the rewrites that there are, or where it is to be changed, the sites
abbrev pub list_task : Flags → Task
list_task flags = if flags.change then Sites else Lists

-- what the program does, but for the list of the rules: where neither a list nor changes are asked for, it rewrites
abbrev pub module_task : Flags → Task
module_task flags =
    if flags.list then list_task flags else if flags.blocks then Blocks else if flags.changes then Changes else if flags.change then Changed else Rewrite

-- the form with that name
abbrev pub form_named : Text → Option Form
form_named name =
    if bytes_eq name (codes "text") then Some AsText else if bytes_eq name (codes "json") then Some Json
    else if bytes_eq name (codes "markdown") then Some Markdown else None

-- what it does: where rules are to be listed that alone, if there is such a form
abbrev pub task_of : Flags → (form : Option Text) → Option Task
task_of flags None = Some (module_task flags)
task_of flags (Some name) = option_map Rules (form_named name)

-- it writes a module
abbrev pub WritesModule : Task → Type 0
WritesModule Rewrite = Unit {0}
WritesModule Changed = Unit {0}
WritesModule task = ⊥
