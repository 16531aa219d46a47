-- In which form a run writes lines (this project).
use Rattle.std.specs.Prelude.{if◌then◌else◌}
use Rattle.module_options.specs.declared.form.Form.{Form}
use Rattle.module_options.specs.declared.form.Form.TheVariants.{Text, Json}
use Rattle.module_options.specs.declared.options.Options.{Options}

-- as JSON where that is asked for, else as text
abbrev pub output_form_of : Options → Form
output_form_of options = if options.json then Json else Text
