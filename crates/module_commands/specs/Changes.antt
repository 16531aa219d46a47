-- The list of the changes (this project).
use Rattle.std.specs.Prelude.{ℕ, List, [], ◌∷◌, ◌++◌, codes, Option}
use Rattle.std.specs.Io.KnownBytes.{Appends}
use Rattle.serde_json.specs.Data.{Data, no_members, object}
use Rattle.body_changes.specs.Change.{change_name}
use Rattle.body_changes.specs.declared.change.Change.{Change}
use Rattle.body_changes.specs.declared.change.Change.TheVariants as change
use Rattle.body_changes.specs.declared.change.TheConstants.{CHANGES}
use Rattle.module_commands.specs.Lines.{json_line, with_text}
use Rattle.module_options.specs.declared.form.Form.{Form}
use Rattle.module_options.specs.declared.form.Form.TheVariants.{Json, Text}

-- what it makes, in words
abbrev pub summary : Change → List ℕ
summary change.Constant = codes "a constant becomes another one of its type"
summary change.Operator = codes "an operator becomes another one of the same types"
summary change.Local = codes "an access to a local becomes one to another of its type"
summary change.Draw = codes "a value is drawn anew, by at most eight instructions"
summary change.Copy = codes "code becomes a copy of other code of the module that leaves the same types"
summary change.FirstOperand = codes "the first of two operands stands for the whole"
summary change.LastOperand = codes "the last operand stands for the whole"
summary change.ExchangeOperands = codes "two operands of one type change places"
summary change.Delete = codes "a statement is gone"
summary change.Double = codes "a statement stands there twice"
summary change.ExchangeStatements = codes "two statements change places"
summary change.Global = codes "a global that is read becomes another one of its type"
summary change.Call = codes "a function that is called becomes another one of its type"
summary change.MemoryArgument = codes "a load or a store gets another offset, and an alignment that is no greater"

-- its name, and that
abbrev pub summary_text : Change → List ℕ
summary_text c = change_name c ++ (codes ": " ++ (summary c ++ codes "\n"))

-- the same two as an object
abbrev pub summary_object : Change → Data
summary_object c = object (with_text (codes "change") (change_name c) (with_text (codes "makes") (summary c) no_members))

-- one change, in the form that was asked for
abbrev pub summary_line : Form → Change → List ℕ
summary_line Text c = summary_text c
summary_line Json c = json_line (summary_object c)

-- some of them, one line behind another
abbrev pub summary_lines : Form → List Change → List ℕ
summary_lines form [] = []
summary_lines form (c ∷ cs) = summary_line form c ++ summary_lines form cs

-- A device has grown by the lines of all changes.
abbrev pub WritesChanges : Form → (old new : Option (List ℕ)) → Type 0
WritesChanges form old new = Appends old new (summary_lines form CHANGES)
