-- The commands by their names (this project's).
use Rattle.std.specs.Prelude.{ℕ, List, codes, Option, Some, None, if◌then◌else◌}
use Rattle.std.specs.Str.{bytes_eq}
use Rattle.peephole_script.specs.declared.command.Command.{Command}
use Rattle.peephole_script.specs.declared.command.Command.TheVariants as name
use Rattle.peephole_script.specs.declared.declarations.Declaration.TheVariants as declare

-- the command of a name
abbrev pub command_of : List ℕ → Option Command
command_of word =
    if bytes_eq word (codes "body") then Some name.Body
    else if bytes_eq word (codes "at") then Some name.At
    else if bytes_eq word (codes "node") then Some name.Node
    else if bytes_eq word (codes "write") then Some name.Write
    else if bytes_eq word (codes "show") then Some name.Show
    else if bytes_eq word (codes "result") then Some name.Result
    else if bytes_eq word (codes "global") then Some (name.Declare declare.Global)
    else if bytes_eq word (codes "memory") then Some (name.Declare declare.Memory)
    else if bytes_eq word (codes "table") then Some (name.Declare declare.Table)
    else if bytes_eq word (codes "type") then Some (name.Declare declare.Type)
    else if bytes_eq word (codes "func") then Some (name.Declare declare.Function)
    else if bytes_eq word (codes "local") then Some name.Local
    else if bytes_eq word (codes "preserve") then Some name.Preserve
    else if bytes_eq word (codes "word") then Some name.Word
    else None
