use Rattle.std.proofs.Common.{ℕ, ◌-◌, List}
use Rattle.std.specs.Io.KnownBytes.{Appends}
use Rattle.module_options.specs.Form.{output_form_of}
use Rattle.module_commands.specs.Lists.{InTurn, ListsFunction}
use Rattle.module_options.specs.Scope.{scope_of}
use Rattle.module_commands.proofs.listing.list_rewrites.Given as goal

abbrev pub invariant-loop-n : goal.invariant-loop-n
invariant-loop-n g l =
    (text : List ℕ) × Appends (g.W.Write.contents l.initial.output) (g.W.Write.contents l.output) text
    × InTurn (ListsFunction (output_form_of l.options) (scope_of l.options) l.bytes l.module.info l.module.layout) l.from (l.n - l.from) text
