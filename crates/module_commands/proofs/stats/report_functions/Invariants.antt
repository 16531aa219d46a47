-- What was told of the functions so far, of which at most as many can't be read.
use Rattle.std.proofs.Common.{◌≤◌, ℕ, List}
use Rattle.std.specs.Io.KnownBytes.{Appends}
use Rattle.module_commands.specs.Reports.{TellsUnreadable}
use Rattle.module_commands.proofs.stats.report_functions.Given as goal

abbrev pub invariant-loop-n : goal.invariant-loop-n
invariant-loop-n g l =
    (l.unreadable ≤ l.n) × (text : List ℕ) × Appends (g.W.Write.contents l.initial.notes) (g.W.Write.contents l.notes) text
    × TellsUnreadable l.form l.bytes l.wasm.info l.wasm.layout l.n l.unreadable text
