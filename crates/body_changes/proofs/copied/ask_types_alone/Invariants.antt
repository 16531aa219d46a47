-- So far the standard asks nothing more.
use Rattle.std.proofs.Common.{ℕ, ◌<◌}
use Rattle.std.specs.Prelude.{get_or, IsTrue}
use Rattle.wasm_code.specs.Instruction.{Instruction}
use Rattle.body_changes.specs.Drawing.{asks_types_alone}
use Rattle.body_changes.proofs.copied.ask_types_alone.Given as goal

abbrev pub invariant-loop-i : goal.invariant-loop-i
invariant-loop-i l = (k : ℕ) (d : Instruction) → k < l.i → IsTrue (asks_types_alone (get_or l.code k d))
