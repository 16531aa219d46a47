-- What is left of the code leaves the same behind these types.
use Rattle.std.proofs.Common.{◌≡◌, [], drop}
use Rattle.wasm_execution.specs.Values.{context_in}
use Rattle.body_changes.specs.Typed.{told_types_after}
use Rattle.body_changes.proofs.typed.types_of_code.Given as goal

abbrev pub invariant-loop-i : goal.invariant-loop-i
invariant-loop-i l =
    told_types_after (context_in l.info l.locals) l.code [] ≡ told_types_after (context_in l.info l.locals) (drop l.i l.code) l.types.items
