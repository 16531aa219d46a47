-- Those so far are told apart.
use Rattle.std.proofs.Common.{take}
use Rattle.std.specs.List.{All}
use Rattle.std.specs.Prelude.{IsTrue}
use Rattle.wasm_types.specs.declared.types.PrimitiveTypeInfo.{PrimitiveTypeInfo}
use Rattle.body_changes.specs.Typed.{is_told_apart}
use Rattle.body_changes.proofs.others.are_told_apart.Given as goal

abbrev pub invariant-loop-i : goal.invariant-loop-i
invariant-loop-i l = All (λ (t : PrimitiveTypeInfo). IsTrue (is_told_apart t)) (take l.i l.types)
