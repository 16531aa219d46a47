use Rattle.std.proofs.Common.{◌≡◌, ◌++◌}
use Rattle.wasm_code.specs.Code.{BeginsWith, signed_form}
use Rattle.wasm_code.proofs.writing.put_form.Given as goal

abbrev pub invariant-loop-rest : goal.invariant-loop-rest
invariant-loop-rest l = record {
  written : l.out.items ++ signed_form l.negative l.rest ≡ l.fn.out.items ++ signed_form l.negative l.n;
  kept : BeginsWith l.out.items l.fn.out.items;
}

abbrev pub decreases-loop-rest : goal.decreases-loop-rest
decreases-loop-rest l = l.rest
