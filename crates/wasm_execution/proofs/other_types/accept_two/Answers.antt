use Rattle.std.proofs.Common.{arith}
use Rattle.wasm_execution.proofs.OtherLemmas.{not_two}
use Rattle.wasm_execution.proofs.other_types.accept_two.Goals as goal

pub returns-in_default-2 : goal.returns-in_default-2
returns-in_default-2 c = not_two _ _ c.args.types.now (λ e. absurd (omega (arith, c.in_default.len_at_least)))
