use Rattle.std.proofs.Common.{arith}
use Rattle.wasm_execution.proofs.OtherLemmas.{not_three}
use Rattle.wasm_execution.proofs.other_types.accept_three.Goals as goal

pub returns-in_default : goal.returns-in_default
returns-in_default c = not_three _ _ _ c.args.types.now (λ e. absurd (omega (arith, c.in_default.len_below)))

pub returns-in_default-2 : goal.returns-in_default-2
returns-in_default-2 c = not_three _ _ _ c.args.types.now (λ e. absurd (omega (arith, c.in_default.len_at_least)))
