use Rattle.std.proofs.Common.{◌∙◌}
use Rattle.std.specs.Prelude.{option_copied}
use Rattle.wasm_execution.proofs.OtherLemmas.{call_is}
use Rattle.wasm_execution.proofs.other_types.accept.Goals as goal

pub returns-in-Parameters : goal.returns-in-Parameters
returns-in-Parameters c =
    rw c.in-Parameters.is (c.accept_parameters.ensures ∙ call_is c.args.info.now c.args.imm c.first_index.result
    (option_copied c.get_functype_idx.result) c.args.types.now c.first_index.ensures c.get_functype_idx.ensures)
