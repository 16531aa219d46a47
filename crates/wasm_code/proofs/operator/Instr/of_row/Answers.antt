use Rattle.std.proofs.Common.{sym, ap, subst, ◌∙◌}
use Rattle.wasm_code.specs.Packed.{instruction_of, IsPacked}
use Rattle.wasm_code.proofs.PackedLemmas.{same_instruction, is_packed}
use Rattle.wasm_code.proofs.operator.Instr.of_row.Goals as goal

pub invariant_of-result : goal.invariant_of-result
invariant_of-result c = subst IsPacked (sym c.pack.ensures) (is_packed c.args.row c.args.imm c.requires)

pub returns : goal.returns
returns c = ap instruction_of c.pack.ensures ∙ same_instruction c.args.row c.args.imm c.requires.in_range
