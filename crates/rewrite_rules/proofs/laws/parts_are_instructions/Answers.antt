use Rattle.rewrite_rules.proofs.InstructionLemmas.{parts_are_instructions}
use Rattle.rewrite_rules.proofs.laws.parts_are_instructions.Goals as goal

pub returns : goal.returns
returns c = parts_are_instructions c.table_is_right.ensures c.sides_are_parts.ensures
