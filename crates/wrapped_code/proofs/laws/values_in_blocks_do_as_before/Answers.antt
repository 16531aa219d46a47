use Rattle.wrapped_code.proofs.BlockLemmas.{values_in_blocks}
use Rattle.wrapped_code.proofs.laws.values_in_blocks_do_as_before.Goals as goal

pub returns : goal.returns
returns c = values_in_blocks c.wrapped_code_does_as_before.ensures.does
