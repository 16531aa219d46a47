-- The line of the block, or none.
use Rattle.std.proofs.Common.{refl}
use Rattle.module_commands.proofs.BlocksLemmas.{tells_block, tells_none}
use Rattle.module_commands.proofs.blocks.line_ending.Goals as goal

pub returns-in_default : goal.returns-in_default
returns-in_default c form = tells_none form c.args.function c.args.operators.now c.args.last c.in_default.ensures.none

pub returns : goal.returns
returns c form = tells_block form c.args.function c.args.operators.now c.args.last c.in-Some.start _ c.in-Some.ensures.block refl
