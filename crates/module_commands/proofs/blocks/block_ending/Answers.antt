-- A block ends there, or none does.
use Rattle.std.proofs.Common.{refl}
use Rattle.module_commands.proofs.BlocksLemmas.{block_of, ends_of}
use Rattle.module_commands.proofs.blocks.block_ending.Goals as goal

pub returns-then-not-ends_block-clause-none : goal.returns-then-not-ends_block-clause-none
returns-then-not-ends_block-clause-none c start h =
    let ends = c.if-not-ends_block.ensures.1 (ends_of c.args.operators.now c.args.last start c.requires h) in
    absurd cc

pub returns-clause-block : goal.returns-clause-block
returns-clause-block c =
    let ends = c.if-not-ends_block.ensures.0 refl in
    block_of c.args.operators.now c.args.last c.block_start.result c.requires ends.0 ends.1 c.block_start.ensures.none c.block_start.ensures.longest
