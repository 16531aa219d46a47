-- One ends there where one is found.
use Rattle.std.proofs.Common.{Bool, subst, sym}
use Rattle.std.specs.Prelude.{◌↔◌, IsTrue}
use Rattle.module_commands.specs.Reach.{EndsBlock}
use Rattle.module_commands.proofs.ReachLemmas.{ends_if_found}
use Rattle.module_commands.proofs.reach.ends_block.Goals as goal

pub returns : goal.returns
returns c =
    subst (λ (b : Bool). IsTrue b ↔ EndsBlock c.args.operators.now c.args.at) (sym c.is_some.ensures)
    (ends_if_found c.args.operators.now c.args.at c.block_ending.result c.block_ending.ensures.block c.block_ending.ensures.none)
