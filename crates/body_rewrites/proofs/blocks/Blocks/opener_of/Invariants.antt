-- So many labels further out.
use Rattle.std.proofs.Common.{ℕ, List, length, ◌<◌}
use Rattle.wasm_code.specs.declared.operator.Operator.{Operator}
use Rattle.body_rewrites.specs.Blocks.{AreBlocks}
use Rattle.body_rewrites.proofs.BlockLemmas.{IsAround}
use Rattle.body_rewrites.proofs.blocks.Blocks.opener_of.Given as goal

abbrev pub invariant-loop : goal.invariant-loop
invariant-loop l =
    (operators : List (Operator × ℕ)) → AreBlocks operators l.self → l.at < length operators → IsAround operators l.at l.counter l.place
