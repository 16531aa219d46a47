-- Where the blocks of a body start (this project's). These words are the code's own.
use Rattle.std.specs.Prelude.{ℕ, ◌≡◌, ◌<◌, ◌*◌, List, length, slice_get, Some}
use Rattle.wasm_code.specs.declared.operator.Operator.{Operator}
use Rattle.peephole_graphs.specs.Block.{BlockRange, block_start}

-- the block with a range of operators
abbrev pub block_range : (start end : ℕ) → BlockRange
block_range start end = record { start = start; end = end }

-- of every sixteenth operator, from the first one on, the index where its block starts, if it has one, for as many as are kept
pub record AreStarts (operators : List (Operator × ℕ)) (starts : List ℕ) : Type 0 where
  pub each : (k : ℕ) → k < length starts → slice_get starts k ≡ Some (block_start operators (16 * k))
