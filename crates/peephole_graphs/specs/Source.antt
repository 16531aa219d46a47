-- What a graph is made of: operators, and what they are judged by. This project's rule.
use Rattle.std.specs.Prelude.{ℕ, Bool, List, slice_range}
use Rattle.wasm_code.specs.declared.operator.Operator.{Operator}
use Rattle.wasm_types.specs.Module.{Module}
use Rattle.peephole_graphs.specs.Block.{BlockRange}
use Rattle.peephole_graphs.specs.Shape.{Shape, shapes_of_block}

-- The operators of a block, the first of which has the index `first` in the body; the module's information; and whether the
-- order of effects is to be preserved.
pub record Source : Type 0 where
  pub info : Module
  pub preserving : Bool
  pub first : ℕ
  pub operators : List (Operator × ℕ)

-- that of a block's range of a body's operators
abbrev pub source_of : Module → Bool → List (Operator × ℕ) → BlockRange → Source
source_of info preserving operators block =
    record { info = info; preserving = preserving; first = block.start; operators = slice_range operators block.start block.end }

-- the shapes of its operators, the last operator first
abbrev pub shapes_in : Source → List Shape
shapes_in s = shapes_of_block s.info s.operators
