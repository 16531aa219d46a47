-- What the program keeps between two lines (this project's).
use Rattle.std.specs.Prelude.{ℕ, ◌≡◌, ◌<◌, Bool, false, List, [], length, Option, Some, None, IfSome}
use Rattle.wasm_types.specs.Module.{Module, module_of}
use Rattle.wasm_types.specs.declared.types.PrimitiveTypeInfo.{PrimitiveTypeInfo}
use Rattle.peephole_lang.specs.Term.{Node}
use Rattle.peephole_lang.specs.declared.lang.Head.{Head}
use Rattle.peephole_graphs.specs.Block.{BlockRange, block_at}
use Rattle.peephole_commands.specs.Body.{Contents}

pub record SessionState : Type 0 where
  -- what was said of the module
  pub info : Module
  -- the types of the function's locals
  pub locals : List PrimitiveTypeInfo
  -- whether the order of effects is to be preserved
  pub preserving : Bool
  -- the words to be drawn, the first one first; each `write` begins with the first
  pub words : List ℕ
  pub body : Option Contents
  pub point : Option ℕ
  -- the term's nodes, the first one first
  pub nodes : List (Node Head)

abbrev pub start : SessionState
start = record { info = module_of []; locals = []; preserving = false; words = []; body = None; point = None; nodes = [] }

-- what a line that isn't faulty writes, and the state after it
pub record Reply : Type 0 where
  pub text : List ℕ
  pub next : SessionState

-- the point is an operator of the body, where there are both
abbrev pub PointsInto : Option Contents → Option ℕ → Type 0
PointsInto None point = Unit {0}
PointsInto (Some body) point = IfSome point (λ n. n < length body.operators)

-- the point's block, if there is one
abbrev pub block_in : Option Contents → Option ℕ → Option BlockRange
block_in None point = None
block_in (Some body) None = None
block_in (Some body) (Some point) = block_at body.operators point

-- a block that is kept is the point's
abbrev pub KeepsTheBlock : Option Contents → Option ℕ → Option BlockRange → Type 0
KeepsTheBlock body point kept = IfSome kept (λ block. block_in body point ≡ Some block)
