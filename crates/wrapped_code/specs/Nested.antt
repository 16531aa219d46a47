-- Functions in which a branch under a condition was replaced by a conditional with a branch in it, or the other way round: this project's laws
-- (after the WebAssembly Core Specification 3.0, Execution, Instructions, Control Instructions).
use Rattle.std.specs.Prelude.{◌≡◌, ℕ, suc, true, List, [], ◌∷◌, ◌++◌}
use Rattle.wasm_code.specs.declared.immediate.BlockType.TheVariants.{Empty}
use Rattle.wasm_code.specs.declared.operator.Operator.{Operator}
use Rattle.wasm_code.specs.declared.operator.Operator.TheVariants.{If, End, Br, BrIf}
use Rattle.wasm_types.specs.Module.{Module}
use Rattle.wasm_equivalence.specs.hosts.Embedder.{DoesAs}
use Rattle.wasm_equivalence.specs.modules.Program.{Body}
use Rattle.wrapped_code.specs.Handlers.{none_handle}
use Rattle.wrapped_code.specs.Opened.{TakesNothing}

-- The new function is the old one, but that in the place of a `br_if` whose label takes nothing stands an `if` without results, in which a `br` goes to the
-- same label, now one further out. It has no block that catches exceptions.
pub record Nests (m : Module) (input : List ℕ) (old new : Body) : Type 0 where
  pub params_are : old.params ≡ new.params
  pub locals_are : old.locals ≡ new.locals
  pub unhandled : none_handle old.operators ≡ true
  pub front : List Operator
  pub back : List Operator
  pub label : ℕ
  pub bare : TakesNothing front label
  pub old_is : old.operators ≡ front ++ (BrIf label ∷ back)
  pub new_is : new.operators ≡ front ++ (If Empty ∷ Br (suc label) ∷ End ∷ back)

-- Such a function does as the old one.
abbrev pub BranchesMayNest : Type 0
BranchesMayNest = (m : Module) (input : List ℕ) (old new : Body) → Nests m input old new → DoesAs m input [] old new

-- The other way round, wherever such an `if` stands.
pub record Unnests (m : Module) (input : List ℕ) (old new : Body) : Type 0 where
  pub params_are : old.params ≡ new.params
  pub locals_are : old.locals ≡ new.locals
  pub unhandled : none_handle old.operators ≡ true
  pub front : List Operator
  pub back : List Operator
  pub label : ℕ
  pub old_is : old.operators ≡ front ++ (If Empty ∷ Br (suc label) ∷ End ∷ back)
  pub new_is : new.operators ≡ front ++ (BrIf label ∷ back)

-- Such a function does as the old one, too.
abbrev pub BranchesMayUnnest : Type 0
BranchesMayUnnest = (m : Module) (input : List ℕ) (old new : Body) → Unnests m input old new → DoesAs m input [] old new
