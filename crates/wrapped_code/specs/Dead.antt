-- Functions in which code that is never reached was replaced: this project's laws.
use Rattle.std.specs.Prelude.{◌≡◌, ℕ, Bool, true, false, List, [], ◌∷◌, ◌++◌, map}
use Rattle.wasm_code.specs.Instruction.{Instruction}
use Rattle.wasm_code.specs.declared.operator.Operator.{Operator}
use Rattle.wasm_code.specs.declared.operator.Operator.TheVariants.{Instr, Br, BrTable, Return, Unreachable}
use Rattle.wasm_types.specs.Module.{Module}
use Rattle.wasm_equivalence.specs.hosts.Embedder.{DoesAs}
use Rattle.wasm_equivalence.specs.modules.Program.{Body, function_context}
use Rattle.wasm_equivalence.specs.validation.StaysValid.{Pushes}
use Rattle.wrapped_code.specs.Handlers.{none_handle}

-- `br`, `br_table`, `return` and `unreachable`: the instructions behind such an operator, up to the next structural one, are never reached
abbrev pub never_goes_on : Operator → Bool
never_goes_on (Br l) = true
never_goes_on (BrTable n) = true
never_goes_on Return = true
never_goes_on Unreachable = true
never_goes_on o = false

-- The new function is the old one, but that right behind such an operator instructions that push nothing from nothing are replaced by others of that kind, or
-- by none, or put in. It has no block that catches exceptions: the number of the part that such a block begins is any number, also that operator's.
pub record ChangesDead (m : Module) (input : List ℕ) (old new : Body) : Type 0 where
  pub params_are : old.params ≡ new.params
  pub locals_are : old.locals ≡ new.locals
  pub unhandled : none_handle old.operators ≡ true
  pub front : List Operator
  pub back : List Operator
  pub own : List Instruction
  pub code : List Instruction
  pub leave : Operator
  pub leaves : never_goes_on leave ≡ true
  pub old_is : old.operators ≡ front ++ (leave ∷ (map (λ (i : Instruction). Instr i) own ++ back))
  pub new_is : new.operators ≡ front ++ (leave ∷ (map (λ (i : Instruction). Instr i) code ++ back))
  pub pushes : Pushes (function_context m old) own [] []
  pub pushes_so : Pushes (function_context m old) code [] []

-- Such a function does as the old one.
abbrev pub DeadCodeMayChange : Type 0
DeadCodeMayChange = (m : Module) (input : List ℕ) (old new : Body) → ChangesDead m input old new → DoesAs m input [] old new
