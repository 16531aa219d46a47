-- Functions in which the condition of a branch or of a conditional was replaced by another one that is zero where it is: this project's laws.
use Rattle.std.specs.Prelude.{◌≡◌, ℕ, ◌==◌, Bool, true, false, List, [], ◌∷◌, ◌++◌, map}
use Rattle.wasm_code.specs.Instruction.{Instruction}
use Rattle.wasm_code.specs.declared.operator.Operator.{Operator}
use Rattle.wasm_code.specs.declared.operator.Operator.TheVariants.{Instr, BrIf, If}
use Rattle.wasm_types.specs.Module.{Module}
use Rattle.wasm_types.specs.declared.types.PrimitiveTypeInfo.TheVariants as primitive
use Rattle.wasm_execution.specs.declared.integer.IntegerType.TheVariants as integer
use Rattle.wasm_execution.specs.Integer.{compare, eqz, ne}
use Rattle.wasm_execution.specs.Values.{Context}
use Rattle.wasm_execution.specs.IntegerRow.{constant, operation, integer_row}
use Rattle.wasm_equivalence.specs.control.Function.{RunsAs}
use Rattle.wasm_equivalence.specs.hosts.Embedder.{DoesAs}
use Rattle.wasm_equivalence.specs.modules.Program.{Body, function_context}
use Rattle.wasm_equivalence.specs.validation.StaysValid.{Pushes}
use Rattle.wrapped_code.specs.Alike.{SameAs}

-- ---- conditions

-- both are zero, or neither
abbrev pub ZeroAlike : ℕ → ℕ → Type 0
ZeroAlike c d = (c == 0) ≡ (d == 0)

-- From every state of the context's types in which the instructions aren't stuck, the code pushes what is zero where theirs is, and does the same.
abbrev pub SameTruth : Context → (own code : List Instruction) → Type 0
SameTruth context own code = SameAs ZeroAlike context own code

-- ---- a function

-- a `br_if` or an `if`: what asks of a number whether it is zero, and nothing else
abbrev pub is_condition : Operator → Bool
is_condition (BrIf l) = true
is_condition (If t) = true
is_condition o = false

-- The new function is the old one, but that before a `br_if` or an `if` instructions that push its condition are replaced by others, which push one that is
-- zero where that is. No globals are asked for. Blocks that catch exceptions may stand anywhere: no number of a structural operator changes.
pub record Reconditions (m : Module) (input : List ℕ) (old new : Body) : Type 0 where
  pub params_are : old.params ≡ new.params
  pub locals_are : old.locals ≡ new.locals
  pub front : List Operator
  pub back : List Operator
  pub own : List Instruction
  pub code : List Instruction
  pub branch : Operator
  pub asks : is_condition branch ≡ true
  pub old_is : old.operators ≡ front ++ (map (λ (i : Instruction). Instr i) own ++ branch ∷ back)
  pub new_is : new.operators ≡ front ++ (map (λ (i : Instruction). Instr i) code ++ branch ∷ back)
  pub pushes : Pushes (function_context m old) own [] (primitive.I32 ∷ [])
  pub pushes_so : Pushes (function_context m old) code [] (primitive.I32 ∷ [])
  pub truth : SameTruth (function_context m old) own code

-- Such a function does as the old one.
abbrev pub ConditionsMayChange : Type 0
ConditionsMayChange = (m : Module) (input : List ℕ) (old new : Body) → Reconditions m input old new → DoesAs m input [] old new

-- ---- ways

-- Conditions that are zero alike: code that runs as the instructions; these with `i32.const 0; i32.ne` behind, or with `i32.eqz` twice; and of each such pair
-- the other way round; and one change after another.
pub record ConditionsAsTrue : Type 0 where
  pub as_runs : (context : Context) (own code : List Instruction) → Pushes context own [] (primitive.I32 ∷ []) → RunsAs context [] own code →
      SameTruth context own code
  pub not_zero : (context : Context) (own : List Instruction) (zero differs : Instruction) → integer_row zero ≡ constant integer.I32 0 →
      integer_row differs ≡ operation (compare integer.I32 ne) → Pushes context own [] (primitive.I32 ∷ []) →
      SameTruth context own (own ++ (zero ∷ differs ∷ []))
  pub twice_zero : (context : Context) (own : List Instruction) (is_zero : Instruction) → integer_row is_zero ≡ operation (eqz integer.I32) →
      Pushes context own [] (primitive.I32 ∷ []) → SameTruth context own (own ++ (is_zero ∷ is_zero ∷ []))
  pub turned : (context : Context) (own code : List Instruction) → Pushes context own [] (primitive.I32 ∷ []) → SameTruth context own code →
      SameTruth context code own
  pub follow : (context : Context) (a b c : List Instruction) → SameTruth context a b → SameTruth context b c → SameTruth context a c
