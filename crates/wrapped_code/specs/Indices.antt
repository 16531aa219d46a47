-- Functions in which the index of a branch by a table was replaced by another one that picks the same label: this project's laws
-- (after the WebAssembly Core Specification 3.0, Execution, Instructions, Control Instructions, `br_table`).
use Rattle.std.specs.Prelude.{◌≡◌, ℕ, ◌<◌, ◌^◌, false, List, [], ◌∷◌, ◌++◌, map, take}
use Rattle.wasm_code.specs.Instruction.{Instruction}
use Rattle.wasm_code.specs.declared.operator.Operator.{Operator}
use Rattle.wasm_code.specs.declared.operator.Operator.TheVariants.{Instr, BrTable}
use Rattle.wasm_types.specs.Module.{Module}
use Rattle.wasm_types.specs.declared.types.PrimitiveTypeInfo.TheVariants as primitive
use Rattle.wasm_execution.specs.declared.integer.IntegerType.TheVariants as integer
use Rattle.wasm_execution.specs.Integer.{compare, lt_u}
use Rattle.wasm_execution.specs.Values.{Context}
use Rattle.wasm_execution.specs.IntegerRow.{constant, operation, select, integer_row}
use Rattle.wasm_equivalence.specs.control.Standard.{label_at}
use Rattle.wasm_equivalence.specs.hosts.Embedder.{DoesAs}
use Rattle.wasm_equivalence.specs.modules.Program.{Body, function_context}
use Rattle.wasm_equivalence.specs.validation.StaysValid.{Pushes}
use Rattle.wrapped_code.specs.Alike.{SameAs}
use Rattle.wrapped_code.specs.Ways.{code_changes}

-- both pick the same of so many labels, whatever these are
abbrev pub LabelAlike : (count : ℕ) → ℕ → ℕ → Type 0
LabelAlike count i j = (labels : List ℕ) (default : ℕ) → label_at (take count labels) default i ≡ label_at (take count labels) default j

-- The new function is the old one, but that before a branch by a table of so many labels instructions that push its index are replaced by others, which push
-- one that picks the same label. No globals are asked for. Blocks that catch exceptions may stand anywhere: no number of a structural operator changes.
pub record Reindexes (m : Module) (input : List ℕ) (old new : Body) : Type 0 where
  pub params_are : old.params ≡ new.params
  pub locals_are : old.locals ≡ new.locals
  pub front : List Operator
  pub back : List Operator
  pub own : List Instruction
  pub code : List Instruction
  pub count : ℕ
  pub old_is : old.operators ≡ front ++ (map (λ (i : Instruction). Instr i) own ++ BrTable count ∷ back)
  pub new_is : new.operators ≡ front ++ (map (λ (i : Instruction). Instr i) code ++ BrTable count ∷ back)
  pub pushes : Pushes (function_context m old) own [] (primitive.I32 ∷ [])
  pub pushes_so : Pushes (function_context m old) code [] (primitive.I32 ∷ [])
  pub same : SameAs (LabelAlike count) (function_context m old) own code

-- Such a function does as the old one.
abbrev pub IndicesMayChange : Type 0
IndicesMayChange = (m : Module) (input : List ℕ) (old new : Body) → Reindexes m input old new → DoesAs m input [] old new

-- An index may be bounded: code that changes nothing, the number of labels, the code once more, that number, whether it is below it without signs, and a
-- select; and the other way round.
pub record IndicesAreBounded : Type 0 where
  pub bounded : (context : Context) (own : List Instruction) (count : ℕ) (limit below pick : Instruction) → count < 2 ^ 32 →
      integer_row limit ≡ constant integer.I32 count → integer_row below ≡ operation (compare integer.I32 lt_u) → integer_row pick ≡ select →
      code_changes own ≡ false → Pushes context own [] (primitive.I32 ∷ []) →
      SameAs (LabelAlike count) context own (own ++ (limit ∷ (own ++ (limit ∷ below ∷ pick ∷ []))))
  pub pushes : (context : Context) (own : List Instruction) (count : ℕ) (limit below pick : Instruction) → count < 2 ^ 32 →
      integer_row limit ≡ constant integer.I32 count → integer_row below ≡ operation (compare integer.I32 lt_u) → integer_row pick ≡ select →
      Pushes context own [] (primitive.I32 ∷ []) → Pushes context (own ++ (limit ∷ (own ++ (limit ∷ below ∷ pick ∷ [])))) [] (primitive.I32 ∷ [])
  pub turned : (context : Context) (own code : List Instruction) (count : ℕ) → Pushes context own [] (primitive.I32 ∷ []) →
      SameAs (LabelAlike count) context own code → SameAs (LabelAlike count) context code own
