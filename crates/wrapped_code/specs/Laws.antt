-- Functions in which instructions were replaced by wrapped code: this project's laws.
use Rattle.std.specs.Prelude.{◌≡◌, ℕ, true, List, [], ◌∷◌, ◌++◌, map, Some}
use Rattle.wasm_code.specs.Instruction.{Instruction}
use Rattle.wasm_code.specs.declared.immediate.BlockType.TheVariants.{Value}
use Rattle.wasm_code.specs.declared.immediate.ValType.{ValType}
use Rattle.wasm_code.specs.declared.operator.Operator.{Operator}
use Rattle.wasm_code.specs.declared.operator.Operator.TheVariants.{Instr, Block, Loop, End}
use Rattle.wasm_types.specs.Module.{Module, merged}
use Rattle.wasm_types.specs.declared.types.PrimitiveTypeInfo.{PrimitiveTypeInfo}
use Rattle.wasm_execution.specs.OtherRow.{value_type}
use Rattle.wasm_equivalence.specs.hosts.Embedder.{Embedder, IsSoundEmbedder, Functions, Beyonds, running, AreValid, DoesAs, with_operators, with_function}
use Rattle.wasm_equivalence.specs.control.Function.{RunsAs}
use Rattle.wasm_equivalence.specs.modules.Running.{DoesMore}
use Rattle.wasm_equivalence.specs.modules.Program.{Body, function_context}
use Rattle.wasm_equivalence.specs.validation.StaysValid.{Pushes}
use Rattle.wasm_equivalence.specs.control.Wider.{wider_module, wider}
use Rattle.wrapped_code.specs.Wrapped.{Wrapped, written, has_operators, WrappedRunsAs, WrappedChecksAs}
use Rattle.wrapped_code.specs.Ways.{WrappedPushes}
use Rattle.wrapped_code.specs.Handlers.{none_handle}

-- The new function is the old one, but that instructions that lie together, at least one, are replaced by wrapped code, which runs and is checked as they
-- are. It has no block that catches exceptions: the part that such a block begins is told by its number among all structural operators, which would be
-- another one.
pub record Wraps (m : Module) (input : List ℕ) (more : List PrimitiveTypeInfo) (old new : Body) : Type 0 where
  pub params_are : old.params ≡ new.params
  pub locals_are : old.locals ≡ new.locals
  pub unhandled : none_handle old.operators ≡ true
  pub front : List Operator
  pub back : List Operator
  pub head : Instruction
  pub own : List Instruction
  pub code : Wrapped
  pub old_is : old.operators ≡ front ++ (map (λ (i : Instruction). Instr i) (head ∷ own) ++ back)
  pub new_is : new.operators ≡ front ++ written code back
  pub runs : WrappedRunsAs (function_context m old) more (head ∷ own) code
  pub checks : WrappedChecksAs (function_context m old) (wider input more (function_context m old)) (head ∷ own) code

-- Such a function does as the old one: it comes to the same end, is valid where that is, its calls through tables come to functions of their types, and
-- its other operators to what is of their types.
abbrev pub WrappedCodeDoes : Type 0
WrappedCodeDoes = (m : Module) (input : List ℕ) (more : List PrimitiveTypeInfo) (old new : Body) → Wraps m input more old new → DoesAs m input more old new

-- A module with such a function, in every embedder that is sound for it, answers as it did, at every fuel and every depth of calls.
abbrev pub WrappedModulesDoMore : Type 0
WrappedModulesDoMore =
    (m : Module) (input : List ℕ) (more : List PrimitiveTypeInfo) (e : Embedder) (beyonds : Beyonds) (functions : Functions) (f : ℕ) (b : Body)
    (operators : List Operator) → IsSoundEmbedder m e → AreValid m functions beyonds → functions f ≡ Some b →
    Wraps m input more b (with_operators operators b) →
    DoesMore more (running m e functions beyonds) (running (wider_module input more m) e (with_function functions f operators) beyonds)

-- And it is valid.
abbrev pub WrappedModulesStayValid : Type 0
WrappedModulesStayValid =
    (m : Module) (input : List ℕ) (more : List PrimitiveTypeInfo) (beyonds : Beyonds) (functions : Functions) (f : ℕ) (b : Body)
    (operators : List Operator) → AreValid m functions beyonds → functions f ≡ Some b → Wraps m input more b (with_operators operators b) →
    AreValid (wider_module input more m) (with_function functions f operators) beyonds

-- Instructions that push one value, at least one instruction, become a block of that type, or a loop, with code inside that pushes such a value and runs as
-- they do; in a function without blocks that catch exceptions. Where a module has one type of all references, that is the type.
abbrev pub ValuesInBlocks : Type 0
ValuesInBlocks =
    (m : Module) (input : List ℕ) (more : List PrimitiveTypeInfo) (old : Body) (front back : List Operator) (head : Instruction)
    (own code : List Instruction) (t : ValType) → none_handle old.operators ≡ true →
    old.operators ≡ front ++ (map (λ (i : Instruction). Instr i) (head ∷ own) ++ back) →
    Pushes (function_context m old) (head ∷ own) [] (merged m.one_reference (value_type t) ∷ []) →
    Pushes (wider input more (function_context m old)) code [] (merged m.one_reference (value_type t) ∷ []) →
    RunsAs (function_context m old) more (head ∷ own) code →
    DoesAs m input more old
    (with_operators (front ++ (Block (Value t) ∷ (map (λ (i : Instruction). Instr i) code ++ (End ∷ back)))) old)
    × DoesAs m input more old
    (with_operators (front ++ (Loop (Value t) ∷ (map (λ (i : Instruction). Instr i) code ++ (End ∷ back)))) old)

-- ---- the other way round

-- The new function is the old one, but that wrapped code, at least one operator, is replaced by instructions, at least one, that push what it pushes, and as
-- which it runs. No globals are asked for, and no block catches exceptions.
pub record Unwraps (m : Module) (input : List ℕ) (old new : Body) : Type 0 where
  pub params_are : old.params ≡ new.params
  pub locals_are : old.locals ≡ new.locals
  pub unhandled : none_handle old.operators ≡ true
  pub front : List Operator
  pub back : List Operator
  pub head : Instruction
  pub own : List Instruction
  pub code : Wrapped
  pub there : has_operators code ≡ true
  pub old_is : old.operators ≡ front ++ written code back
  pub new_is : new.operators ≡ front ++ (map (λ (i : Instruction). Instr i) (head ∷ own) ++ back)
  pub pushed : List PrimitiveTypeInfo
  pub pushes : Pushes (function_context m old) (head ∷ own) [] pushed
  pub pushes_so : WrappedPushes (function_context m old) code [] pushed
  pub runs : WrappedRunsAs (function_context m old) [] (head ∷ own) code

-- Such a function does as the old one: what pushes types from nothing is never stuck there, so that neither function is where the other isn't.
abbrev pub UnwrappedCodeDoes : Type 0
UnwrappedCodeDoes = (m : Module) (input : List ℕ) (old new : Body) → Unwraps m input old new → DoesAs m input [] old new
