-- A module with a change of one of its functions (this project).
use Rattle.std.specs.Prelude.{◌≡◌, ◌⊎◌, ℕ, ◌+◌, ◌<◌, ◌≤◌, List, [], ◌++◌, length, slice_range}
use Rattle.wasm_code.specs.Instruction.{Instruction}
use Rattle.wasm_code.specs.declared.operator.Operator.{Operator}
use Rattle.wasm_types.specs.Module.{Module}
use Rattle.wasm_types.specs.declared.types.PrimitiveTypeInfo.{PrimitiveTypeInfo}
use Rattle.wasm_module.specs.Limits.{IsTooLarge}
use Rattle.wasm_module.specs.Module.{Layout}
use Rattle.wasm_module.specs.Rewritten.{IsRewritten}
use Rattle.wasm_execution.specs.Values.{Context, context_in}
use Rattle.body_splices.specs.OwnBytes.{without_offsets}
use Rattle.body_changes.specs.Chosen.{ChoosesChange, ChangesNone}
use Rattle.body_changes.specs.declared.change.Change.{Change}
use Rattle.body_changes.specs.Replacing.{AppendsReplaced}
use Rattle.module_rewrites.specs.Function.{IsFunction}
use Rattle.module_rewrites.specs.ReadAgain.{IsReadAgain}
use Rattle.module_changes.specs.Scope.{material_of, Choice}
use Rattle.module_changes.specs.declared.entry.MadeChange.{MadeChange}

-- The sink has grown by the body with the change that the words choose: every byte outside its code stands as it stood, and it is valid wherever it was.
pub record WritesCode (choice : Choice) (context : Context) (bytes : List ℕ) (operators : List (Operator × ℕ)) (words : List ℕ) (change : Change)
    (at start : ℕ) (old new : List ℕ) : Type 0 where
  pub code : List Instruction
  pub chooses : ChoosesChange context operators (material_of choice) choice.scope.changes words change at start code
  pub replaced : AppendsReplaced context bytes operators start (at + 1) code old new

-- By these words the n-th code entry contains its locals as they stood, and its body so.
pub record WritesBody (choice : Choice) (bytes : List ℕ) (info : Module) (layout : Layout) (words : List ℕ) (n : ℕ) (made : MadeChange) (contents : List ℕ) :
    Type 0 where
  pub locals : List PrimitiveTypeInfo
  pub expression : ℕ
  pub operators : List (Operator × ℕ)
  pub function : IsFunction bytes info layout n locals expression operators
  pub body : List ℕ
  pub code : WritesCode choice (context_in info locals) bytes operators words made.change made.operator made.start [] body
  pub contents_are : contents ≡ slice_range bytes function.entry.contents expression ++ body

-- The new bytes are the module with that, of no more bytes than it may have. They are a module again, whose functions are the old ones, but for this body.
pub record MakesChange (choice : Choice) (bytes : List ℕ) (info : Module) (layout : Layout) (words : List ℕ) (n : ℕ) (made : MadeChange) (new : List ℕ) :
    Type 0 where
  pub function_is : made.function ≡ layout.imported_functions + n
  pub contents : List ℕ
  pub writes : WritesBody choice bytes info layout words n made contents
  pub written : IsRewritten bytes layout n contents [] new
  pub fits : length new ≤ choice.scope.size
  pub again : IsReadAgain bytes info layout n writes.locals (without_offsets writes.code.replaced.spliced.again) [] new

-- ---- nothing is made

-- By these words no change makes anything in the function of the n-th code entry, or it can't be read.
abbrev pub HasNoChange : Choice → (bytes : List ℕ) → Module → Layout → (words : List ℕ) → (n : ℕ) → Type 0
HasNoChange choice bytes info layout words n =
    (locals : List PrimitiveTypeInfo) (expression : ℕ) (operators : List (Operator × ℕ)) → IsFunction bytes info layout n locals expression operators →
    ChangesNone (context_in info locals) operators (material_of choice) choice.scope.changes words

-- the module has more bytes than it may
pub record IsTooLong (choice : Choice) (bytes : List ℕ) (layout : Layout) (n : ℕ) (contents : List ℕ) : Type 0 where
  pub new : List ℕ
  pub is : IsRewritten bytes layout n contents [] new
  pub long : choice.scope.size < length new

-- The change that they choose there makes a module of which 32 bits don't hold a size, or that has more bytes than it may.
pub record ChangeDoesNotFit (choice : Choice) (bytes : List ℕ) (info : Module) (layout : Layout) (words : List ℕ) (n : ℕ) : Type 0 where
  pub made : MadeChange
  pub contents : List ℕ
  pub writes : WritesBody choice bytes info layout words n made contents
  pub large : IsTooLarge bytes layout n contents [] ⊎ IsTooLong choice bytes layout n contents
