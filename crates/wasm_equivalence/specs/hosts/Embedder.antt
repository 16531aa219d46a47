-- What runs modules, whichever module it is given: a host for each; and modules of valid functions that run in it (this project).
use Rattle.std.specs.Prelude.{◌≡◌, ℕ, List, ◌++◌, take, drop, length, slice_get, Option, Some, None, option_map, option_and_then, if◌then◌else◌, ◌==◌, ⊤}
use Rattle.wasm_code.specs.declared.operator.Operator.{Operator}
use Rattle.wasm_types.specs.Module.{Module}
use Rattle.wasm_types.specs.declared.types.PrimitiveTypeInfo.{PrimitiveTypeInfo}
use Rattle.wasm_execution.specs.Values.{Value, Answer, Gives, Fails, World}
use Rattle.wasm_equivalence.specs.control.Function.{structural, EndsAlike}
use Rattle.wasm_equivalence.specs.modules.Program.{Body, Answering, Host, IsSoundHost, function_context}
use Rattle.wasm_equivalence.specs.control.Blocks.{Arity, function_arity}
use Rattle.wasm_equivalence.specs.control.Standard.{Beyond, by_asked, standard}
use Rattle.wasm_equivalence.specs.validation.Sound.{IsValid, HasTargets, HasDeeds}
use Rattle.wasm_equivalence.specs.control.Wider.{wider_module, wider}
use Rattle.wasm_equivalence.specs.modules.Running.{Running, IsWiderHost}

-- ---- embedders

-- what is no call of an own function, in each module: where no such call ends, and over what such calls answer
pub record Embedder : Type 0 where
  pub base : Module → Answering
  pub over : Module → Answering → Answering

-- the host that the embedder is for the module
abbrev pub host_in : Embedder → Module → Host
host_in e m = record { info = m; base = e.base m; over = e.over m }

-- The second module is the first, with globals behind its own, or none, whatever its bytes.
abbrev pub IsWithMore : Module → Module → Type 0
IsWithMore m k = (input : List ℕ) × (more : List PrimitiveTypeInfo) × (k ≡ wider_module input more m)

-- In the module, and wherever globals stand behind its own, the embedder is sound; and it can't tell these modules apart: with globals more it does what
-- it does without. So does what neither lists a module's globals nor compares its bytes, and gives no two of its globals as one.
pub record IsSoundEmbedder (m : Module) (e : Embedder) : Type 0 where
  pub sound : (k : Module) → IsWithMore m k → IsSoundHost (host_in e k)
  pub wider : (k : Module) → IsWithMore m k → (input : List ℕ) (more : List PrimitiveTypeInfo) →
      IsWiderHost input more (host_in e k) (host_in e (wider_module input more k))

-- the same, with these globals behind
abbrev pub with_behind : List Value → Answer → Answer
with_behind behind (Gives vs gs r) = Gives vs (gs ++ behind) r
with_behind behind (Fails cause gs r) = Fails cause (gs ++ behind) r

-- an embedder that calls no export: it does what the world does, and leaves all globals behind that world's as they are
abbrev pub leaving : World → Embedder
leaving w =
    let count = length w.info.globals in
    let left : Answering = λ i vs gs r. with_behind (drop count gs) (w.answer i vs (take count gs) r) in
    record { base = λ m. left; over = λ m a. left }

-- ---- modules in an embedder

-- bodies, and what their operators don't carry, each by the function's index
abbrev pub Functions : Type 0
Functions = ℕ → Option Body

-- what a body's operators don't carry, such as the labels of a `br_table`, by the function's index and the number of the operator among those that ask it
abbrev pub Beyonds : Type 0
Beyonds = ℕ → Beyond

-- what the function with that index takes and gives, by the module's types
abbrev pub arity_at : Module → (f : ℕ) → Arity
arity_at m f = function_arity (option_and_then (slice_get m.types) (slice_get m.functions f))

-- The module by itself in the embedder, its functions under the standard's control.
abbrev pub running : Module → Embedder → Functions → Beyonds → Running
running m e functions beyonds =
    record {
      host = host_in e m;
      controls = λ f structure. standard m (arity_at m f).ends structure (by_asked structure (beyonds f));
      program = functions;
    }

-- The function has the parameters that its type says, the standard's algorithm accepts its body with the results that it says, and its calls through
-- tables come to functions of their types, or trap; and so what its other operators come to is of their types.
pub record IsValidFunction (m : Module) (f : ℕ) (beyond : Beyond) (b : Body) : Type 0 where
  pub params_are : b.params ≡ (arity_at m f).starts
  pub valid : IsValid (function_context m b) (arity_at m f).ends (by_asked (structural b.operators) beyond) b.operators
  pub targets : HasTargets m (structural b.operators) (by_asked (structural b.operators) beyond)
  pub deeds : HasDeeds m (arity_at m f).ends (structural b.operators) (by_asked (structural b.operators) beyond)

-- each function that has a body is valid; those without one aren't asked
abbrev pub AreValid : Module → Functions → Beyonds → Type 0
AreValid m functions beyonds = (f : ℕ) (b : Body) → functions f ≡ Some b → IsValidFunction m f (beyonds f) b

-- The second function, of the module with globals more, has the first one's parameters and locals, and comes to the same end from every state, whatever
-- these globals hold; it is valid where the first one is, its calls through tables come to functions of their types where the first one's do, and its other
-- operators to what is of their types where the first one's do.
pub record DoesAs (m : Module) (input : List ℕ) (more : List PrimitiveTypeInfo) (old new : Body) : Type 0 where
  pub params_are : old.params ≡ new.params
  pub locals_are : old.locals ≡ new.locals
  pub alike : (results : List PrimitiveTypeInfo) (beyond : Beyond) →
      EndsAlike (function_context m old) more (standard m results (structural old.operators) (by_asked (structural old.operators) beyond))
      (standard m results (structural new.operators) (by_asked (structural new.operators) beyond)) old.operators new.operators
  pub valid : (results : List PrimitiveTypeInfo) (beyond : Beyond) →
      IsValid (function_context m old) results (by_asked (structural old.operators) beyond) old.operators →
      IsValid (wider input more (function_context m old)) results (by_asked (structural new.operators) beyond) new.operators
  pub targets : (beyond : Beyond) → HasTargets m (structural old.operators) (by_asked (structural old.operators) beyond) →
      HasTargets (wider_module input more m) (structural new.operators) (by_asked (structural new.operators) beyond)
  pub deeds : (results : List PrimitiveTypeInfo) (beyond : Beyond) →
      HasDeeds m results (structural old.operators) (by_asked (structural old.operators) beyond) →
      HasDeeds (wider_module input more m) results (structural new.operators) (by_asked (structural new.operators) beyond)

-- both modules have a body, which do the same, or neither has one
abbrev pub BothDo : Module → (input : List ℕ) → (more : List PrimitiveTypeInfo) → Option Body → Option Body → Type 0
BothDo m input more (Some old) (Some new) = DoesAs m input more old new
BothDo m input more None None = ⊤
BothDo m input more old new = ⊥

-- Both modules have bodies of the same functions, each of which does as the other.
abbrev pub DoAsFunctions : Module → (input : List ℕ) → (more : List PrimitiveTypeInfo) → Functions → Functions → Type 0
DoAsFunctions m input more old new = (f : ℕ) → BothDo m input more (old f) (new f)

-- the body with other operators; parameters and locals stay
abbrev pub with_operators : List Operator → Body → Body
with_operators operators b = record b { operators = operators }

-- the functions, with these operators in the one with that index
abbrev pub with_function : Functions → (f : ℕ) → List Operator → Functions
with_function functions f operators g = if g == f then option_map (with_operators operators) (functions g) else functions g
