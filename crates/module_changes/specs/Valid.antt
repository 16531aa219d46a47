-- A changed module is valid where the old one was (this project; what is valid: WebAssembly Core Specification 3.0, Validation, Modules).
use Rattle.std.specs.Prelude.{◌≡◌, ⊤, false, ℕ, List, [], Option, Some, None}
use Rattle.wasm_types.specs.Module.{Module}
use Rattle.wasm_module.specs.Module.{Layout, IsModule}
use Rattle.wasm_equivalence.specs.control.Wider.{wider_module}
use Rattle.wasm_equivalence.specs.hosts.Embedder.{Functions, Beyonds, AreValid}
use Rattle.wasm_equivalence.specs.modules.Program.{Body}
use Rattle.module_rewrites.specs.DoesAsBefore.{AreFunctions}
use Rattle.module_rewrites.specs.Function.{KnowsIndices}
use Rattle.module_rewrites.specs.Structure.{AreLabelled}

-- the same module with other bytes
abbrev pub with_bytes : List ℕ → Module → Module
with_bytes new info = wider_module new [] info

-- both modules have a body, with the same parameters and locals, or neither has one
abbrev pub SameKind : Option Body → Option Body → Type 0
SameKind (Some old) (Some new) = (old.params ≡ new.params) × (old.locals ≡ new.locals)
SameKind None None = ⊤
SameKind old new = ⊥

-- The new bytes are the module with functions of the same kinds, which are valid where those are; and the labels that stand in the old bytes stand in the new
-- ones.
pub record IsValidAfter (bytes : List ℕ) (info : Module) (layout : Layout) (old : Functions) (new : List ℕ) : Type 0 where
  pub again : Layout
  pub is : IsModule new (with_bytes new info) again
  pub functions : Functions
  pub are : AreFunctions new (with_bytes new info) again functions
  pub same : (f : ℕ) → SameKind (old f) (functions f)
  pub valid : (beyonds : Beyonds) → AreValid info old beyonds → AreValid (with_bytes new info) functions beyonds
  pub labels : (beyonds : Beyonds) → AreLabelled bytes info layout beyonds → AreLabelled new (with_bytes new info) again beyonds
  pub imported : again.imported_functions ≡ layout.imported_functions
  pub indices : KnowsIndices again → KnowsIndices layout

-- Whichever functions are taken of the module that the first bytes are, the second bytes are a module with these, which are valid where they were. (What is
-- known of the module says nothing of what runs it.)
pub record StaysValidModule (bytes new : List ℕ) : Type 0 where
  pub functions : (info : Module) (layout : Layout) (old : Functions) → IsModule bytes info layout → info.exact ≡ false → AreFunctions bytes info layout old →
      IsValidAfter bytes info layout old new
