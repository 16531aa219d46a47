-- The functions of a module that was read again with another body: those of the old one, but for that (this project).
use Rattle.std.specs.Prelude.{◌≡◌, ℕ, ◌+◌, List, ◌++◌}
use Rattle.wasm_code.specs.declared.operator.Operator.{Operator}
use Rattle.wasm_types.specs.Module.{Module}
use Rattle.wasm_types.specs.declared.types.PrimitiveTypeInfo.{PrimitiveTypeInfo}
use Rattle.wasm_module.specs.Module.{Layout}
use Rattle.wasm_equivalence.specs.control.Wider.{wider_module}
use Rattle.wasm_equivalence.specs.hosts.Embedder.{Functions, Beyonds, with_function}
use Rattle.wasm_equivalence.specs.modules.Program.{Body}
use Rattle.body_splices.specs.OwnBytes.{without_offsets}
use Rattle.module_rewrites.specs.DoesAsBefore.{AreFunctions, IsBodyOf}
use Rattle.module_rewrites.specs.Function.{IsFunction}
use Rattle.module_rewrites.specs.ReadAgain.{IsReadAgain}
use Rattle.module_rewrites.specs.Structure.{AreLabelled}

-- The module read again has the functions of the old one, with these operators in that of the n-th code entry, which had the others; and the labels of
-- branches by a table that stand in the old bytes stand in the new ones.
pub record StandAgain (bytes : List ℕ) (info : Module) (layout : Layout) (n : ℕ) (locals : List PrimitiveTypeInfo) (before after : List Operator)
    (more : List PrimitiveTypeInfo) (new : List ℕ) (again : Layout) (old : Functions) : Type 0 where
  pub functions : AreFunctions new (wider_module new more info) again (with_function old (layout.imported_functions + n) after)
  pub own : (b : Body) → IsBodyOf bytes info layout (layout.imported_functions + n) b → (locals ≡ b.params ++ b.locals) × (before ≡ b.operators)
  pub labels : (beyonds : Beyonds) → AreLabelled bytes info layout beyonds → AreLabelled new (wider_module new more info) again beyonds

-- ---- a law

abbrev pub FunctionsStandAgain : Type 0
FunctionsStandAgain =
    (bytes : List ℕ) (info : Module) (layout : Layout) (n : ℕ) (locals : List PrimitiveTypeInfo) (expression : ℕ) (located : List (Operator × ℕ))
    (operators : List Operator) (more : List PrimitiveTypeInfo) (new : List ℕ) → IsFunction bytes info layout n locals expression located →
    (again : IsReadAgain bytes info layout n locals operators more new) → (old : Functions) → AreFunctions bytes info layout old →
    StandAgain bytes info layout n locals (without_offsets located) operators more new again.again old
