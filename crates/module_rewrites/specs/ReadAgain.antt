-- A rewritten module read again: its functions are those of the old one, of which one has another body (this project).
use Rattle.std.specs.Prelude.{◌≡◌, ◌≢◌, ◌↔◌, ℕ, List, [], ◌++◌, length, Some, slice_get, slice_range}
use Rattle.wasm_code.specs.Body.{SpellsCode}
use Rattle.wasm_code.specs.declared.operator.Operator.{Operator}
use Rattle.wasm_types.specs.Module.{Module}
use Rattle.wasm_types.specs.declared.types.PrimitiveTypeInfo.{PrimitiveTypeInfo}
use Rattle.wasm_lists.specs.declared.entries.Entry.{Entry}
use Rattle.wasm_module.specs.Module.{Layout, IsModule}
use Rattle.wasm_module.specs.Reread.{HasContents, IsReread}
use Rattle.wasm_equivalence.specs.control.Wider.{wider_module}
use Rattle.body_splices.specs.OwnBytes.{own_bytes, without_offsets}
use Rattle.module_rewrites.specs.Function.{IsFunction, KnowsIndices}
use Rattle.module_rewrites.specs.Structure.{asking_operators, HasAsking}

-- The n-th code entry is a function with these types of parameters and locals, and these operators, wherever they stand.
pub record HasFunction (bytes : List ℕ) (info : Module) (layout : Layout) (n : ℕ) (locals : List PrimitiveTypeInfo) (operators : List Operator) :
    Type 0 where
  pub expression : ℕ
  pub located : List (Operator × ℕ)
  pub is : IsFunction bytes info layout n locals expression located
  pub are : without_offsets located ≡ operators

-- The new bytes are a module: its index spaces are the old one's with these globals behind. Its n-th code entry is a function with these locals and operators;
-- every other one is the function that it was, or none that can be read, as before. In each the operators
-- that ask more than they carry have the bytes that they had, and every other entry contains what it contained.
pub record IsReadAgain (bytes : List ℕ) (info : Module) (layout : Layout) (n : ℕ) (locals : List PrimitiveTypeInfo) (operators : List Operator)
    (more : List PrimitiveTypeInfo) (new : List ℕ) : Type 0 where
  pub again : Layout
  pub is : IsModule new (wider_module new more info) again
  pub imported : again.imported_functions ≡ layout.imported_functions
  pub count : length again.entries ≡ length layout.entries
  pub function : HasFunction new (wider_module new more info) again n locals operators
  pub others : (k : ℕ) (types : List PrimitiveTypeInfo) (body : List Operator) → k ≢ n →
      HasFunction bytes info layout k types body ↔ HasFunction new (wider_module new more info) again k types body
  pub asking : List (Operator × List ℕ)
  pub had : HasAsking bytes info layout n asking
  pub has : HasAsking new (wider_module new more info) again n asking
  pub others_have : (k : ℕ) (theirs : List (Operator × List ℕ)) → k ≢ n →
      HasAsking bytes info layout k theirs ↔ HasAsking new (wider_module new more info) again k theirs
  pub indices : KnowsIndices again ↔ KnowsIndices layout
  pub contents : (k : ℕ) (old : Entry) → k ≢ n → slice_get layout.entries k ≡ Some old →
      HasContents new again.entries k (slice_range bytes old.contents old.end)

-- A module that is read again with a body of these operators in its n-th code entry, behind the locals as they stood, is read again so, where the operators
-- that ask more than they carry have the bytes that they had.
abbrev pub BodiesAreReadAgain : Type 0
BodiesAreReadAgain =
    (bytes : List ℕ) (info : Module) (layout : Layout) (n : ℕ) (locals : List PrimitiveTypeInfo) (expression : ℕ) (operators : List (Operator × ℕ))
    (f : IsFunction bytes info layout n locals expression operators) (body : List ℕ) (written : List (Operator × ℕ)) (new : List ℕ) →
    SpellsCode 0 body written → asking_operators (own_bytes body written) ≡ asking_operators (own_bytes bytes operators) →
    IsReread bytes info layout n (slice_range bytes f.entry.contents expression ++ body) [] new →
    IsReadAgain bytes info layout n locals (without_offsets written) [] new
