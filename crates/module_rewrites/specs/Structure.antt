-- The bytes of a function's operators that ask more than they carry, and the labels of branches by a table among them
-- (WebAssembly Core Specification 3.0, Binary Format, Instructions, Control Instructions; what an operator carries: this project).
use Rattle.std.specs.Prelude.{◌≡◌, ℕ, ◌+◌, List, [], ◌∷◌, ◌++◌, length, map, Some, slice_get}
use Rattle.wasm_code.specs.Number.{SpellsUnsigned}
use Rattle.wasm_code.specs.declared.operator.Operator.{Operator}
use Rattle.body_splices.specs.OwnBytes.{own_bytes, bytes_where}
use Rattle.wasm_types.specs.Module.{Module}
use Rattle.wasm_types.specs.declared.types.PrimitiveTypeInfo.{PrimitiveTypeInfo}
use Rattle.wasm_module.specs.Module.{Layout}
use Rattle.wasm_equivalence.specs.hosts.Embedder.{Beyonds}
use Rattle.wasm_equivalence.specs.control.Standard.{Beyond, asks_beyond}
use Rattle.module_rewrites.specs.Function.{IsFunction}

-- the operators that ask more than they carry, such as the labels of a branch by a table, in their order, each with its bytes
abbrev pub asking_operators : List (Operator × List ℕ) → List (Operator × List ℕ)
asking_operators ps = bytes_where asks_beyond ps

-- The n-th code entry is a function with these operators that ask more than they carry, each with its bytes, in their order.
pub record HasAsking (bytes : List ℕ) (info : Module) (layout : Layout) (n : ℕ) (asking : List (Operator × List ℕ)) : Type 0 where
  pub locals : List PrimitiveTypeInfo
  pub expression : ℕ
  pub located : List (Operator × ℕ)
  pub is : IsFunction bytes info layout n locals expression located
  pub are : asking_operators (own_bytes bytes located) ≡ asking

-- their bytes
abbrev pub texts_of : List (Operator × List ℕ) → List (List ℕ)
texts_of ps = map (λ (p : Operator × List ℕ). p.1) ps

-- ---- labels

-- the first number stands in front, and the others behind it
pub record IsNumber (Rest : List ℕ → Type 0) (text : List ℕ) (n : ℕ) : Type 0 where
  pub front : List ℕ
  pub back : List ℕ
  pub parts : text ≡ front ++ back
  pub spells : SpellsUnsigned 32 front n
  pub rest : Rest back

-- the bytes are these numbers, one after another
abbrev pub SpellsNumbers : List ℕ → List ℕ → Type 0
SpellsNumbers [] text = text ≡ []
SpellsNumbers (n ∷ ns) text = IsNumber (SpellsNumbers ns) text n

-- The bytes are a branch by a table: its opcode, how many labels there are, these, and the default one.
pub record SpellsBranchTable (text labels : List ℕ) (default : ℕ) : Type 0 where
  pub count : List ℕ
  pub numbers : List ℕ
  pub parts : text ≡ 0x0e ∷ count ++ numbers
  pub counts : SpellsUnsigned 32 count (length labels)
  pub spells : SpellsNumbers (labels ++ default ∷ []) numbers

-- of operators that ask `Beyond`, with these bytes, each that is a branch by a table has the labels of its bytes
abbrev pub HasLabels : (texts : List (List ℕ)) → Beyond → Type 0
HasLabels texts beyond =
    (k : ℕ) (text labels : List ℕ) (default : ℕ) → slice_get texts k ≡ Some text → SpellsBranchTable text labels default →
    (beyond.labels k ≡ labels) × (beyond.default k ≡ default)

-- The labels of every branch by a table are those that stand in the module's bytes.
abbrev pub AreLabelled : (bytes : List ℕ) → Module → Layout → Beyonds → Type 0
AreLabelled bytes info layout beyonds =
    (n : ℕ) (asking : List (Operator × List ℕ)) → HasAsking bytes info layout n asking →
    HasLabels (texts_of asking) (beyonds (layout.imported_functions + n))
