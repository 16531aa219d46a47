-- The bytes of each operator of a body (WebAssembly Core Specification 3.0, Binary Format, Instructions).
use Rattle.std.specs.Prelude.{◌≡◌, ℕ, ◌+◌, Bool, true, false, List, [], ◌∷◌, ◌++◌, drop, slice_range}
use Rattle.wasm_code.specs.Body.{SpellsCode}
use Rattle.wasm_code.specs.declared.operator.Operator.{Operator}
use Rattle.wasm_code.specs.declared.operator.Operator.TheVariants.{Instr}
use Rattle.wasm_equivalence.specs.control.Standard.{asks_beyond}

-- each operator with its own bytes, from its offset to that of the next one; those of the last, the body's own end, are one
abbrev pub own_bytes : List ℕ → List (Operator × ℕ) → List (Operator × List ℕ)
own_bytes input [] = []
own_bytes input (o ∷ []) = (o.0, slice_range input o.1 (o.1 + 1)) ∷ []
own_bytes input (o ∷ p ∷ operators) = (o.0, slice_range input o.1 p.1) ∷ own_bytes input (p ∷ operators)

-- with this one before the others, where so
abbrev pub and_where : {A : Type 0} → Bool → A → List A → List A
and_where true x xs = x ∷ xs
and_where false x xs = xs

-- the operator is no instruction of the table
abbrev pub is_structural : Operator → Bool
is_structural (Instr i) = false
is_structural o = true

-- the structural operators, in their order, with their bytes
abbrev pub structural_bytes : List (Operator × List ℕ) → List (Operator × List ℕ)
structural_bytes [] = []
structural_bytes (p ∷ ps) = and_where (is_structural p.0) p (structural_bytes ps)

-- the bytes of those operators that ask `Beyond` what they do, in their order
abbrev pub asking_bytes : List (Operator × List ℕ) → List (List ℕ)
asking_bytes [] = []
asking_bytes (p ∷ ps) = and_where (asks_beyond p.0) p.1 (asking_bytes ps)

-- A body that stands in two places has the same operators there, with the same bytes.
abbrev pub OwnBytesStay : Type 0
OwnBytesStay =
    (input other text back behind : List ℕ) (from to : ℕ) (operators there : List (Operator × ℕ)) → drop from input ≡ text ++ back →
    drop to other ≡ text ++ behind → SpellsCode from text operators → SpellsCode to text there → own_bytes input operators ≡ own_bytes other there
