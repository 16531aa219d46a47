-- The bytes of each operator of a body (WebAssembly Core Specification 3.0, Binary Format, Instructions).
use Rattle.std.specs.Prelude.{ℕ, ◌+◌, ◌≤◌, ◌&&◌, not, Bool, true, false, List, [], ◌∷◌, length, map, slice_range}
use Rattle.wasm_code.specs.Body.{SpellsCode}
use Rattle.wasm_code.specs.declared.operator.Operator.{Operator}
use Rattle.wasm_code.specs.declared.operator.Operator.TheVariants.{Instr}

-- The operators are those of a body in the input, with their offsets.
pub record IsBodyIn (input : List ℕ) (operators : List (Operator × ℕ)) : Type 0 where
  pub from : ℕ
  pub to : ℕ
  pub ordered : from ≤ to
  pub inside : to ≤ length input
  pub spells : SpellsCode from (slice_range input from to) operators

-- the operators alone
abbrev pub without_offsets : List (Operator × ℕ) → List Operator
without_offsets operators = map (λ (o : Operator × ℕ). o.0) operators

-- each operator with its own bytes, from its offset to that of the next one; those of the last, the body's own end, are one
abbrev pub own_bytes : List ℕ → List (Operator × ℕ) → List (Operator × List ℕ)
own_bytes input [] = []
own_bytes input (o ∷ []) = (o.0, slice_range input o.1 (o.1 + 1)) ∷ []
own_bytes input (o ∷ p ∷ operators) = (o.0, slice_range input o.1 p.1) ∷ own_bytes input (p ∷ operators)

-- with this one before the others, where so
abbrev pub and_where : {A : Type 0} → Bool → A → List A → List A
and_where true x xs = x ∷ xs
and_where false x xs = xs

-- the operator is no instruction of the table
abbrev pub is_structural : Operator → Bool
is_structural (Instr i) = false
is_structural o = true

-- the operators that it holds of, in their order, with their bytes
abbrev pub bytes_where : (holds : Operator → Bool) → List (Operator × List ℕ) → List (Operator × List ℕ)
bytes_where holds [] = []
bytes_where holds (p ∷ ps) = and_where (holds p.0) p (bytes_where holds ps)

-- it holds of none of the operators
abbrev pub none_of : (holds : Operator → Bool) → List Operator → Bool
none_of holds [] = true
none_of holds (o ∷ os) = not (holds o) && none_of holds os

-- the structural operators, in their order, with their bytes
abbrev pub structural_bytes : List (Operator × List ℕ) → List (Operator × List ℕ)
structural_bytes ps = bytes_where is_structural ps
