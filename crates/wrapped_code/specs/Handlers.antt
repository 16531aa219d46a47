-- Operators that open a block that catches exceptions (this project, after the WebAssembly Core Specification 3.0, Execution, Instructions, Control
-- Instructions).
use Rattle.std.specs.Prelude.{◌≡◌, ℕ, Bool, true, false, ◌&&◌, not, List, [], ◌∷◌, map}
use Rattle.wasm_code.specs.Body.{SpellsAll}
use Rattle.wasm_code.specs.declared.operator.Operator.{Operator}
use Rattle.wasm_code.specs.declared.operator.Operator.TheVariants as op
use Rattle.wasm_equivalence.specs.control.Blocks.{Role, handles, tries, role_of}

-- a `try_table`, or the older `try`
abbrev pub handles_by : Role → Bool
handles_by handles = true
handles_by tries = true
handles_by r = false

abbrev pub is_handler : Operator → Bool
is_handler (op.Other o) = handles_by (role_of o)
is_handler o = false

-- none of the operators is one
abbrev pub none_handle : List Operator → Bool
none_handle [] = true
none_handle (o ∷ os) = not (is_handler o) && none_handle os

-- What is read has none: no bytes spell an operator that catches exceptions.
abbrev pub ReadCodeHasNoHandlers : Type 0
ReadCodeHasNoHandlers =
    (from : ℕ) (text : List ℕ) (operators : List (Operator × ℕ)) → SpellsAll operators from text →
    none_handle (map (λ (o : Operator × ℕ). o.0) operators) ≡ true
