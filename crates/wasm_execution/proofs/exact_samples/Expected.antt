-- What a sample of an exact row expects: a value computed, a value loaded, or bytes stored.
use Rattle.std.specs.Prelude.{ℕ, ◌==◌, ◌&&◌, Bool, true, false, List, [], ◌∷◌, length, take, Option, Some}
use Rattle.wasm_code.specs.declared.immediate.MemArg.{MemArg}
use Rattle.wasm_types.specs.declared.types.PrimitiveTypeInfo.{PrimitiveTypeInfo}
use Rattle.wasm_execution.specs.ExactRow.{ExactRow, computes, loads, stores}
use Rattle.wasm_execution.specs.Values.{of_bits, little, bytes_of_number}

-- the row computes of these operands what is expected, in the type
abbrev pub all_are : PrimitiveTypeInfo → Option ExactRow → List (List ℕ × ℕ) → Bool
all_are t (Some (computes f)) [] = true
all_are t (Some (computes f)) (x ∷ xs) = (of_bits t (f x.0) == x.1) && all_are t (Some (computes f)) xs
all_are t o xs = false

-- it loads from these bytes what is expected
abbrev pub all_load : PrimitiveTypeInfo → Option ExactRow → List (List ℕ × ℕ) → Bool
all_load t (Some (loads a l)) [] = true
all_load t (Some (loads a l)) (x ∷ xs) = (of_bits t (l.extended (little (take l.count x.0))) == x.1) && all_load t (Some (loads a l)) xs
all_load t o xs = false

-- it stores of the number these bytes
abbrev pub all_store : Option ExactRow → List (ℕ × List ℕ) → Bool
all_store (Some (stores a count)) [] = true
all_store (Some (stores a count)) (x ∷ xs) =
    ((little (bytes_of_number count x.0) == little x.1) && (count == length x.1)) && all_store (Some (stores a count)) xs
all_store o xs = false

abbrev pub at_zero : MemArg
at_zero = record { offset = 0; align = 0; memory = 0 }
