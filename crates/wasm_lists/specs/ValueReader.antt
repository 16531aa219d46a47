-- Reading heap types, reference types, value types and constant expressions as functions (this project): for proofs. The contracts
-- of public calls go by the grammar.
use Rattle.std.specs.Prelude.{ℕ, zero, suc, ◌-◌, ◌==◌, nat_le, if◌then◌else◌, Bool, true, false, List, length, slice_index, Option, Some, None, Result, Ok, Err}
use Rattle.wasm_types.specs.declared.types.PrimitiveTypeInfo.{PrimitiveTypeInfo}
use Rattle.wasm_types.specs.declared.types.PrimitiveTypeInfo.TheVariants.{Empty}
use Rattle.wasm_code.specs.declared.fault.Cause.{Cause}
use Rattle.wasm_code.specs.declared.fault.Cause.TheVariants.{Truncated, UnknownOpcode, BadImmediate}
use Rattle.wasm_code.specs.Body.{is_end}
use Rattle.wasm_code.specs.Reader.{◌>>=◌, byte_at, named_at, times_at, unsigned_at, operator_at}
use Rattle.wasm_lists.specs.ValueTypes.{is_abstract, is_plain, plain_type}
use Rattle.wasm_lists.specs.Constants.{indices_behind, is_making}

-- ---- what the first byte tells apart

-- behind a first byte that passes the test what it asks for, and otherwise all of the bytes
abbrev pub chosen_by_first_at : {A : Type 0} → (ℕ → Bool) → (ℕ → List ℕ → Result (A × List ℕ) Cause) → (List ℕ → Result (A × List ℕ) Cause) → List ℕ
    → Result (A × List ℕ) Cause
chosen_by_first_at test behind other bytes = byte_at bytes >>= λ b. if test b.0 then behind b.0 b.1 else other bytes

-- whether the byte is that mark
abbrev pub mark_of : ℕ → ℕ → Option (Unit {0})
mark_of mark b = if b == mark then Some tt else None

-- that byte
unfoldable pub mark_at : ℕ → List ℕ → Result (Unit {0} × List ℕ) Cause
mark_at mark bytes = byte_at bytes >>= λ b. named_at (mark_of mark b.0) b.1

-- ---- value types

-- the number, unless its last byte, which stands before the others, makes it one below zero
abbrev pub not_below_zero : List ℕ → ℕ × List ℕ → Result (ℕ × List ℕ) Cause
not_below_zero bytes n = if nat_le 64 (slice_index bytes (length bytes - length n.1 - 1)) then Err BadImmediate else Ok n

-- an index that a heap type spells: a signed number of 33 bits that isn't below zero
unfoldable pub index_at : List ℕ → Result (ℕ × List ℕ) Cause
index_at bytes = unsigned_at 32 bytes >>= λ n. not_below_zero bytes n

-- a heap type: an abstract one, or an index
unfoldable pub heap_type_or_index_at : List ℕ → Result (Unit {0} × List ℕ) Cause
heap_type_or_index_at bytes = byte_at bytes >>= λ b.
    if is_abstract b.0 then Ok (tt, b.1) else (index_at bytes >>= λ n. Ok (tt, n.1))

-- a reference type
unfoldable pub reference_type_at : List ℕ → Result (Unit {0} × List ℕ) Cause
reference_type_at bytes = byte_at bytes >>= λ b.
    if b.0 == 0x63 then heap_type_or_index_at b.1
    else if b.0 == 0x64 then heap_type_or_index_at b.1
    else if is_abstract b.0 then Ok (tt, b.1)
    else Err BadImmediate

-- a value type
unfoldable pub primitive_at : List ℕ → Result (PrimitiveTypeInfo × List ℕ) Cause
primitive_at bytes = byte_at bytes >>= λ b.
    if is_plain b.0 then Ok (plain_type b.0, b.1) else (reference_type_at bytes >>= λ t. Ok (Empty, t.1))

-- whether the byte says that something may be written
abbrev pub mutable_of : ℕ → Option Bool
mutable_of b = if b == 0 then Some false else if b == 1 then Some true else None

-- whether something may be written
unfoldable pub mutable_at : List ℕ → Result (Bool × List ℕ) Cause
mutable_at bytes = byte_at bytes >>= λ b. named_at (mutable_of b.0) b.1

-- ---- constant expressions

-- an operator behind the byte FB
unfoldable pub making_at : List ℕ → Result (Unit {0} × List ℕ) Cause
making_at bytes = unsigned_at 32 bytes >>= λ n.
    if is_making n.0 then times_at (indices_behind n.0) (unsigned_at 32) n.1 else Err UnknownOpcode

-- an operator of a constant expression: whether it is the `end`
unfoldable pub constant_operator_at : List ℕ → Result (Bool × List ℕ) Cause
constant_operator_at bytes = byte_at bytes >>= λ b.
    if b.0 == 0xd0 then (heap_type_or_index_at b.1 >>= λ t. Ok (false, t.1))
    else if b.0 == 0xfb then (making_at b.1 >>= λ x. Ok (false, x.1))
    else (operator_at bytes >>= λ x. Ok (is_end x.0, x.1))

-- at most so many operators, up to and with the first `end`
unfoldable pub end_at : ℕ → List ℕ → Result (Unit {0} × List ℕ) Cause
end_at zero bytes = Err Truncated
end_at (suc most) bytes = constant_operator_at bytes >>= λ x. if x.0 then Ok (tt, x.1) else end_at most x.1

-- (each operator has a byte or more)
unfoldable pub initialiser_at : List ℕ → Result (Unit {0} × List ℕ) Cause
initialiser_at bytes = end_at (suc (length bytes)) bytes
