-- Code in an exact world with a memory of 64 bytes: what is stored is loaded, byte by byte, and an access beyond the memory traps.
use Rattle.std.specs.Prelude.{◌≡◌, refl, ℕ, ℤ, pos, negsuc, ◌==◌, ◌&&◌, Bool, true, false, [], ◌∷◌}
use Rattle.wasm_code.specs.declared.immediate.Imm.{Imm}
use Rattle.wasm_code.specs.declared.immediate.Imm.TheVariants as imm
use Rattle.wasm_code.specs.Instruction.{Instruction}
use Rattle.wasm_code.specs.Table.{row_at, table}
use Rattle.wasm_types.specs.Module.{Module, module_of}
use Rattle.wasm_types.specs.declared.types.PrimitiveTypeInfo.{PrimitiveTypeInfo}
use Rattle.wasm_types.specs.declared.types.PrimitiveTypeInfo.TheVariants as primitive
use Rattle.wasm_execution.specs.ExactRow.{exact_row}
use Rattle.wasm_execution.specs.OtherRow.{other_type}
use Rattle.wasm_execution.specs.Values.{bytes_of_number, same_type, State, Outcome, Ends, Traps, met}
use Rattle.wasm_execution.specs.IntegerRow.{integer_row}
use Rattle.wasm_execution.specs.Machine.{run}
use Rattle.wasm_execution.proofs.LawLemmas.{exact_world}

abbrev info : Module
info = record (module_of []) { memories = record { memory64 = false; shared = false } ∷ []; exact = true }

abbrev start : State
start = record { locals = []; globals = []; rest = 0; world = exact_world info 64 }

abbrev i32_const : ℤ → Instruction
i32_const z = record { row = 36; imm = imm.I32 z }

abbrev at_offset : ℕ → Imm
at_offset n = imm.Mem (record { offset = n; align = 0; memory = 0 })

abbrev leaves : PrimitiveTypeInfo → ℕ → Outcome → Bool
leaves t n (Ends (v ∷ []) s) = same_type v.type t && (v.number == n)
leaves t n o = false

abbrev traps : Outcome → Bool
traps (Traps (met n) gs r) = n == 0
traps o = false

-- i32.store at 8 + 4, i32.load16_u at 12 + 0, and i32.load8_s at 15: the low half, and the highest byte with its sign
low_half : leaves primitive.I32 0x5678 (run (i32_const (pos 8) ∷ i32_const (negsuc 1842063751) ∷ record { row = 25; imm = at_offset 4 }
    ∷ i32_const (pos 12) ∷ record { row = 18; imm = at_offset 0 } ∷ []) [] start) ≡ true
unfolding integer_row row_at table exact_row other_type bytes_of_number
low_half = refl

-- the highest byte of the same, with its sign: 0x92 is -110
high_byte : leaves primitive.I32 4294967186 (run (i32_const (pos 8) ∷ i32_const (negsuc 1842063751) ∷ record { row = 25; imm = at_offset 4 }
    ∷ i32_const (pos 15) ∷ record { row = 15; imm = at_offset 0 } ∷ []) [] start) ≡ true
unfolding integer_row row_at table exact_row other_type bytes_of_number
high_byte = refl

-- the same bytes as a float, whose sign is turned, as an integer again
as_float : leaves primitive.I32 0x12345678 (run (i32_const (pos 8) ∷ i32_const (negsuc 1842063751) ∷ record { row = 25; imm = at_offset 4 }
    ∷ i32_const (pos 12) ∷ record { row = 13; imm = at_offset 0 } ∷ record { row = 111; imm = imm.Nothing }
    ∷ record { row = 159; imm = imm.Nothing } ∷ []) [] start) ≡ true
unfolding integer_row row_at table exact_row other_type bytes_of_number
as_float = refl

-- the last four bytes are there, and four from 61 on are not
beyond : traps (run (i32_const (pos 61) ∷ record { row = 11; imm = at_offset 0 } ∷ []) [] start) ≡ true
unfolding integer_row row_at table exact_row other_type bytes_of_number
beyond = refl

within : leaves primitive.I32 0 (run (i32_const (pos 50) ∷ record { row = 11; imm = at_offset 10 } ∷ []) [] start) ≡ true
unfolding integer_row row_at table exact_row other_type bytes_of_number
within = refl
