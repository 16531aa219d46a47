-- Worked runs, by the definitions alone.
use Rattle.std.specs.Prelude.{◌≡◌, refl, ℕ, suc, zero, ℤ, pos, neg_ℤ, List, [], ◌∷◌, ◌++◌, map, filter, is_some, Some, ◌==◌, true, false, if◌then◌else◌}
use lib.Count.{count_leading_zeros}
use Rattle.wasm_code.specs.declared.immediate.Imm.{Imm}
use Rattle.wasm_code.specs.declared.immediate.Imm.TheVariants as imm
use Rattle.wasm_code.specs.declared.immediate.ValType.TheVariants as val
use Rattle.wasm_code.specs.declared.table.Opcode.TheVariants.{Byte}
use Rattle.wasm_code.specs.declared.table.Kind.{Kind}
use Rattle.wasm_code.specs.declared.table.Kind.TheVariants as kind
use Rattle.wasm_code.specs.Instruction.{Instruction}
use Rattle.wasm_code.specs.Table.{row_at, table}
use Rattle.wasm_types.specs.Module.{Module, module_of}
use Rattle.wasm_types.specs.declared.types.PrimitiveTypeInfo.TheVariants as primitive
use Rattle.wasm_execution.specs.declared.integer.IntegerType.TheVariants as integer
use Rattle.wasm_types.specs.declared.types.TypeInfo.TheVariants.{Func}
use Rattle.wasm_execution.specs.OtherRow.{other_type, changes, may_trap}
use Rattle.wasm_execution.specs.Values.{foreign_call, asked_types, Value, whole, divide_by_zero, overflow, met, Gives, Fails, World, State}
use Rattle.wasm_execution.specs.Values.{own_globals, Ends, Traps, Stuck}
use Rattle.wasm_execution.specs.IntegerRow.{other, bare_operator, opcode_row, integer_row}
use Rattle.wasm_execution.specs.Machine.{run}

abbrev i32 : ℕ → Value
i32 n = whole integer.I32 n

abbrev i64 : ℕ → Value
i64 n = whole integer.I64 n

abbrev i32_const : ℤ → Instruction
i32_const z = record { row = 36; imm = imm.I32 z }

abbrev i64_const : ℤ → Instruction
i64_const z = record { row = 37; imm = imm.I64 z }

abbrev bare : ℕ → Instruction
bare row = record { row = row; imm = imm.Nothing }

abbrev local_get : ℕ → Instruction
local_get n = record { row = 4; imm = imm.Index n }

abbrev local_set : ℕ → Instruction
local_set n = record { row = 5; imm = imm.Index n }

abbrev local_tee : ℕ → Instruction
local_tee n = record { row = 6; imm = imm.Index n }

abbrev global_get : ℕ → Instruction
global_get n = record { row = 7; imm = imm.Index n }

abbrev global_set : ℕ → Instruction
global_set n = record { row = 8; imm = imm.Index n }

-- ---- operators

-- i32.sub
sub_5_3 : (s : State) → run (i32_const (pos 5) ∷ i32_const (pos 3) ∷ bare 78 ∷ []) [] s ≡ Ends (i32 2 ∷ []) s
unfolding integer_row row_at table
sub_5_3 s = refl

-- i32.div_s and i32.rem_s of the least value by -1
div_s_least : (s : State) → run (i32_const (neg_ℤ (pos 2147483648)) ∷ i32_const (neg_ℤ (pos 1)) ∷ bare 80 ∷ []) [] s ≡ Traps overflow (own_globals s) s.rest
unfolding integer_row row_at table
div_s_least s = refl

rem_s_least : (s : State) → run (i32_const (neg_ℤ (pos 2147483648)) ∷ i32_const (neg_ℤ (pos 1)) ∷ bare 82 ∷ []) [] s ≡ Ends (i32 0 ∷ []) s
unfolding integer_row row_at table
rem_s_least s = refl

-- i32.shl
shl_1_33 : (s : State) → run (i32_const (pos 1) ∷ i32_const (pos 33) ∷ bare 87 ∷ []) [] s ≡ Ends (i32 2 ∷ []) s
unfolding integer_row row_at table
shl_1_33 s = refl

-- i32.clz
clz_0 : (s : State) → run (i32_const (pos 0) ∷ bare 74 ∷ []) [] s ≡ Ends (i32 32 ∷ []) s
unfolding integer_row row_at table count_leading_zeros
clz_0 s = refl

-- i64.sub
sub_0_1 : (s : State) → run (i64_const (pos 0) ∷ i64_const (pos 1) ∷ bare 96 ∷ []) [] s ≡ Ends (i64 18446744073709551615 ∷ []) s
unfolding integer_row row_at table
sub_0_1 s = refl

-- the operands lie above what was there
above_others : (v : Value) (s : State) → run (i32_const (pos 5) ∷ i32_const (pos 3) ∷ bare 78 ∷ []) (v ∷ []) s ≡ Ends (v ∷ i32 2 ∷ []) s
unfolding integer_row row_at table
above_others v s = refl

-- drop, select and nop
dropped : (s : State) → run (i32_const (pos 5) ∷ i64_const (pos 3) ∷ bare 2 ∷ bare 0 ∷ []) [] s ≡ Ends (i32 5 ∷ []) s
unfolding integer_row row_at table
dropped s = refl

selected_first : (s : State) → run (i64_const (pos 5) ∷ i64_const (pos 3) ∷ i32_const (neg_ℤ (pos 1)) ∷ bare 3 ∷ []) [] s ≡
    Ends (i64 5 ∷ []) s
unfolding integer_row row_at table
selected_first s = refl

selected_second : (s : State) → run (i64_const (pos 5) ∷ i64_const (pos 3) ∷ i32_const (pos 0) ∷ bare 3 ∷ []) [] s ≡ Ends (i64 3 ∷ []) s
unfolding integer_row row_at table
selected_second s = refl

-- ---- variables

-- an i32 and an f32
abbrev locals : List Value
locals = i32 5 ∷ record { type = primitive.F32; number = 9 } ∷ []

abbrev info : Module
info = record (module_of []) { globals = primitive.I32 ∷ []; memories = record { memory64 = false; shared = false } ∷ [] }

-- where a load gives 8, and every other instruction traps for a cause with the mark 6
abbrev world : World
world = record {
  info = info;
  answer = λ i vs globals rest. if i.row == 11 then Gives (i32 8 ∷ []) globals rest else Fails (met 6) globals rest;
  others = λ i vs globals rest more. more;
}

abbrev start : State
start = record { locals = locals; globals = i32 0 ∷ []; rest = 3; world = world }

-- 7 is stored, and then a division by 0 traps
stores_and_traps : run (i32_const (pos 7) ∷ global_set 0 ∷ i32_const (pos 1) ∷ i32_const (pos 0) ∷ bare 81 ∷ []) [] start ≡
    Traps divide_by_zero (i32 7 ∷ []) 3
unfolding integer_row row_at table
stores_and_traps = refl

stores_a_product : run (i32_const (pos 2) ∷ i32_const (pos 3) ∷ bare 79 ∷ local_set 0 ∷ local_get 0 ∷ bare 2 ∷ []) [] start ≡
    Ends [] (record start { locals = i32 6 ∷ record { type = primitive.F32; number = 9 } ∷ [] })
unfolding integer_row row_at table
stores_a_product = refl

keeps_what_it_stores : run (i32_const (pos 8) ∷ local_tee 0 ∷ local_get 0 ∷ global_get 0 ∷ []) [] start ≡
    Ends (i32 8 ∷ i32 8 ∷ i32 0 ∷ []) (record start { locals = i32 8 ∷ record { type = primitive.F32; number = 9 } ∷ [] })
unfolding integer_row row_at table
keeps_what_it_stores = refl

float_variable : run (local_get 1 ∷ local_get 1 ∷ i32_const (pos 0) ∷ bare 3 ∷ local_set 1 ∷ []) [] start ≡ Ends [] start
unfolding integer_row row_at table
float_variable = refl

-- ---- the world

abbrev i32_load : Instruction
i32_load = record { row = 11; imm = imm.Mem (record { offset = 0; align = 2; memory = 0 }) }

abbrev i32_store : Instruction
i32_store = record { row = 25; imm = imm.Mem (record { offset = 0; align = 2; memory = 0 }) }

loads : run (i32_const (pos 1) ∷ i32_const (pos 2) ∷ i32_load ∷ bare 77 ∷ []) [] start ≡ Ends (i32 9 ∷ []) start
unfolding integer_row row_at table other_type
loads = refl

store_traps : run (i32_const (pos 7) ∷ global_set 0 ∷ i32_const (pos 1) ∷ i32_const (pos 2) ∷ i32_store ∷ bare 77 ∷ []) [] start ≡ Traps (met 6) (i32 7 ∷ []) 3
unfolding integer_row row_at table other_type
store_traps = refl

-- an address of 64 bits in a memory that has 32
other_address : run (i64_const (pos 1) ∷ i32_load ∷ []) [] start ≡ Stuck
unfolding integer_row row_at table other_type
other_address = refl

-- ---- stuck

-- an operand is missing, also for the typed select
missing_operand : (s : State) → run (i32_const (pos 5) ∷ bare 77 ∷ []) [] s ≡ Stuck
unfolding integer_row row_at table
missing_operand s = refl

missing_condition : (s : State) → run (i32_const (pos 5) ∷ i32_const (pos 3) ∷ record { row = 445; imm = imm.Val val.I32 } ∷ []) [] s ≡
    Stuck
unfolding integer_row row_at table
missing_condition s = refl

-- an operand of another type
other_operand : (s : State) → run (i32_const (pos 5) ∷ i64_const (pos 3) ∷ bare 77 ∷ []) [] s ≡ Stuck
unfolding integer_row row_at table
other_operand s = refl

other_condition : (s : State) → run (i32_const (pos 5) ∷ i32_const (pos 3) ∷ i64_const (pos 1) ∷ bare 3 ∷ []) [] s ≡ Stuck
unfolding integer_row row_at table
other_condition s = refl

-- a variable that isn't there, or has another type
no_variable : run (local_get 2 ∷ []) [] start ≡ Stuck
unfolding integer_row row_at table
no_variable = refl

other_variable : run (i64_const (pos 1) ∷ local_set 0 ∷ []) [] start ≡ Stuck
unfolding integer_row row_at table
other_variable = refl

-- ---- rows

-- f32.const, f32.add, a call, the typed select of a float, and a row that isn't there are no integer rows
float_constant : integer_row (record { row = 38; imm = imm.F32 5 }) ≡ other (record { row = 38; imm = imm.F32 5 })
unfolding integer_row row_at table
float_constant = refl

float_sum : integer_row (bare 117) ≡ other (bare 117)
unfolding integer_row row_at table
float_sum = refl

call : integer_row (record { row = 1; imm = imm.Index 0 }) ≡ other (record { row = 1; imm = imm.Index 0 })
unfolding integer_row row_at table
call = refl

float_select : integer_row (record { row = 445; imm = imm.Val val.F32 }) ≡ other (record { row = 445; imm = imm.Val val.F32 })
unfolding integer_row row_at table
float_select = refl

no_such_row : integer_row (bare 446) ≡ other (bare 446)
unfolding integer_row row_at table
no_such_row = refl

abbrev from : (first count : ℕ) → List ℕ
from first zero = []
from first (suc count) = first ∷ from (suc first) count

-- the opcodes of one byte that are operators
operators : filter (λ byte. is_some (bare_operator byte)) (from 0 256) ≡ from 0x45 22 ++ from 0x67 36 ++ 0xa7 ∷ 0xac ∷ 0xad ∷ from 0xc0 5
operators = refl

-- an immediate of each kind that integer rows have
abbrev immediate : Kind → Imm
immediate kind.Nothing = imm.Nothing
immediate kind.Index = imm.Index 0
immediate kind.I32 = imm.I32 (pos 0)
immediate kind.I64 = imm.I64 (pos 0)
immediate kind.Val = imm.Val val.I32
immediate _ = imm.Lane 0

-- the opcodes of the table's integer rows
integer_rows : map (λ row. row.opcode) (filter (λ row. is_some (opcode_row (Some row.opcode) (immediate row.kind))) table) ≡
    map (λ byte. Byte byte)
    (0x01 ∷ 0x1a ∷ 0x1b ∷ from 0x20 5 ++ 0x41 ∷ 0x42 ∷ from 0x45 22 ++ from 0x67 36 ++ 0xa7 ∷ 0xac ∷ 0xad ∷ from 0xc0 5 ++ 0x1c ∷ [])
unfolding table
integer_rows = refl

-- ---- calls of foreign functions

-- they are no instructions, but worlds are asked for them: they may do anything, and have the types that their index names
foreign_row : (mark type : ℕ) → integer_row (foreign_call mark type) ≡ other (foreign_call mark type)
unfolding integer_row row_at table
foreign_row mark type = refl

foreign_free : (mark type : ℕ) → (changes (foreign_call mark type) ≡ true) × (may_trap (foreign_call mark type) ≡ true)
unfolding changes may_trap row_at table
foreign_free mark type = (refl, refl)

foreign_typed : (mark : ℕ) → asked_types (record (module_of []) {
  types = Func (record { params = primitive.I64 ∷ []; returns = primitive.F32 ∷ [] }) ∷ [];
}) (foreign_call mark 0) (primitive.I64 ∷ []) ≡ Some (primitive.F32 ∷ [])
unfolding other_type row_at table
foreign_typed mark = refl
