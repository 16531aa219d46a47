-- The instruction table: the rows that this project reads and writes, and what it says of each
-- (opcodes, immediates, operands and results: WebAssembly Core Specification 3.0, Binary Format and Validation, Instructions;
-- the numbers of the rows and the rise of the colour are this project's own).
use Rattle.std.specs.Prelude.{◌≡◌, ℕ, zero, suc, List, [], ◌∷◌, ◌++◌, Option, Some, None, slice_get}
use Rattle.wasm_code.specs.declared.immediate.ValType.TheVariants as types
use Rattle.wasm_code.specs.declared.table.Opcode.{Opcode}
use Rattle.wasm_code.specs.declared.table.Opcode.TheVariants.{Byte, Fc, Fd}
use Rattle.wasm_code.specs.declared.table.Kind.{Kind}
use Rattle.wasm_code.specs.declared.table.Kind.TheVariants as kind
use Rattle.wasm_code.specs.declared.table.ResultKind.{ResultKind}
use Rattle.wasm_code.specs.declared.table.ResultKind.TheVariants as results
use Rattle.wasm_code.specs.declared.table.Row.{Row}
use Rattle.wasm_code.specs.declared.table.RowInfo.{RowInfo}

-- so many rows whose opcodes follow one another, with one kind of immediate, count of operands, result and rise of the colour
abbrev span : (ℕ → Opcode) → (first count : ℕ) → Kind → Option ℕ → ResultKind → ℕ → List Row
span made first zero kind operands result change = []
span made first (suc count) kind operands result change =
    record { opcode = made first; kind = kind; info = record { operands = operands; result = result; change = change } }
    ∷ span made (suc first) count kind operands result change

-- of one byte
abbrev bytes : (first count : ℕ) → Kind → Option ℕ → ResultKind → ℕ → List Row
bytes = span (λ b. Byte b)

-- of the byte FC and a number
abbrev fc : (first count : ℕ) → Kind → Option ℕ → ResultKind → ℕ → List Row
fc = span (λ n. Fc n)

-- of the byte FD and a number
abbrev fd : (first count : ℕ) → Kind → Option ℕ → ResultKind → ℕ → List Row
fd = span (λ n. Fd n)

-- one result, a whole number of 32 bits, whatever the operands are
abbrev i32 : ResultKind
i32 = results.Fixed types.I32

-- one result, a whole number of 64 bits
abbrev i64 : ResultKind
i64 = results.Fixed types.I64

-- one result, a float of 32 bits
abbrev f32 : ResultKind
f32 = results.Fixed types.F32

-- one result, a float of 64 bits
abbrev f64 : ResultKind
f64 = results.Fixed types.F64

-- one result, a vector of 128 bits
abbrev v128 : ResultKind
v128 = results.Fixed types.V128

-- one result, a reference to a function
abbrev funcref : ResultKind
funcref = results.Fixed types.FuncRef

-- the rows of the spans, one span behind another
abbrev all_of : List (List Row) → List Row
all_of [] = []
all_of (rows ∷ more) = rows ++ all_of more

-- the rows, span by span: the first opcode, how many, the kind of their immediates, operands, result, rise of the colour
abbrev spans : List (List Row)
spans =
    bytes 0x01 1 kind.Nothing (Some 0) results.Nothing 1  -- nop
    ∷ bytes 0x10 1 kind.Index None results.Call 0  -- call
    ∷ bytes 0x1a 1 kind.Nothing (Some 1) results.Nothing 1  -- drop
    ∷ bytes 0x1b 1 kind.Nothing (Some 3) results.First 0  -- select
    ∷ bytes 0x20 1 kind.Index (Some 0) results.Local 0  -- local.get
    ∷ bytes 0x21 1 kind.Index (Some 1) results.Nothing 1  -- local.set
    ∷ bytes 0x22 1 kind.Index (Some 1) results.Local 1  -- local.tee
    ∷ bytes 0x23 1 kind.Index (Some 0) results.Global 0  -- global.get
    ∷ bytes 0x24 1 kind.Index (Some 1) results.Nothing 1  -- global.set
    ∷ bytes 0x25 1 kind.Index (Some 1) results.Element 0  -- table.get
    ∷ bytes 0x26 1 kind.Index (Some 2) results.Nothing 1  -- table.set
    ∷ bytes 0x28 1 kind.Mem (Some 1) i32 0  -- i32.load
    ∷ bytes 0x29 1 kind.Mem (Some 1) i64 0  -- i64.load
    ∷ bytes 0x2a 1 kind.Mem (Some 1) f32 0  -- f32.load
    ∷ bytes 0x2b 1 kind.Mem (Some 1) f64 0  -- f64.load
    ∷ bytes 0x2c 4 kind.Mem (Some 1) i32 0  -- i32.load8_s to i32.load16_u
    ∷ bytes 0x30 6 kind.Mem (Some 1) i64 0  -- i64.load8_s to i64.load32_u
    ∷ bytes 0x36 9 kind.Mem (Some 2) results.Nothing 1  -- i32.store to i64.store32
    ∷ bytes 0x3f 1 kind.Index (Some 0) results.Memory 0  -- memory.size
    ∷ bytes 0x40 1 kind.Index (Some 1) results.Memory 1  -- memory.grow
    ∷ bytes 0x41 1 kind.I32 (Some 0) i32 0  -- i32.const
    ∷ bytes 0x42 1 kind.I64 (Some 0) i64 0  -- i64.const
    ∷ bytes 0x43 1 kind.F32 (Some 0) f32 0  -- f32.const
    ∷ bytes 0x44 1 kind.F64 (Some 0) f64 0  -- f64.const
    ∷ bytes 0x45 1 kind.Nothing (Some 1) i32 0  -- i32.eqz
    ∷ bytes 0x46 10 kind.Nothing (Some 2) i32 0  -- i32.eq to i32.ge_u
    ∷ bytes 0x50 1 kind.Nothing (Some 1) i32 0  -- i64.eqz
    ∷ bytes 0x51 22 kind.Nothing (Some 2) i32 0  -- i64.eq to f64.ge
    ∷ bytes 0x67 3 kind.Nothing (Some 1) i32 0  -- i32.clz to i32.popcnt
    ∷ bytes 0x6a 15 kind.Nothing (Some 2) i32 0  -- i32.add to i32.rotr
    ∷ bytes 0x79 3 kind.Nothing (Some 1) i64 0  -- i64.clz to i64.popcnt
    ∷ bytes 0x7c 15 kind.Nothing (Some 2) i64 0  -- i64.add to i64.rotr
    ∷ bytes 0x8b 7 kind.Nothing (Some 1) f32 0  -- f32.abs to f32.sqrt
    ∷ bytes 0x92 7 kind.Nothing (Some 2) f32 0  -- f32.add to f32.copysign
    ∷ bytes 0x99 7 kind.Nothing (Some 1) f64 0  -- f64.abs to f64.sqrt
    ∷ bytes 0xa0 7 kind.Nothing (Some 2) f64 0  -- f64.add to f64.copysign
    ∷ bytes 0xa7 5 kind.Nothing (Some 1) i32 0  -- wrap to i32.trunc_f64_u
    ∷ bytes 0xac 6 kind.Nothing (Some 1) i64 0  -- i64.extend_i32_s to i64.trunc_f64_u
    ∷ bytes 0xb2 5 kind.Nothing (Some 1) f32 0  -- f32.convert_i32_s to f32.demote_f64
    ∷ bytes 0xb7 5 kind.Nothing (Some 1) f64 0  -- f64.convert_i32_s to f64.promote_f32
    ∷ bytes 0xbc 1 kind.Nothing (Some 1) i32 0  -- i32.reinterpret_f32
    ∷ bytes 0xbd 1 kind.Nothing (Some 1) i64 0  -- i64.reinterpret_f64
    ∷ bytes 0xbe 1 kind.Nothing (Some 1) f32 0  -- f32.reinterpret_i32
    ∷ bytes 0xbf 1 kind.Nothing (Some 1) f64 0  -- f64.reinterpret_i64
    ∷ bytes 0xc0 2 kind.Nothing (Some 1) i32 0  -- i32.extend8_s to i32.extend16_s
    ∷ bytes 0xc2 3 kind.Nothing (Some 1) i64 0  -- i64.extend8_s to i64.extend32_s
    ∷ bytes 0xd0 1 kind.Heap (Some 0) results.Immediate 0  -- ref.null
    ∷ bytes 0xd1 1 kind.Nothing (Some 1) i32 0  -- ref.is_null
    ∷ bytes 0xd2 1 kind.Index (Some 0) funcref 0  -- ref.func
    ∷ fc 0 4 kind.Nothing (Some 1) i32 0  -- i32.trunc_sat_f32_s to i32.trunc_sat_f64_u
    ∷ fc 4 4 kind.Nothing (Some 1) i64 0  -- i64.trunc_sat_f32_s to i64.trunc_sat_f64_u
    ∷ fc 8 1 kind.Pair (Some 3) results.Nothing 1  -- memory.init
    ∷ fc 9 1 kind.Index (Some 0) results.Nothing 1  -- data.drop
    ∷ fc 10 1 kind.Pair (Some 3) results.Nothing 1  -- memory.copy
    ∷ fc 11 1 kind.Index (Some 3) results.Nothing 1  -- memory.fill
    ∷ fc 12 1 kind.Pair (Some 3) results.Nothing 1  -- table.init
    ∷ fc 13 1 kind.Index (Some 0) results.Nothing 1  -- elem.drop
    ∷ fc 14 1 kind.Pair (Some 3) results.Nothing 1  -- table.copy
    ∷ fc 15 1 kind.Index (Some 2) results.Table 1  -- table.grow
    ∷ fc 16 1 kind.Index (Some 0) results.Table 0  -- table.size
    ∷ fc 17 1 kind.Index (Some 3) results.Nothing 1  -- table.fill
    ∷ fd 0 11 kind.Mem (Some 1) v128 0  -- v128.load to v128.load64_splat
    ∷ fd 11 1 kind.Mem (Some 2) results.Nothing 1  -- v128.store
    ∷ fd 12 1 kind.V128 (Some 0) v128 0  -- v128.const
    ∷ fd 13 1 kind.Shuffle (Some 2) v128 0  -- i8x16.shuffle
    ∷ fd 14 1 kind.Nothing (Some 2) v128 0  -- i8x16.swizzle
    ∷ fd 15 6 kind.Nothing (Some 1) v128 0  -- i8x16.splat to f64x2.splat
    ∷ fd 21 2 kind.Lane (Some 1) i32 0  -- i8x16.extract_lane_s to i8x16.extract_lane_u
    ∷ fd 23 1 kind.Lane (Some 2) v128 0  -- i8x16.replace_lane
    ∷ fd 24 2 kind.Lane (Some 1) i32 0  -- i16x8.extract_lane_s to i16x8.extract_lane_u
    ∷ fd 26 1 kind.Lane (Some 2) v128 0  -- i16x8.replace_lane
    ∷ fd 27 1 kind.Lane (Some 1) i32 0  -- i32x4.extract_lane
    ∷ fd 28 1 kind.Lane (Some 2) v128 0  -- i32x4.replace_lane
    ∷ fd 29 1 kind.Lane (Some 1) i64 0  -- i64x2.extract_lane
    ∷ fd 30 1 kind.Lane (Some 2) v128 0  -- i64x2.replace_lane
    ∷ fd 31 1 kind.Lane (Some 1) f32 0  -- f32x4.extract_lane
    ∷ fd 32 1 kind.Lane (Some 2) v128 0  -- f32x4.replace_lane
    ∷ fd 33 1 kind.Lane (Some 1) f64 0  -- f64x2.extract_lane
    ∷ fd 34 1 kind.Lane (Some 2) v128 0  -- f64x2.replace_lane
    ∷ fd 35 42 kind.Nothing (Some 2) v128 0  -- i8x16.eq to f64x2.ge
    ∷ fd 77 1 kind.Nothing (Some 1) v128 0  -- v128.not
    ∷ fd 78 4 kind.Nothing (Some 2) v128 0  -- v128.and to v128.xor
    ∷ fd 82 1 kind.Nothing (Some 3) v128 0  -- v128.bitselect
    ∷ fd 83 1 kind.Nothing (Some 1) i32 0  -- v128.any_true
    ∷ fd 84 4 kind.MemLane (Some 2) v128 0  -- v128.load8_lane to v128.load64_lane
    ∷ fd 88 4 kind.MemLane (Some 2) results.Nothing 1  -- v128.store8_lane to v128.store64_lane
    ∷ fd 92 2 kind.Mem (Some 1) v128 0  -- v128.load32_zero to v128.load64_zero
    ∷ fd 94 5 kind.Nothing (Some 1) v128 0  -- f32x4.demote_f64x2_zero to i8x16.popcnt
    ∷ fd 99 2 kind.Nothing (Some 1) i32 0  -- i8x16.all_true to i8x16.bitmask
    ∷ fd 101 2 kind.Nothing (Some 2) v128 0  -- i8x16.narrow_i16x8_s to i8x16.narrow_i16x8_u
    ∷ fd 103 4 kind.Nothing (Some 1) v128 0  -- f32x4.ceil to f32x4.nearest
    ∷ fd 107 9 kind.Nothing (Some 2) v128 0  -- i8x16.shl to i8x16.sub_sat_u
    ∷ fd 116 2 kind.Nothing (Some 1) v128 0  -- f64x2.ceil to f64x2.floor
    ∷ fd 118 4 kind.Nothing (Some 2) v128 0  -- i8x16.min_s to i8x16.max_u
    ∷ fd 122 1 kind.Nothing (Some 1) v128 0  -- f64x2.trunc
    ∷ fd 123 1 kind.Nothing (Some 2) v128 0  -- i8x16.avgr_u
    ∷ fd 124 6 kind.Nothing (Some 1) v128 0  -- i16x8.extadd_pairwise_i8x16_s to i16x8.neg
    ∷ fd 130 1 kind.Nothing (Some 2) v128 0  -- i16x8.q15mulr_sat_s
    ∷ fd 131 2 kind.Nothing (Some 1) i32 0  -- i16x8.all_true to i16x8.bitmask
    ∷ fd 133 2 kind.Nothing (Some 2) v128 0  -- i16x8.narrow_i32x4_s to i16x8.narrow_i32x4_u
    ∷ fd 135 4 kind.Nothing (Some 1) v128 0  -- i16x8.extend_low_i8x16_s to i16x8.extend_high_i8x16_u
    ∷ fd 139 9 kind.Nothing (Some 2) v128 0  -- i16x8.shl to i16x8.sub_sat_u
    ∷ fd 148 1 kind.Nothing (Some 1) v128 0  -- f64x2.nearest
    ∷ fd 149 5 kind.Nothing (Some 2) v128 0  -- i16x8.mul to i16x8.max_u
    ∷ fd 155 5 kind.Nothing (Some 2) v128 0  -- i16x8.avgr_u to i16x8.extmul_high_i8x16_u
    ∷ fd 160 2 kind.Nothing (Some 1) v128 0  -- i32x4.abs to i32x4.neg
    ∷ fd 163 2 kind.Nothing (Some 1) i32 0  -- i32x4.all_true to i32x4.bitmask
    ∷ fd 167 4 kind.Nothing (Some 1) v128 0  -- i32x4.extend_low_i16x8_s to i32x4.extend_high_i16x8_u
    ∷ fd 171 4 kind.Nothing (Some 2) v128 0  -- i32x4.shl to i32x4.add
    ∷ fd 177 1 kind.Nothing (Some 2) v128 0  -- i32x4.sub
    ∷ fd 181 6 kind.Nothing (Some 2) v128 0  -- i32x4.mul to i32x4.dot_i16x8_s
    ∷ fd 188 4 kind.Nothing (Some 2) v128 0  -- i32x4.extmul_low_i16x8_s to i32x4.extmul_high_i16x8_u
    ∷ fd 192 2 kind.Nothing (Some 1) v128 0  -- i64x2.abs to i64x2.neg
    ∷ fd 195 2 kind.Nothing (Some 1) i32 0  -- i64x2.all_true to i64x2.bitmask
    ∷ fd 199 4 kind.Nothing (Some 1) v128 0  -- i64x2.extend_low_i32x4_s to i64x2.extend_high_i32x4_u
    ∷ fd 203 4 kind.Nothing (Some 2) v128 0  -- i64x2.shl to i64x2.add
    ∷ fd 209 1 kind.Nothing (Some 2) v128 0  -- i64x2.sub
    ∷ fd 213 11 kind.Nothing (Some 2) v128 0  -- i64x2.mul to i64x2.extmul_high_i32x4_u
    ∷ fd 224 2 kind.Nothing (Some 1) v128 0  -- f32x4.abs to f32x4.neg
    ∷ fd 227 1 kind.Nothing (Some 1) v128 0  -- f32x4.sqrt
    ∷ fd 228 8 kind.Nothing (Some 2) v128 0  -- f32x4.add to f32x4.pmax
    ∷ fd 236 2 kind.Nothing (Some 1) v128 0  -- f64x2.abs to f64x2.neg
    ∷ fd 239 1 kind.Nothing (Some 1) v128 0  -- f64x2.sqrt
    ∷ fd 240 8 kind.Nothing (Some 2) v128 0  -- f64x2.add to f64x2.pmax
    ∷ fd 248 8 kind.Nothing (Some 1) v128 0  -- i32x4.trunc_sat_f32x4_s to f64x2.convert_low_i32x4_u
    ∷ fd 256 1 kind.Nothing (Some 2) v128 0  -- i8x16.relaxed_swizzle
    ∷ fd 257 4 kind.Nothing (Some 1) v128 0  -- i32x4.relaxed_trunc_f32x4_s to i32x4.relaxed_trunc_f64x2_u_zero
    ∷ fd 261 8 kind.Nothing (Some 3) v128 0  -- f32x4.relaxed_madd to i64x2.relaxed_laneselect
    ∷ fd 269 6 kind.Nothing (Some 2) v128 0  -- f32x4.relaxed_min to i16x8.relaxed_dot_i8x16_i7x16_s
    ∷ fd 275 1 kind.Nothing (Some 3) v128 0  -- i32x4.relaxed_dot_i8x16_i7x16_add_s
    ∷ bytes 0x1c 1 kind.Val (Some 3) results.Immediate 0  -- select with a type
    ∷ []

-- the rows: a row's number is its place
unfoldable pub table : List Row
table = all_of spans

-- the row with that number
unfoldable pub row_at : ℕ → Option Row
row_at n = slice_get table n

-- the opcode of a row, where the table has that row
abbrev pub opcode_in : Option Row → Option Opcode
opcode_in None = None
opcode_in (Some row) = Some row.opcode

-- row r of the table has that opcode
unfoldable pub HasOpcode : ℕ → Opcode → Type 0
HasOpcode r o = opcode_in (row_at r) ≡ Some o

-- operands, result and rise of the colour of a row, where the table has that row
abbrev pub info_in : Option Row → Option RowInfo
info_in None = None
info_in (Some row) = Some row.info

-- what the table says of row r
unfoldable pub row_info_of : ℕ → Option RowInfo
row_info_of r = info_in (row_at r)
