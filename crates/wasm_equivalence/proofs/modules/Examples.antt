-- A function that calls itself, run by the definitions alone, and rewritten with a requested global.
use Rattle.std.specs.Prelude.{◌≡◌, refl, ℕ, zero, suc, pos, neg_ℤ, [], ◌∷◌, Option, Some, None, List}
use Rattle.wasm_code.specs.declared.immediate.BlockType.TheVariants as block
use Rattle.wasm_code.specs.declared.immediate.ValType.TheVariants as val
use Rattle.wasm_code.specs.declared.immediate.Imm.TheVariants as imm
use Rattle.wasm_code.specs.declared.operator.Operator.TheVariants as op
use Rattle.wasm_code.specs.Table.{row_at, table}
use Rattle.wasm_types.specs.Module.{Module, module_of}
use Rattle.wasm_types.specs.declared.types.PrimitiveTypeInfo.TheVariants as primitive
use Rattle.wasm_types.specs.declared.types.TypeInfo.TheVariants.{Func}
use Rattle.wasm_execution.specs.declared.integer.IntegerType.TheVariants as integer
use Rattle.wasm_execution.specs.OtherRow.{other_type}
use Rattle.wasm_execution.specs.Values.{Value, whole, unfinished, stuck, met, Gives, Fails, Answer}
use Rattle.wasm_execution.specs.IntegerRow.{integer_row}
use Rattle.wasm_equivalence.specs.control.Standard.{standard}
use Rattle.wasm_equivalence.specs.modules.Program.{Body, Program, Controls, callee, Answering, world_with, world, Host, plain}
use Rattle.wasm_equivalence.proofs.ExamplePieces.{i32, call, nothing}

-- one function, of one i32 to one
abbrev info : Module
info = record (module_of []) { types = Func (record { params = primitive.I32 ∷ []; returns = primitive.I32 ∷ [] }) ∷ []; functions = 0 ∷ [] }

-- the same with a global that was requested
abbrev after : Module
after = record info { globals = primitive.I32 ∷ [] }

-- a host that refuses all
abbrev host : Module → Host
host m = plain (world_with m (λ i vs gs r. Fails (met 0) gs r))

abbrev controls : Controls
controls f structure = standard info (primitive.I32 ∷ []) structure nothing

-- local.get 0; if (result i32); local.get 0; i32.const -1; i32.add; call 0; else; i32.const 7; end; end
abbrev counts : Body
counts = record {
  params = primitive.I32 ∷ [];
  locals = [];
  operators = op.Instr (record { row = 4; imm = imm.Index 0 }) ∷ op.If (block.Value val.I32) ∷ op.Instr (record { row = 4; imm = imm.Index 0 })
      ∷ op.Instr (record { row = 36; imm = imm.I32 (neg_ℤ (pos 1)) }) ∷ op.Instr (record { row = 77; imm = imm.Nothing }) ∷ op.Instr (call 0) ∷ op.Else
      ∷ op.Instr (record { row = 36; imm = imm.I32 (pos 7) }) ∷ op.End ∷ op.End ∷ [];
}

-- the same, but that -1 goes through a requested global, as an unfolded constant might
abbrev counts_again : Body
counts_again = record {
  params = primitive.I32 ∷ [];
  locals = [];
  operators = op.Instr (record { row = 4; imm = imm.Index 0 }) ∷ op.If (block.Value val.I32) ∷ op.Instr (record { row = 4; imm = imm.Index 0 })
      ∷ op.Instr (record { row = 36; imm = imm.I32 (neg_ℤ (pos 1)) }) ∷ op.Instr (record { row = 8; imm = imm.Index 0 })
      ∷ op.Instr (record { row = 7; imm = imm.Index 0 }) ∷ op.Instr (record { row = 77; imm = imm.Nothing }) ∷ op.Instr (call 0) ∷ op.Else
      ∷ op.Instr (record { row = 36; imm = imm.I32 (pos 7) }) ∷ op.End ∷ op.End ∷ [];
}

abbrev only : Body → ℕ → Option Body
only b zero = Some b
only b (suc f) = None

abbrev old : Program
old = only counts

abbrev new : Program
new = only counts_again

-- from 2, three calls deep, both give 7; the requested global was 3, and is -1 after the calls
old_ends : (world (host info) controls 9 old 3).answer (call 0) (i32 2 ∷ []) [] 5 ≡ Gives (i32 7 ∷ []) [] 5
unfolding integer_row row_at table other_type callee
old_ends = refl

new_ends : (world (host after) controls 9 new 3).answer (call 0) (i32 2 ∷ []) (i32 3 ∷ []) 5 ≡ Gives (i32 7 ∷ []) (i32 4294967295 ∷ []) 5
unfolding integer_row row_at table other_type callee
new_ends = refl

-- two calls deep neither has ended
old_goes_on : (world (host info) controls 9 old 2).answer (call 0) (i32 2 ∷ []) [] 5 ≡ Fails unfinished [] 5
unfolding integer_row row_at table other_type callee
old_goes_on = refl

new_goes_on : (world (host after) controls 9 new 2).answer (call 0) (i32 2 ∷ []) (i32 3 ∷ []) 5 ≡ Fails unfinished (i32 4294967295 ∷ []) 5
unfolding integer_row row_at table other_type callee
new_goes_on = refl

-- with no fuel neither; one lap is enough, since nothing jumps back
old_short : (world (host info) controls 0 old 3).answer (call 0) (i32 2 ∷ []) [] 5 ≡ Fails unfinished [] 5
unfolding integer_row row_at table other_type callee
old_short = refl

old_in_one : (world (host info) controls 1 old 3).answer (call 0) (i32 2 ∷ []) [] 5 ≡ Gives (i32 7 ∷ []) [] 5
unfolding integer_row row_at table other_type callee
old_in_one = refl

-- an operand of another type: a fixed answer
other_operand : (world (host info) controls 9 old 3).answer (call 0) (whole integer.I64 2 ∷ []) [] 5 ≡ Fails stuck [] 5
unfolding integer_row row_at table other_type callee
other_operand = refl

-- ---- an import that calls an export back

-- to the import it answers what the function with index 0 does
abbrev back_to : Answering → Option ℕ → (vs gs : List Value) → (r : ℕ) → Answer
back_to calls (Some (suc f)) vs gs r = calls (call 0) vs gs r
back_to calls o vs gs r = Fails (met 0) gs r

abbrev calls_back : Host
calls_back = record {
  info = record info { functions = 0 ∷ 0 ∷ [] };
  base = λ i vs gs r. Fails unfinished gs r;
  over = λ calls i vs gs r. back_to calls (callee i) vs gs r;
}

-- the function above, with its call to the import
abbrev through : Program
through =
    only (record {
      params = primitive.I32 ∷ [];
      locals = [];
      operators = op.Instr (record { row = 4; imm = imm.Index 0 }) ∷ op.If (block.Value val.I32) ∷ op.Instr (record { row = 4; imm = imm.Index 0 })
          ∷ op.Instr (record { row = 36; imm = imm.I32 (neg_ℤ (pos 1)) }) ∷ op.Instr (record { row = 77; imm = imm.Nothing }) ∷ op.Instr (call 1) ∷ op.Else
          ∷ op.Instr (record { row = 36; imm = imm.I32 (pos 7) }) ∷ op.End ∷ op.End ∷ [];
    })

-- from 2, through the import each time
through_ends : (world calls_back controls 9 through 5).answer (call 0) (i32 2 ∷ []) [] 5 ≡ Gives (i32 7 ∷ []) [] 5
unfolding integer_row row_at table other_type callee
through_ends = refl

through_goes_on : (world calls_back controls 9 through 4).answer (call 0) (i32 2 ∷ []) [] 5 ≡ Fails unfinished [] 5
unfolding integer_row row_at table other_type callee
through_goes_on = refl
