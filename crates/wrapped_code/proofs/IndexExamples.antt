-- Indices behind the last of two labels pick the same one, those of two labels don't; and a branch by a table whose index is bounded.
use Rattle.std.proofs.Common.{◌≡◌, ℕ, refl, lit<, List, [], ◌∷◌, ◌++◌}
use Rattle.std.specs.Prelude.{map}
use Rattle.wasm_code.specs.declared.immediate.BlockType.TheVariants as type
use Rattle.wasm_code.specs.declared.immediate.Imm.TheVariants as imm
use Rattle.wasm_code.specs.Instruction.{Instruction}
use Rattle.wasm_code.specs.declared.operator.Operator.TheVariants as op
use Rattle.wasm_code.specs.Table.{row_at, table}
use Rattle.wasm_types.specs.Module.{Module}
use Rattle.wasm_types.specs.declared.types.PrimitiveTypeInfo.TheVariants as primitive
use Rattle.wasm_execution.specs.Values.{context_in}
use Rattle.wasm_execution.specs.IntegerRow.{integer_row}
use Rattle.wasm_equivalence.specs.modules.Program.{Body}
use Rattle.wasm_equivalence.specs.validation.StaysValid.{Pushes, TypedCodePushes}
use Rattle.wrapped_code.specs.Indices.{LabelAlike, Reindexes, IndicesAreBounded}
use Rattle.wrapped_code.proofs.Examples.{get, number}

-- ---- labels

both_behind : LabelAlike 2 5 2
both_behind [] default = refl
both_behind (l ∷ []) default = refl
both_behind (l ∷ k ∷ labels) default = refl

apart : LabelAlike 2 0 1 → ⊥
apart h = let e : ◌≡◌ {A = ℕ} 7 8 = h (7 ∷ 8 ∷ []) 0 in absurd cc

-- ---- an index

-- block; block; the index; br_table, of two labels; end; end; end
abbrev switches : List Instruction → Body
switches index = record {
  params = primitive.I32 ∷ [];
  locals = [];
  operators =
      op.Block type.Empty ∷ op.Block type.Empty
      ∷ (map (λ (i : Instruction). op.Instr i) index ++ op.BrTable 2 ∷ op.End ∷ op.End ∷ op.End ∷ []);
}

abbrev below : Instruction
below = record { row = 44; imm = imm.Nothing }

abbrev pick : Instruction
pick = record { row = 3; imm = imm.Nothing }

-- local.get 0, and: local.get 0; i32.const 2; local.get 0; i32.const 2; i32.lt_u; select
bounded : TypedCodePushes → IndicesAreBounded → (m : Module) (input : List ℕ) →
    Reindexes m input (switches (get ∷ [])) (switches (get ∷ number 2 ∷ get ∷ number 2 ∷ below ∷ pick ∷ []))
unfolding integer_row row_at table
bounded typed ways m input =
    let context = context_in m (primitive.I32 ∷ []) in
    let push : Pushes context (get ∷ []) [] (primitive.I32 ∷ []) = typed.row context get [] (primitive.I32 ∷ []) refl in
    record {
      params_are = refl;
      locals_are = refl;
      front = op.Block type.Empty ∷ op.Block type.Empty ∷ [];
      back = op.End ∷ op.End ∷ op.End ∷ [];
      own = get ∷ [];
      code = get ∷ number 2 ∷ get ∷ number 2 ∷ below ∷ pick ∷ [];
      count = 2;
      old_is = refl;
      new_is = refl;
      pushes = push;
      pushes_so = ways.pushes context (get ∷ []) 2 (number 2) below pick (lit< tt) refl refl refl push;
      same = ways.bounded context (get ∷ []) 2 (number 2) below pick (lit< tt) refl refl refl refl push;
    }
