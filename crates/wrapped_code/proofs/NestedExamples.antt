-- A loop that is left by a branch under a condition, with a conditional in its place, and the other way round, also behind whole blocks; and why the label
-- takes nothing.
use Rattle.std.proofs.Common.{◌≡◌, ℕ, refl, ap, ◌∙◌, true, false, List, [], ◌∷◌, ◌++◌, Some}
use Rattle.std.proofs.lemmas.Option.{same_Some}
use Rattle.wasm_code.specs.declared.immediate.Imm.TheVariants as imm
use Rattle.wasm_code.specs.declared.immediate.BlockType.TheVariants as type
use Rattle.wasm_code.specs.declared.operator.Operator.{Operator}
use Rattle.wasm_code.specs.declared.operator.Operator.TheVariants as op
use Rattle.wasm_code.specs.Table.{row_at, table}
use Rattle.wasm_types.specs.Module.{Module}
use Rattle.wasm_types.specs.declared.types.PrimitiveTypeInfo.{PrimitiveTypeInfo}
use Rattle.wasm_types.specs.declared.types.PrimitiveTypeInfo.TheVariants as primitive
use Rattle.wasm_execution.specs.Values.{context_in}
use Rattle.wasm_execution.specs.IntegerRow.{integer_row}
use Rattle.wasm_equivalence.specs.control.Function.{structural}
use Rattle.wasm_equivalence.specs.control.Standard.{Beyond}
use Rattle.wasm_equivalence.specs.modules.Program.{Body}
use Rattle.wasm_equivalence.specs.validation.Algorithm.{check}
use Rattle.wasm_equivalence.specs.validation.StandardSteps.{body_frame, standard_steps}
use Rattle.wrapped_code.specs.Opened.{opens_bare, open_behind, open_before, TakesNothing}
use Rattle.wrapped_code.specs.Nested.{Nests, Unnests}
use Rattle.wrapped_code.proofs.Examples.{get, number, one_i32}

-- ---- out of a loop

-- block; loop; local.get 0; the branch; br 0; end; end; end
abbrev waits : List Operator → Body
waits branch = record {
  params = primitive.I32 ∷ [];
  locals = [];
  operators = op.Block type.Empty ∷ op.Loop type.Empty ∷ op.Instr get ∷ (branch ++ op.Br 0 ∷ op.End ∷ op.End ∷ op.End ∷ []);
}

-- br_if 1
abbrev leaves : List Operator
leaves = op.BrIf 1 ∷ []

-- if; br 2; end
abbrev leaves_inside : List Operator
leaves_inside = op.If type.Empty ∷ op.Br 2 ∷ op.End ∷ []

nests : (m : Module) (input : List ℕ) → Nests m input (waits leaves) (waits leaves_inside)
nests m input = record {
  params_are = refl;
  locals_are = refl;
  unhandled = refl;
  front = op.Block type.Empty ∷ op.Loop type.Empty ∷ op.Instr get ∷ [];
  back = op.Br 0 ∷ op.End ∷ op.End ∷ op.End ∷ [];
  label = 1;
  bare = record { opener = op.Block type.Empty; is_open = refl; bare = refl };
  old_is = refl;
  new_is = refl;
}

unnests : (m : Module) (input : List ℕ) → Unnests m input (waits leaves_inside) (waits leaves)
unnests m input = record {
  params_are = refl;
  locals_are = refl;
  unhandled = refl;
  front = op.Block type.Empty ∷ op.Loop type.Empty ∷ op.Instr get ∷ [];
  back = op.Br 0 ∷ op.End ∷ op.End ∷ op.End ∷ [];
  label = 1;
  old_is = refl;
  new_is = refl;
}

-- ---- by the definitions alone

abbrev IsAccepted : (results : List PrimitiveTypeInfo) → List Operator → Module → Beyond → Type 0
IsAccepted results os m beyond =
    check (context_in m (primitive.I32 ∷ [])) (standard_steps m results (structural os) beyond) 0 os (body_frame results ∷ []) ≡ Some []

-- ---- behind whole blocks

-- block; loop; local.get 0; if; br 2; else; block of a number; i32.const 7; end; drop; end; local.get 0
abbrev blocks : List Operator
blocks =
    op.Block type.Empty ∷ op.Loop type.Empty ∷ op.Instr get ∷ op.If type.Empty ∷ op.Br 2 ∷ op.Else ∷ op.Block one_i32 ∷ op.Instr (number 7) ∷ op.End ∷
    op.Instr (record { row = 2; imm = imm.Nothing }) ∷ op.End ∷ op.Instr get ∷ []

-- behind them the outer two are open, and before the first end all four
open_there : open_behind blocks [] ≡ op.Loop type.Empty ∷ op.Block type.Empty ∷ []
open_there = refl

open_inside : open_before blocks 8 ≡ op.Block one_i32 ∷ op.If type.Empty ∷ op.Loop type.Empty ∷ op.Block type.Empty ∷ []
open_inside = refl

-- these; the branch; br 0; end; end; end
abbrev waits_behind : List Operator → Body
waits_behind branch = record {
  params = primitive.I32 ∷ [];
  locals = [];
  operators = blocks ++ (branch ++ op.Br 0 ∷ op.End ∷ op.End ∷ op.End ∷ []);
}

nests_behind : (m : Module) (input : List ℕ) → Nests m input (waits_behind leaves) (waits_behind leaves_inside)
nests_behind m input = record {
  params_are = refl;
  locals_are = refl;
  unhandled = refl;
  front = blocks;
  back = op.Br 0 ∷ op.End ∷ op.End ∷ op.End ∷ [];
  label = 1;
  bare = record { opener = op.Block type.Empty; is_open = refl; bare = refl };
  old_is = refl;
  new_is = refl;
}

old_accepted : (m : Module) (beyond : Beyond) → IsAccepted [] (waits_behind leaves).operators m beyond
unfolding integer_row row_at table
old_accepted m beyond = refl

new_accepted : (m : Module) (beyond : Beyond) → IsAccepted [] (waits_behind leaves_inside).operators m beyond
unfolding integer_row row_at table
new_accepted m beyond = refl

-- ---- a label that takes a value

-- block of a number; i32.const 7; local.get 0
abbrev given : List Operator
given = op.Block one_i32 ∷ op.Instr (number 7) ∷ op.Instr get ∷ []

-- these; the branch; end; end
abbrev gives : List Operator → List Operator
gives branch = given ++ (branch ++ op.End ∷ op.End ∷ [])

-- the number stands below the condition, where a conditional without parameters doesn't reach
takes_one : TakesNothing given 0 → ⊥
takes_one h = let e : false ≡ true = ap opens_bare (same_Some (op.Block one_i32) h.opener h.is_open) ∙ h.bare in absurd cc

accepted : (m : Module) (beyond : Beyond) → IsAccepted (primitive.I32 ∷ []) (gives (op.BrIf 0 ∷ [])) m beyond
unfolding integer_row row_at table
accepted m beyond = refl

refused : (m : Module) (beyond : Beyond) → IsAccepted (primitive.I32 ∷ []) (gives (op.If type.Empty ∷ op.Br 1 ∷ op.End ∷ [])) m beyond → ⊥
unfolding integer_row row_at table
refused m beyond e = absurd cc
