-- A function with a handler, run and checked by the definitions alone.
use Rattle.std.proofs.Common.{◌≡◌, refl, ℕ, zero, suc, pos, List, [], ◌∷◌, Option, Some, None, subst, ap, ◌∙◌, arith}
use Rattle.std.specs.Prelude.{◌≢◌, Contains, slice_get, drop}
use Rattle.wasm_code.specs.declared.immediate.BlockType.TheVariants as block
use Rattle.wasm_code.specs.declared.immediate.Imm.TheVariants as imm
use Rattle.wasm_code.specs.declared.immediate.ValType.TheVariants as val
use Rattle.wasm_code.specs.declared.operator.Operator.{Operator}
use Rattle.wasm_code.specs.declared.operator.Operator.TheVariants as op
use Rattle.wasm_code.specs.declared.other.Other.{Other}
use Rattle.wasm_code.specs.declared.other.Other.TheVariants as others
use Rattle.wasm_code.specs.Table.{row_at, table}
use Rattle.wasm_types.specs.Module.{Module}
use Rattle.wasm_types.specs.declared.types.PrimitiveTypeInfo.{PrimitiveTypeInfo}
use Rattle.wasm_types.specs.declared.types.PrimitiveTypeInfo.TheVariants as primitive
use Rattle.wasm_execution.specs.declared.integer.IntegerType.TheVariants as integer
use Rattle.wasm_execution.specs.Values.{Value, context_in, World, State, Ends}
use Rattle.wasm_execution.specs.TypeLemmas.{one, whole_is}
use Rattle.wasm_execution.specs.IntegerRow.{integer_row}
use Rattle.wasm_equivalence.specs.control.Function.{structural, At, Done, runs}
use Rattle.wasm_equivalence.specs.control.Blocks.{Role, handles, tries, catches, delegates, does, role_of, parts_from}
use Rattle.wasm_equivalence.specs.control.Standard.{Caught, branches, begins, Deed, breaks, Beyond, standard}
use Rattle.wasm_equivalence.specs.validation.Algorithm.{check}
use Rattle.wasm_equivalence.specs.validation.StandardSteps.{body_frame, standard_steps}
use Rattle.wasm_equivalence.specs.validation.Sound.{IsDeed, IsCaught, HasDeeds}
use Rattle.wasm_equivalence.proofs.ExamplePieces.{i32, nothing}

-- block (result i32); try_table (result i32) (catch 0 0); local.get 0; throw 0; end; return; end; i32.const 1; i32.add; end
abbrev guarded : List Operator
guarded =
    op.Block (block.Value val.I32)
    ∷ op.Other (others.Byte 0x1f)
    ∷ op.Instr (record { row = 4; imm = imm.Index 0 })
    ∷ op.Other (others.Byte 0x08)
    ∷ op.End
    ∷ op.Return
    ∷ op.End
    ∷ op.Instr (record { row = 36; imm = imm.I32 (pos 1) })
    ∷ op.Instr (record { row = 77; imm = imm.Nothing })
    ∷ op.End ∷ []

-- the handler has the number 1; the throw takes the exception's value
abbrev taken : (k : ℕ) → List PrimitiveTypeInfo
taken (suc zero) = []
taken k = primitive.I32 ∷ []

abbrev leaving : (k : ℕ) → Option (List PrimitiveTypeInfo)
leaving (suc zero) = Some (primitive.I32 ∷ [])
leaving k = None

-- the exception's mark is its value
abbrev throwing : List Value → (rest : ℕ) → Deed
throwing (v ∷ []) r = breaks v.number r
throwing vs r = breaks 0 r

abbrev catching : (mark rest : ℕ) → Caught
catching mark r = branches 0 (i32 mark ∷ []) (suc r)

abbrev handled : Beyond
handled = record nothing {
  takes = taken;
  deed = λ k. throwing;
  leaves = leaving;
  catcher = λ k mark r. Some (catching mark r);
  clauses = λ k. (0, primitive.I32 ∷ []) ∷ [];
}

abbrev holding : World → (n rest : ℕ) → State
holding w n r = record { locals = i32 n ∷ []; globals = []; rest = r; world = w }

-- the value is thrown, caught, and one more
is_caught : (m : Module) (w : World) → runs (standard m (primitive.I32 ∷ []) (structural guarded) handled) guarded 1 (At 0 [] [] (holding w 6 3)) ≡
    Done (Ends (i32 7 ∷ []) (holding w 6 4))
unfolding integer_row row_at table
is_caught m w = refl

is_valid : (m : Module) →
    check (context_in m (primitive.I32 ∷ [])) (standard_steps m (primitive.I32 ∷ []) (structural guarded) handled) 0 guarded
    (body_frame (primitive.I32 ∷ []) ∷ []) ≡ Some []
unfolding integer_row row_at table
is_valid m = refl

its_deeds : (m : Module) (results : List PrimitiveTypeInfo) (k : ℕ) (vs : List Value) (rest : ℕ) → IsDeed m results handled k (throwing vs rest)
its_deeds m results k [] rest = tt
its_deeds m results k (v ∷ []) rest = tt
its_deeds m results k (v ∷ u ∷ vs) rest = tt

is_of_types : (structure : List Operator) (k : ℕ) (r : Role) (mark rest : ℕ) → r ≢ tries → IsCaught structure handled k r (catching mark rest)
is_of_types structure k handles mark rest n =
    let there : Contains {X = ℕ × List PrimitiveTypeInfo} ((0, primitive.I32 ∷ []) ∷ []) (0, primitive.I32 ∷ []) = (0, omega arith, refl) in
    (there, one (i32 mark) (whole_is integer.I32 mark))
is_of_types structure k tries mark rest n = absurd (n refl)
is_of_types structure k catches mark rest n = tt
is_of_types structure k delegates mark rest n = tt
is_of_types structure k does mark rest n = tt

no_try : (k : ℕ) (o : Other) → slice_get (structural guarded) k ≡ Some (op.Other o) → role_of o ≢ tries
no_try zero o at e = absurd cc
no_try (suc zero) o at e = (let is : others.Byte 0x1f ≡ o = cc in let k : role_of (others.Byte 0x1f) ≡ tries = ap role_of is ∙ e in absurd cc)
no_try (suc (suc zero)) o at e = (let is : others.Byte 0x08 ≡ o = cc in let k : role_of (others.Byte 0x08) ≡ tries = ap role_of is ∙ e in absurd cc)
no_try (suc (suc (suc zero))) o at e = absurd cc
no_try (suc (suc (suc (suc zero)))) o at e = absurd cc
no_try (suc (suc (suc (suc (suc zero))))) o at e = absurd cc
no_try (suc (suc (suc (suc (suc (suc zero)))))) o at e = absurd cc
no_try (suc (suc (suc (suc (suc (suc (suc k))))))) o at e = absurd cc

deeds_are : (m : Module) (results : List PrimitiveTypeInfo) → HasDeeds m results (structural guarded) handled
deeds_are m results = record {
  deeds = λ k o vs rest at role t a. its_deeds m results k vs rest;
  caught = λ k mark rest o c at e.
      let is : catching mark rest ≡ c = cc in
      subst (IsCaught (structural guarded) handled k (role_of o)) is
      (is_of_types (structural guarded) k (role_of o) mark rest (no_try k o at));
}

-- without a label that takes the value it is not valid
no_label : (m : Module) →
    check (context_in m (primitive.I32 ∷ [])) (standard_steps m (primitive.I32 ∷ []) (structural guarded)
    (record handled { clauses = λ k. (0, primitive.I64 ∷ []) ∷ [] })) 0 guarded (body_frame (primitive.I32 ∷ []) ∷ []) ≡ None
unfolding integer_row row_at table
no_label m = refl

-- ---- an older one

-- try (result i32); local.get 0; throw 0; catch 0; i32.const 1; i32.add; end; end
abbrev tried : List Operator
tried =
    op.Other (others.Byte 0x06)
    ∷ op.Instr (record { row = 4; imm = imm.Index 0 })
    ∷ op.Other (others.Byte 0x08)
    ∷ op.Other (others.Byte 0x07)
    ∷ op.Instr (record { row = 36; imm = imm.I32 (pos 1) })
    ∷ op.Instr (record { row = 77; imm = imm.Nothing })
    ∷ op.End
    ∷ op.End ∷ []

-- the `try` has the number 0, the throw 1, and the catch 2, which begins with the exception's value
abbrev takes_each : (k : ℕ) → List PrimitiveTypeInfo
takes_each zero = []
takes_each (suc k) = primitive.I32 ∷ []

abbrev leaves_each : (k : ℕ) → Option (List PrimitiveTypeInfo)
leaves_each (suc zero) = None
leaves_each k = Some (primitive.I32 ∷ [])

abbrev beginning : Beyond
beginning = record handled { takes = takes_each; leaves = leaves_each; catcher = λ k mark r. Some (begins 2 (i32 mark ∷ []) (suc r)) }

part_begins : (m : Module) (w : World) → runs (standard m (primitive.I32 ∷ []) (structural tried) beginning) tried 1 (At 0 [] [] (holding w 6 3)) ≡
    Done (Ends (i32 7 ∷ []) (holding w 6 4))
unfolding integer_row row_at table
part_begins m w = refl

part_valid : (m : Module) →
    check (context_in m (primitive.I32 ∷ [])) (standard_steps m (primitive.I32 ∷ []) (structural tried) beginning) 0 tried
    (body_frame (primitive.I32 ∷ []) ∷ []) ≡ Some []
unfolding integer_row row_at table
part_valid m = refl

-- the one further part of the block
its_part : parts_from 0 1 (drop 1 (structural tried)) ≡ 2 ∷ []
its_part = refl
