-- The rows of constants are those of their types.
use Rattle.std.proofs.Common.{◌≡◌, ℕ, Bool, true, false, List, [], ◌∷◌, Some, refl, sym, ap, subst}
use Rattle.std.specs.Prelude.{◌||◌, IsTrue, not}
use Rattle.std.proofs.lemmas.Bool.{false≢true}
use Rattle.std.proofs.lemmas.List.Elements.{All-cons, All-nil}
use Rattle.wasm_code.specs.Instruction.{Instruction, fits_row}
use Rattle.wasm_code.specs.Table.{row_at, table}
use Rattle.wasm_code.specs.declared.immediate.AbstractHeapType.TheVariants as heap
use Rattle.wasm_code.specs.declared.immediate.HeapType.TheVariants.{Abstract}
use Rattle.wasm_code.specs.declared.immediate.Imm.{Imm}
use Rattle.wasm_code.specs.declared.immediate.Imm.TheVariants as imm
use Rattle.wasm_types.specs.Module.{Module, merged}
use Rattle.wasm_types.specs.declared.types.PrimitiveTypeInfo.{PrimitiveTypeInfo}
use Rattle.wasm_types.specs.declared.types.PrimitiveTypeInfo.TheVariants as primitive
use Rattle.wasm_execution.specs.IntegerRow.{integer_row}
use Rattle.wasm_execution.specs.OtherRow.{other_type}
use Rattle.body_changes.specs.Drawing.{asks_types_alone, is_drawable, is_leaf_row, is_local_row, is_nothing, AskTypesAlone}
use Rattle.body_changes.specs.Goals.{constant_row, is_constant_imm, IsConstantOf}
use Rattle.body_changes.specs.Typed.{is_told_apart}

or_first : (a b : Bool) → IsTrue a → IsTrue (a || b)
or_first true b h = refl
or_first false b h = absurd (false≢true h)

pub or_second : (a b : Bool) → IsTrue b → IsTrue (a || b)
or_second true b h = refl
or_second false b h = h

pub constant_fits : (t : PrimitiveTypeInfo) (m : Imm) → IsTrue (is_constant_imm t m) → IsTrue (fits_row (row_at (constant_row t)) m)
unfolding row_at table
constant_fits primitive.I32 (imm.I32 z) h = refl
constant_fits primitive.I64 (imm.I64 z) h = refl
constant_fits primitive.F32 (imm.F32 bits) h = refl
constant_fits primitive.F64 (imm.F64 bits) h = refl
constant_fits primitive.V128 (imm.V128 z) h = refl
constant_fits primitive.FuncRef (imm.Heap (Abstract heap.Func)) h = refl
constant_fits primitive.ExternRef (imm.Heap (Abstract heap.Extern)) h = refl
constant_fits t m h = absurd (false≢true h)

-- the standard asks nothing of constants beyond their types
pub constant_plain : (t : PrimitiveTypeInfo) (i : Instruction) → i.row ≡ constant_row t → IsTrue (asks_types_alone i)
constant_plain t i e = leaf_plain i (subst (λ (row : ℕ). IsTrue (is_leaf_row row)) (sym e) (row_leaf t))
  where
    row_leaf : (t : PrimitiveTypeInfo) → IsTrue (is_leaf_row (constant_row t))
    row_leaf primitive.I32 = refl
    row_leaf primitive.I64 = refl
    row_leaf primitive.F32 = refl
    row_leaf primitive.F64 = refl
    row_leaf primitive.V128 = refl
    row_leaf t = refl

    leaf_plain : (i : Instruction) → IsTrue (is_leaf_row i.row) → IsTrue (asks_types_alone i)
    leaf_plain i h = or_second (is_nothing i.imm) _ (or_first (is_leaf_row i.row) (is_local_row i.row) h)

pub constants_plain : (t : PrimitiveTypeInfo) (i : Instruction) (code : List Instruction) → i.row ≡ constant_row t → code ≡ i ∷ [] → AskTypesAlone code
constants_plain t i code e is =
    let each : Instruction → Type 0 = λ j. IsTrue (asks_types_alone j) in
    subst AskTypesAlone (sym is) (All-cons each i [] (constant_plain t i e) (All-nil each))

-- where references are told apart
func_kept : (b : Bool) → IsTrue (not b) → merged b primitive.FuncRef ≡ primitive.FuncRef
func_kept false h = refl
func_kept true h = absurd (false≢true h)

extern_kept : (b : Bool) → IsTrue (not b) → merged b primitive.ExternRef ≡ primitive.ExternRef
extern_kept false h = refl
extern_kept true h = absurd (false≢true h)

pub constant_typed : (t : PrimitiveTypeInfo) (m : Imm) → IsTrue (is_constant_imm t m) → IsConstantOf t (record { row = constant_row t; imm = m })
unfolding integer_row row_at table other_type
constant_typed primitive.I32 (imm.I32 z) h = λ context drawable. refl
constant_typed primitive.I64 (imm.I64 z) h = λ context drawable. refl
constant_typed primitive.F32 (imm.F32 bits) h = λ context drawable. refl
constant_typed primitive.F64 (imm.F64 bits) h = λ context drawable. refl
constant_typed primitive.V128 (imm.V128 z) h = λ context drawable. refl
constant_typed primitive.FuncRef (imm.Heap (Abstract heap.Func)) h = λ context drawable.
    ap (λ (t : PrimitiveTypeInfo). Some (Some t)) (func_kept context.info.one_reference drawable)
constant_typed primitive.ExternRef (imm.Heap (Abstract heap.Extern)) h = λ context drawable.
    ap (λ (t : PrimitiveTypeInfo). Some (Some t)) (extern_kept context.info.one_reference drawable)
constant_typed t m h = absurd (false≢true h)

pub drawable_told : (m : Module) (t : PrimitiveTypeInfo) → IsTrue (is_drawable m t) → IsTrue (is_told_apart t)
drawable_told m primitive.Empty h = absurd (false≢true h)
drawable_told m t h = refl
