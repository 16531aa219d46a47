-- Every operator without a result raises the colour.
use Rattle.std.proofs.Common.{◌≡◌, ℕ, zero, suc, ◌<◌, Bool, true, false, cond, ltb, List, [], ◌∷◌, length, Option, None, Some, refl, sym, ap, ◌∙◌, arith}
use Rattle.std.specs.Prelude.{⊤, slice_get, reverse}
use Rattle.std.specs.List.{All}
use Rattle.std.proofs.lemmas.Bool.{ltb-true}
use Rattle.std.proofs.lemmas.List.Elements.{All-cons, All-nil}
use Rattle.std.proofs.lemmas.List.Sorted.{All-permutation, IsPermutation-reverse}
use Rattle.wasm_code.specs.Instruction.{Instruction}
use Rattle.wasm_code.specs.Table.{table, row_at, info_in, row_info_of}
use Rattle.wasm_code.specs.declared.immediate.Imm.{Imm}
use Rattle.wasm_code.specs.declared.immediate.Imm.TheVariants.{Index}
use Rattle.wasm_code.specs.declared.operator.Operator.{Operator}
use Rattle.wasm_code.specs.declared.operator.Operator.TheVariants.{Instr}
use Rattle.wasm_code.specs.declared.table.Row.{Row}
use Rattle.wasm_code.specs.declared.table.RowInfo.{RowInfo}
use Rattle.wasm_types.specs.Module.{Module, function_type}
use Rattle.wasm_types.specs.declared.types.PrimitiveTypeInfo.{PrimitiveTypeInfo}
use Rattle.wasm_types.specs.declared.types.TypeInfo.{TypeInfo}
use Rattle.wasm_types.specs.declared.types.TypeInfo.TheVariants.{Func, Other}
use Rattle.peephole_graphs.specs.Shape.{Shape, Judged, Fits, and_shape, operator_shapes, shapes_of_block, has_result, call_shape, judge_callee, judge_call}
use Rattle.peephole_graphs.specs.Shape.{judge_row, judge_found, judge}

abbrev pub Raises : Shape → Type 0
Raises s = s.has_result ≡ false → 0 < s.change

-- ---- by the rows of the table

raises : RowInfo → Bool
raises row = cond (has_result row.result) true (ltb 0 row.change)

all_raise : List Row → Bool
all_raise [] = true
all_raise (row ∷ rows) = cond (raises row.info) (all_raise rows) false

table_raises : all_raise table ≡ true
unfolding table all_raise raises
table_raises = refl

both : {a b : Bool} → cond a b false ≡ true → (a ≡ true) × (b ≡ true)
both {a = true} {b} e = (refl, e)
both {a = false} {b} e = absurd cc

raise_at : (rows : List Row) (n : ℕ) (info : RowInfo) → all_raise rows ≡ true → info_in (slice_get rows n) ≡ Some info → raises info ≡ true
unfolding all_raise
raise_at [] n info h e = absurd cc
raise_at (row ∷ rows) zero info h e =
    let same : row.info ≡ info = cc in
    ap raises (sym same) ∙ (both h).0
raise_at (row ∷ rows) (suc n) info h e = raise_at rows n info (both h).1 e

row_raises : (r : ℕ) (info : RowInfo) → row_info_of r ≡ Some info → raises info ≡ true
unfolding row_info_of row_at
row_raises r info e = raise_at table r info table_raises e

-- ---- by what an operator is judged as

abbrev DoesRaise : Judged → Type 0
DoesRaise (Fits s) = Raises s
DoesRaise _ = ⊤

results_raise : (i : Instruction) (parameters : ℕ) (returns : List PrimitiveTypeInfo) → DoesRaise (call_shape i parameters returns)
results_raise i parameters [] = λ w. omega arith
results_raise i parameters (one ∷ []) = λ w. omega arith
results_raise i parameters (one ∷ other ∷ more) = tt

callee_raises : (i : Instruction) (function : ℕ) (type : Option TypeInfo) → DoesRaise (judge_callee i function type)
callee_raises i function None = tt
callee_raises i function (Some Other) = tt
callee_raises i function (Some (Func type)) = results_raise i (length type.params) type.returns

call_raises : (info : Module) (i : Instruction) (imm : Imm) → DoesRaise (judge_call info i imm)
call_raises info i (Index function) = callee_raises i function (function_type info function)
call_raises info i _ = tt

row_shape_raises : (row : RowInfo) → raises row ≡ true → has_result row.result ≡ false → 0 < row.change
unfolding raises
row_shape_raises row h e = ltb-true 0 row.change (sym (ap (λ b. cond b true (ltb 0 row.change)) e) ∙ h)

found_raises : (info : Module) (i : Instruction) (found : Option RowInfo) → ((row : RowInfo) → found ≡ Some row → raises row ≡ true) →
    DoesRaise (judge_found info i found)
found_raises info i None h = tt
found_raises info i (Some row) h = go row.operands
  where
    go : (o : Option ℕ) → DoesRaise (judge_row info i row o)
    go None = call_raises info i i.imm
    go (Some k) = row_shape_raises row (h row refl)

operator_raises : (info : Module) (o : Operator) → DoesRaise (judge info o)
operator_raises info (Instr i) = found_raises info i (row_info_of i.row) (row_raises i.row)
operator_raises info _ = tt

-- ---- in a block

shapes_raise : (info : Module) (os : List (Operator × ℕ)) → All Raises (operator_shapes info os)
shapes_raise info [] = All-nil Raises
shapes_raise info (o ∷ os) = go (judge info o.0) (operator_raises info o.0) (shapes_raise info os)
  where
    go : (j : Judged) → DoesRaise j → All Raises (operator_shapes info os) → All Raises (and_shape j (operator_shapes info os))
    go (Fits s) h later = All-cons Raises s (operator_shapes info os) h later
    go _ h later = later

pub block_raises : (info : Module) (operators : List (Operator × ℕ)) → All Raises (shapes_of_block info operators)
block_raises info operators =
    let shapes = operator_shapes info operators in
    All-permutation Raises shapes (reverse shapes) (IsPermutation-reverse shapes) (shapes_raise info operators)
