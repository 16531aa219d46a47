-- What an instruction that is no integer row gives, as the code tests it.
use Rattle.std.proofs.Common.{◌≡◌, ℕ, Bool, true, false, List, [], ◌∷◌, length, Option, Some, None, refl, sym, ap, ◌∙◌}
use Rattle.std.specs.Prelude.{◌&&◌, map, slice_get, option_and_then, if◌then◌else◌}
use Rattle.wasm_code.specs.Instruction.{Instruction}
use Rattle.wasm_code.specs.Table.{row_at, info_in, row_info_of}
use Rattle.wasm_code.specs.declared.immediate.Imm.{Imm}
use Rattle.wasm_code.specs.declared.table.Row.{Row}
use Rattle.wasm_code.specs.declared.table.RowInfo.{RowInfo}
use Rattle.wasm_types.specs.Module.{Module, type_at, function_type}
use Rattle.wasm_types.specs.declared.types.PrimitiveTypeInfo.{PrimitiveTypeInfo}
use Rattle.wasm_types.specs.declared.types.TypeInfo.{TypeInfo}
use Rattle.wasm_types.specs.declared.types.TypeInfo.TheVariants.{Func, Other}
use Rattle.wasm_execution.specs.declared.operand.OperandColumn.{OperandColumn}
use Rattle.wasm_execution.specs.declared.operand.OperandColumn.TheVariants as column
use Rattle.wasm_execution.specs.OtherRow.{Operand, typed, first_index, parameters, Named, names_in, operands_in, column_by, column_in}
use Rattle.wasm_execution.specs.OtherRow.{results_by, both_of, type_by_row, other_type}
use Rattle.wasm_execution.specs.Values.{same_type, same_types, accepts, accept, results_on, other_types}
use Rattle.wasm_execution.specs.Row.{accept_parameters, accept_some, accept_in, at_most_one}

-- ---- other counts

and_false : (b : Bool) → false ≡ (b && false)
and_false true = refl
and_false false = refl

and_is : (a b : Bool) → false ≡ b → false ≡ (a && b)
and_is a b e = and_false a ∙ ap (λ x. a && x) e

pub not_two : (a b : Operand) (ts : List PrimitiveTypeInfo) → (length ts ≡ 2 → ⊥) → false ≡ accept (a ∷ b ∷ []) ts
not_two a b [] n = refl
not_two a b (t ∷ []) n = and_is (accepts a t) false refl
not_two a b (t ∷ u ∷ []) n = absurd (n refl)
not_two a b (t ∷ u ∷ v ∷ ts) n = and_is (accepts a t) _ (and_is (accepts b u) false refl)

pub not_three : (a b c : Operand) (ts : List PrimitiveTypeInfo) → (length ts ≡ 3 → ⊥) → false ≡ accept (a ∷ b ∷ c ∷ []) ts
not_three a b c [] n = refl
not_three a b c (t ∷ []) n = and_is (accepts a t) false refl
not_three a b c (t ∷ u ∷ []) n = and_is (accepts a t) _ (and_is (accepts b u) false refl)
not_three a b c (t ∷ u ∷ v ∷ []) n = absurd (n refl)
not_three a b c (t ∷ u ∷ v ∷ w ∷ ts) n = and_is (accepts a t) _ (and_is (accepts b u) _ (and_is (accepts c v) false refl))

-- ---- operands and results

by_parts : (n : Named) (row : Row) (ts : List PrimitiveTypeInfo) →
    option_and_then at_most_one (option_and_then (results_on ts) (type_by_row n (Some row)))
    ≡ (if accept_in n (column_by row.info.operands row.opcode) ts then option_and_then at_most_one (results_by n row.info.result) else None)
by_parts n row ts = go (operands_in n (column_by row.info.operands row.opcode)) (results_by n row.info.result)
  where
    tested : (b : Bool) (rs : List PrimitiveTypeInfo) → option_and_then at_most_one (if b then Some rs else None) ≡ (if b then at_most_one rs else None)
    tested true rs = refl
    tested false rs = refl

    nothing : {A : Type 0} (b : Bool) → ◌≡◌ {A = Option A} None (if b then None else None)
    nothing true = refl
    nothing false = refl

    go : (o : Option (List Operand)) (r : Option (List PrimitiveTypeInfo)) →
        option_and_then at_most_one (option_and_then (results_on ts) (both_of o r)) ≡ (if accept_some o ts then option_and_then at_most_one r else None)
    go None r = refl
    go (Some os) None = nothing (accept os ts)
    go (Some os) (Some rs) = tested (accept os ts) rs

-- the row of what the table says
row_told : (n : ℕ) (x : RowInfo) → row_info_of n ≡ Some x → (row : Row) × (row_at n ≡ Some row) × (row.info ≡ x)
unfolding row_info_of
row_told n x e = go (row_at n) refl e
  where
    go : (o : Option Row) → row_at n ≡ o → info_in o ≡ Some x → (row : Row) × (row_at n ≡ Some row) × (row.info ≡ x)
    go None k e = absurd cc
    go (Some row) k e = (row, k, cc)

other_is : (m : Module) (i : Instruction) (ts : List PrimitiveTypeInfo) (x : RowInfo) → row_info_of i.row ≡ Some x →
    option_and_then at_most_one (other_types m i ts)
    ≡ (if accept_in (names_in m i.imm) (column_in (row_at i.row)) ts then option_and_then at_most_one (results_by (names_in m i.imm) x.result) else None)
unfolding other_type
other_is m i ts x e =
    let n = names_in m i.imm in
    let (row, k, is) = row_told i.row x e in
    ap (λ o. option_and_then at_most_one (option_and_then (results_on ts) (type_by_row n o))) k ∙ (by_parts n row ts ∙
    (ap (λ (o : Option Row). if accept_in n (column_in o) ts then option_and_then at_most_one (results_by n row.info.result) else None) (sym k) ∙
    ap (λ (y : RowInfo). if accept_in n (column_in (row_at i.row)) ts then option_and_then at_most_one (results_by n y.result) else None) is))

other_none : (m : Module) (i : Instruction) (ts : List PrimitiveTypeInfo) → row_info_of i.row ≡ None → None ≡ option_and_then at_most_one (other_types m i ts)
unfolding other_type row_info_of
other_none m i ts e = go (row_at i.row) e
  where
    go : (o : Option Row) → info_in o ≡ None → None ≡ option_and_then at_most_one (option_and_then (results_on ts) (type_by_row (names_in m i.imm) o))
    go None e = refl
    go (Some row) e = absurd cc

-- ---- the code's steps

pub refused_is : (m : Module) (i : Instruction) (ts : List PrimitiveTypeInfo) (n : ℕ) (o : Option RowInfo) → n ≡ i.row → o ≡ row_info_of n → o ≡ None →
    None ≡ option_and_then at_most_one (other_types m i ts)
refused_is m i ts n o a b c = other_none m i ts (ap row_info_of (sym a) ∙ (sym b ∙ c))

pub accepted_is : (m : Module) (i : Instruction) (ts : List PrimitiveTypeInfo) (x : RowInfo) (n : ℕ) (o : Option RowInfo) (b : Bool)
    (r : Option (Option PrimitiveTypeInfo)) → n ≡ i.row → o ≡ row_info_of n → o ≡ Some x →
    b ≡ accept_in (names_in m i.imm) (column_in (row_at i.row)) ts → b ≡ true →
    r ≡ option_and_then at_most_one (results_by (names_in m i.imm) x.result) → r ≡ option_and_then at_most_one (other_types m i ts)
accepted_is m i ts x n o b r a c d e t k =
    k ∙ (ap (λ y. if y then option_and_then at_most_one (results_by (names_in m i.imm) x.result) else None) (sym t ∙ e) ∙
    sym (other_is m i ts x (ap row_info_of (sym a) ∙ (sym c ∙ d))))

pub not_accepted_is : (m : Module) (i : Instruction) (ts : List PrimitiveTypeInfo) (x : RowInfo) (n : ℕ) (o : Option RowInfo) (b : Bool) →
    n ≡ i.row → o ≡ row_info_of n → o ≡ Some x → b ≡ accept_in (names_in m i.imm) (column_in (row_at i.row)) ts → b ≡ false →
    None ≡ option_and_then at_most_one (other_types m i ts)
not_accepted_is m i ts x n o b a c d e f =
    ap (λ y. if y then option_and_then at_most_one (results_by (names_in m i.imm) x.result) else None) (sym f ∙ e) ∙
    sym (other_is m i ts x (ap row_info_of (sym a) ∙ (sym c ∙ d)))

-- ---- parameters

accept_same : (ps ts : List PrimitiveTypeInfo) → same_types ps ts ≡ accept (map (λ p. typed (Some p)) ps) ts
accept_same [] [] = refl
accept_same [] (t ∷ ts) = refl
accept_same (p ∷ ps) [] = refl
accept_same (p ∷ ps) (t ∷ ts) = ap (λ b. same_type p t && b) (accept_same ps ts)

parameters_is : (o : Option TypeInfo) (ts : List PrimitiveTypeInfo) → accept_parameters o ts ≡ accept_some (parameters o) ts
parameters_is None ts = refl
parameters_is (Some (Func t)) ts = accept_same t.params ts
parameters_is (Some Other) ts = refl

function_is : (m : Module) (o : Option ℕ) → type_at m o ≡ option_and_then (slice_get m.types) o
function_is m None = refl
function_is m (Some n) = refl

pub call_is : (m : Module) (i : Imm) (k : ℕ) (f : Option TypeInfo) (ts : List PrimitiveTypeInfo) → k ≡ first_index i → f ≡ function_type m k →
    accept_parameters f ts ≡ accept_in (names_in m i) column.Parameters ts
call_is m i k f ts a b =
    ap (λ o. accept_parameters o ts) (b ∙ (ap (function_type m) a ∙ function_is m (slice_get m.functions (first_index i)))) ∙
    parameters_is (option_and_then (slice_get m.types) (slice_get m.functions (first_index i))) ts

-- ---- from the calls

pub tested_is : (m : Module) (i : Instruction) (ts : List PrimitiveTypeInfo) (j : Imm) (k : ℕ) (col : OperandColumn) (b : Bool) → j ≡ i.imm → k ≡ i.row →
    col ≡ column_in (row_at k) → b ≡ accept_in (names_in m j) col ts → b ≡ accept_in (names_in m i.imm) (column_in (row_at i.row)) ts
tested_is m i ts j k col b e f g h =
    h ∙ (ap (λ (x : OperandColumn). accept_in (names_in m j) x ts) (g ∙ ap (λ n. column_in (row_at n)) f) ∙
    ap (λ (y : Imm). accept_in (names_in m y) (column_in (row_at i.row)) ts) e)

pub given_is : (m : Module) (i : Instruction) (j : Imm) (x : RowInfo) (r : Option (Option PrimitiveTypeInfo)) → j ≡ i.imm →
    r ≡ option_and_then at_most_one (results_by (names_in m j) x.result) → r ≡ option_and_then at_most_one (results_by (names_in m i.imm) x.result)
given_is m i j x r e h = h ∙ ap (λ (y : Imm). option_and_then at_most_one (results_by (names_in m y) x.result)) e
