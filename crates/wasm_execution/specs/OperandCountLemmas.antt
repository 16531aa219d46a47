-- An instruction that has types takes as many operands as the instruction table says, where that says a number (this project).
use Rattle.std.proofs.Common.{◌≡◌, ℕ, zero, suc, Bool, true, false, List, [], ◌∷◌, length, Option, Some, None, refl, sym, ap, ap₂, ◌∙◌, subst}
use Rattle.std.specs.Prelude.{◌≢◌, ◌==◌, ◌&&◌, slice_get, option_and_then}
use Rattle.std.proofs.lemmas.Bool.{and_parts, eqb-true, false≢true}
use Rattle.wasm_code.specs.Instruction.{Instruction}
use Rattle.wasm_code.specs.Table.{table, row_at, opcode_in, info_in, row_info_of}
use Rattle.wasm_code.specs.declared.immediate.Imm.{Imm}
use Rattle.wasm_code.specs.declared.immediate.Imm.TheVariants as imm
use Rattle.wasm_code.specs.declared.immediate.ValType.TheVariants as val
use Rattle.wasm_code.specs.declared.table.Row.{Row}
use Rattle.wasm_code.specs.declared.table.RowInfo.{RowInfo}
use Rattle.wasm_types.specs.Module.{Module}
use Rattle.wasm_types.specs.declared.types.PrimitiveTypeInfo.{PrimitiveTypeInfo}
use Rattle.wasm_execution.specs.declared.operand.OperandColumn.{OperandColumn}
use Rattle.wasm_execution.specs.declared.operand.OperandColumn.TheVariants as column
use Rattle.wasm_execution.specs.OtherRow.{Named, names_in, operands_in, column_by, column_in, results_by, both_of, type_by_row, other_type}
use Rattle.wasm_execution.specs.Values.{Context, results_on}
use Rattle.wasm_execution.specs.IntegerRow.{IntegerRow, other, opcode_row, row_or_other, operand_count, row_types, integer_row}
use Rattle.wasm_execution.specs.Row.{operand_count_in, instruction_types}
use Rattle.wasm_execution.specs.RowLemmas.{row_types_count}
use Rattle.wasm_execution.specs.CountLemmas.{given_by, other_row_count}

-- ---- integer rows

known_counts : Module → Option IntegerRow → Option ℕ → Bool
known_counts info (Some row) (Some n) = operand_count info row == n
known_counts info (Some row) None = false
known_counts info None o = true

all_count : Module → Imm → List Row → Bool
all_count info i [] = true
all_count info i (row ∷ rows) = known_counts info (opcode_row (Some row.opcode) i) row.info.operands && all_count info i rows

table_counts : (info : Module) (i : Imm) → all_count info i table ≡ true
unfolding table known_counts all_count
table_counts info imm.Nothing = refl
table_counts info (imm.Index n) = refl
table_counts info (imm.Pair n m) = refl
table_counts info (imm.Mem m) = refl
table_counts info (imm.MemLane m lane) = refl
table_counts info (imm.Lane lane) = refl
table_counts info (imm.I32 z) = refl
table_counts info (imm.I64 z) = refl
table_counts info (imm.F32 bits) = refl
table_counts info (imm.F64 bits) = refl
table_counts info (imm.V128 z) = refl
table_counts info (imm.Shuffle lanes) = refl
table_counts info (imm.Heap h) = refl
table_counts info (imm.Val val.I32) = refl
table_counts info (imm.Val val.I64) = refl
table_counts info (imm.Val val.F32) = refl
table_counts info (imm.Val val.F64) = refl
table_counts info (imm.Val val.V128) = refl
table_counts info (imm.Val val.FuncRef) = refl
table_counts info (imm.Val val.ExternRef) = refl

counts_at : (info : Module) (i : Imm) (rows : List Row) (k : ℕ) (row : Row) → all_count info i rows ≡ true → slice_get rows k ≡ Some row →
    known_counts info (opcode_row (Some row.opcode) i) row.info.operands ≡ true
unfolding all_count
counts_at info i [] k row h e = absurd cc
counts_at info i (r ∷ rows) zero row h e =
    let is : r ≡ row = cc in
    subst (λ (x : Row). known_counts info (opcode_row (Some x.opcode) i) x.info.operands ≡ true) is
    (and_parts (known_counts info (opcode_row (Some r.opcode) i) r.info.operands) (all_count info i rows) h).0
counts_at info i (r ∷ rows) (suc k) row h e =
    counts_at info i rows k row (and_parts (known_counts info (opcode_row (Some r.opcode) i) r.info.operands) (all_count info i rows) h).1 e

-- ---- others

column_counts : OperandColumn → Option ℕ → Bool
column_counts column.Unknown o = true
column_counts o None = true
column_counts column.Parameters (Some n) = false
column_counts column.Zero (Some n) = 0 == n
column_counts (column.One a) (Some n) = 1 == n
column_counts (column.Two a b) (Some n) = 2 == n
column_counts (column.Three a b c) (Some n) = 3 == n

all_columns : List Row → Bool
all_columns [] = true
all_columns (row ∷ rows) = column_counts (column_by row.info.operands row.opcode) row.info.operands && all_columns rows

table_columns : all_columns table ≡ true
unfolding table column_counts all_columns
table_columns = refl

columns_at : (rows : List Row) (k : ℕ) (row : Row) → all_columns rows ≡ true → slice_get rows k ≡ Some row →
    column_counts (column_by row.info.operands row.opcode) row.info.operands ≡ true
unfolding all_columns
columns_at [] k row h e = absurd cc
columns_at (r ∷ rows) zero row h e =
    let is : r ≡ row = cc in
    subst (λ (x : Row). column_counts (column_by x.info.operands x.opcode) x.info.operands ≡ true) is
    (and_parts (column_counts (column_by r.info.operands r.opcode) r.info.operands) (all_columns rows) h).0
columns_at (r ∷ rows) (suc k) row h e =
    columns_at rows k row (and_parts (column_counts (column_by r.info.operands r.opcode) r.info.operands) (all_columns rows) h).1 e

-- an operand list that is there has as many operands
told_count : (names : Named) (c : OperandColumn) (n : ℕ) → column_counts c (Some n) ≡ true → c ≢ column.Unknown → operand_count_in (operands_in names c) ≡ n
unfolding column_counts
told_count names column.Unknown n h known = absurd (known refl)
told_count names column.Parameters n h known = absurd (false≢true h)
told_count names column.Zero n h known = eqb-true 0 n h
told_count names (column.One a) n h known = eqb-true 1 n h
told_count names (column.Two a b) n h known = eqb-true 2 n h
told_count names (column.Three a b c) n h known = eqb-true 3 n h

-- ---- both

column_known : (names : Named) (row : Row) (i : Instruction) (context : Context) (ts rs : List PrimitiveTypeInfo) → names ≡ names_in context.info i.imm →
    row_at i.row ≡ Some row → row_types context (other i) ts ≡ Some rs → column_by row.info.operands row.opcode ≢ column.Unknown
unfolding other_type
column_known names row i context ts rs same k e unknown = absurd (none e)
  where
    no_type : type_by_row (names_in context.info i.imm) (Some row) ≡ None
    no_type = ap (λ c. both_of (operands_in (names_in context.info i.imm) c) (results_by (names_in context.info i.imm) row.info.result)) unknown

    none : row_types context (other i) ts ≡ Some rs → ⊥
    none e =
        let is : option_and_then (results_on ts) None ≡ Some rs =
        sym (ap (λ o. option_and_then (results_on ts) (type_by_row (names_in context.info i.imm) o)) k ∙ ap (option_and_then (results_on ts)) no_type) ∙ e in
        cc

known_is : (info : Module) (r : IntegerRow) (n : ℕ) → known_counts info (Some r) (Some n) ≡ true → (operand_count info r == n) ≡ true
unfolding known_counts
known_is info r n h = h

in_table : (k : ℕ) (row : Row) → row_at k ≡ Some row → slice_get table k ≡ Some row
unfolding row_at
in_table k row h = h

row_takes : (context : Context) (i : Instruction) (ts : List PrimitiveTypeInfo) (o : Option PrimitiveTypeInfo) (row : Row) (n : ℕ) →
    instruction_types context i ts ≡ Some o → row_at i.row ≡ Some row → row.info.operands ≡ Some n → length ts ≡ n
unfolding integer_row
row_takes context i ts o row n e k m = go (opcode_row (Some row.opcode) i.imm) refl
  where
    given : (rs : List PrimitiveTypeInfo) × (row_types context (row_or_other i (opcode_row (Some row.opcode) i.imm)) ts ≡ Some rs)
    given =
        let p = given_by context i ts o e in
        (p.0, subst (λ q. row_types context (row_or_other i (opcode_row (opcode_in q) i.imm)) ts ≡ Some p.0) k p.1)

    go : (q : Option IntegerRow) → opcode_row (Some row.opcode) i.imm ≡ q → length ts ≡ n
    go (Some r) f =
        let typed : row_types context r ts ≡ Some given.0 = sym (ap (λ q. row_types context (row_or_other i q) ts) f) ∙ given.1 in
        let fits : known_counts context.info (Some r) (Some n) ≡ true =
        sym (ap₂ (known_counts context.info) f m) ∙ counts_at context.info i.imm table i.row row (table_counts context.info i.imm) (in_table i.row row k) in
        sym (row_types_count context r ts given.0 typed) ∙ eqb-true (operand_count context.info r) n (known_is context.info r n fits)
    go None f =
        let typed : row_types context (other i) ts ≡ Some given.0 = sym (ap (λ q. row_types context (row_or_other i q) ts) f) ∙ given.1 in
        let names = names_in context.info i.imm in
        let fits : column_counts (column_by row.info.operands row.opcode) (Some n) ≡ true =
        sym (ap (column_counts (column_by row.info.operands row.opcode)) m) ∙ columns_at table i.row row table_columns (in_table i.row row k) in
        other_row_count context i ts given.0 typed
        ∙ (ap (λ q. operand_count_in (operands_in names (column_in q))) k
        ∙ told_count names (column_by row.info.operands row.opcode) n fits (column_known names row i context ts given.0 refl k typed))

-- On operands whose types it has, an instruction has as many as its row tells.
pub operands_told : (context : Context) (i : Instruction) (ts : List PrimitiveTypeInfo) (o : Option PrimitiveTypeInfo) (info : RowInfo) (n : ℕ) →
    instruction_types context i ts ≡ Some o → row_info_of i.row ≡ Some info → info.operands ≡ Some n → length ts ≡ n
unfolding row_info_of
operands_told context i ts o info n e k m = go (row_at i.row) refl k
  where
    go : (q : Option Row) → row_at i.row ≡ q → info_in q ≡ Some info → length ts ≡ n
    go None f h = absurd cc
    go (Some row) f h =
        let is : row.info ≡ info = cc in row_takes context i ts o row n e f (ap (λ (x : RowInfo). x.operands) is ∙ m)
