-- What an instruction leaves is what the result column of its row says (this project).
use Rattle.std.proofs.Common.{◌≡◌, ℕ, zero, suc, Bool, true, false, List, [], ◌∷◌, Option, Some, None, refl, sym, ap, ◌∙◌, subst}
use Rattle.std.specs.Prelude.{◌==◌, ◌&&◌, slice_get, option_map, option_and_then, if◌then◌else◌, ⊤}
use Rattle.std.proofs.lemmas.Bool.{and_parts, false≢true}
use Rattle.wasm_code.specs.Table.{table, row_at, opcode_in, info_in, row_info_of}
use Rattle.wasm_code.specs.declared.immediate.Imm.{Imm}
use Rattle.wasm_code.specs.declared.immediate.Imm.TheVariants as imm
use Rattle.wasm_code.specs.declared.immediate.ValType.TheVariants as val
use Rattle.wasm_code.specs.declared.table.Opcode.{Opcode}
use Rattle.wasm_code.specs.declared.table.Opcode.TheVariants.{Byte, Fc, Fd}
use Rattle.wasm_code.specs.declared.table.ResultKind.{ResultKind}
use Rattle.wasm_code.specs.declared.table.ResultKind.TheVariants as by
use Rattle.wasm_code.specs.declared.table.Row.{Row}
use Rattle.wasm_types.specs.declared.types.PrimitiveTypeInfo.{PrimitiveTypeInfo}
use Rattle.wasm_types.specs.declared.types.PrimitiveTypeInfo.TheVariants as primitive
use Rattle.wasm_types.specs.Module.{merged}
use Rattle.wasm_execution.specs.declared.integer.IntegerType.TheVariants as integer
use Rattle.wasm_execution.specs.OtherRow.{value_type, Named, names_in, OtherType, operands_in, column_by, results_by, type_by_row, other_type}
use Rattle.wasm_execution.specs.Values.{IntegerType, type_of, same_type, same_types, accept, results_on, Context, Variable, local, global}
use Rattle.wasm_execution.specs.Integer.{IntegerOperator}
use Rattle.wasm_execution.specs.IntegerRow.{IntegerRow, constant, operation, get, set, tee, discard, select, nop, other, opcode_row}
use Rattle.wasm_execution.specs.IntegerRow.{row_or_other, integer_row, if_typed, variable_type, is_numeric, row_types}
use Rattle.wasm_execution.specs.ResultColumn.{one_at, results_in}
use Rattle.wasm_execution.specs.Laws.{TypesAreTheResultColumn}
use Rattle.wasm_execution.specs.RowLemmas.{some_if, and_then_some, map_some, same_type_is}

-- ---- integer rows

-- the column is the one for an integer row with that immediate
fits_column : IntegerRow → ResultKind → Imm → Bool
fits_column (constant t n) (by.Fixed u) i = same_type (type_of t) (value_type u)
fits_column (operation f) (by.Fixed u) i = same_type (type_of f.result) (value_type u)
fits_column (operation f) by.Immediate (imm.Val u) = same_type (type_of f.result) (value_type u)
fits_column (get (local j)) by.Local (imm.Index n) = true
fits_column (get (global j)) by.Global (imm.Index n) = true
fits_column (set x) by.Nothing i = true
fits_column (tee (local j)) by.Local (imm.Index n) = true
fits_column discard by.Nothing i = true
fits_column select by.First i = true
fits_column nop by.Nothing i = true
fits_column row kind i = false

known_fits : Option IntegerRow → ResultKind → Imm → Bool
known_fits (Some row) kind i = fits_column row kind i
known_fits None kind i = true

all_fit : Imm → List Row → Bool
all_fit i [] = true
all_fit i (row ∷ rows) = known_fits (opcode_row (Some row.opcode) i) row.info.result i && all_fit i rows

table_fits : (i : Imm) → all_fit i table ≡ true
unfolding table fits_column known_fits all_fit
table_fits imm.Nothing = refl
table_fits (imm.Index n) = refl
table_fits (imm.Pair n m) = refl
table_fits (imm.Mem m) = refl
table_fits (imm.MemLane m lane) = refl
table_fits (imm.Lane lane) = refl
table_fits (imm.I32 z) = refl
table_fits (imm.I64 z) = refl
table_fits (imm.F32 bits) = refl
table_fits (imm.F64 bits) = refl
table_fits (imm.V128 z) = refl
table_fits (imm.Shuffle lanes) = refl
table_fits (imm.Heap h) = refl
table_fits (imm.Val val.I32) = refl
table_fits (imm.Val val.I64) = refl
table_fits (imm.Val val.F32) = refl
table_fits (imm.Val val.F64) = refl
table_fits (imm.Val val.V128) = refl
table_fits (imm.Val val.FuncRef) = refl
table_fits (imm.Val val.ExternRef) = refl

fits_at : (i : Imm) (rows : List Row) (k : ℕ) (row : Row) → all_fit i rows ≡ true → slice_get rows k ≡ Some row →
    known_fits (opcode_row (Some row.opcode) i) row.info.result i ≡ true
unfolding all_fit
fits_at i [] k row h e = absurd cc
fits_at i (r ∷ rows) zero row h e =
    let is : r ≡ row = cc in
    subst (λ (x : Row). known_fits (opcode_row (Some x.opcode) i) x.info.result i ≡ true) is
    (and_parts (known_fits (opcode_row (Some r.opcode) i) r.info.result i) (all_fit i rows) h).0
fits_at i (r ∷ rows) (suc k) row h e =
    fits_at i rows k row (and_parts (known_fits (opcode_row (Some r.opcode) i) r.info.result i) (all_fit i rows) h).1 e

-- the variable of a row has the immediate's index
abbrev HasIndex : ℕ → Option IntegerRow → Type 0
HasIndex n (Some (get (local i))) = i ≡ n
HasIndex n (Some (get (global i))) = i ≡ n
HasIndex n (Some (tee (local i))) = i ≡ n
HasIndex n row = ⊤

by_index : (p q r u w : Bool) (n : ℕ) →
    HasIndex n (if p then Some (get (local n)) else (if q then Some (set (local n)) else
    (if r then Some (tee (local n)) else (if u then Some (get (global n)) else (if w then Some (set (global n)) else None)))))
by_index true q r u w n = refl
by_index false true r u w n = tt
by_index false false true u w n = refl
by_index false false false true w n = refl
by_index false false false false true n = tt
by_index false false false false false n = tt

index_is : (o : Opcode) (n : ℕ) → HasIndex n (opcode_row (Some o) (imm.Index n))
index_is (Byte byte) n = by_index (byte == 0x20) (byte == 0x21) (byte == 0x22) (byte == 0x23) (byte == 0x24) n
index_is (Fc k) n = tt
index_is (Fd k) n = tt

-- ---- what each leaves

one_type : {list : List PrimitiveTypeInfo} (t u : PrimitiveTypeInfo) → same_type t u ≡ true → t ∷ [] ≡ list → Some (u ∷ []) ≡ Some list
one_type t u e h = ap (λ v. Some (v ∷ [])) (sym (same_type_is t u e)) ∙ ap Some h

-- an integer type is no reference
merged_integer : (b : Bool) (t : IntegerType) → merged b (type_of t) ≡ type_of t
merged_integer b integer.I32 = refl
merged_integer b integer.I64 = refl

stays_integer : (b : Bool) (t : IntegerType) (u : PrimitiveTypeInfo) → same_type (type_of t) u ≡ true → u ≡ merged b u
stays_integer b t u e = let is = same_type_is (type_of t) u e in subst (λ v. v ≡ merged b v) is (sym (merged_integer b t))

module _ (context : Context) where
  get_leaves : (x : Variable) (ts list : List PrimitiveTypeInfo) → row_types context (get x) ts ≡ Some list →
      option_map (λ t. t ∷ []) (variable_type context x) ≡ Some list
  get_leaves x [] list e =
      let (u, a, b) = and_then_some (λ u. Some (u ∷ [])) (variable_type context x) list e in ap (option_map (λ t. t ∷ [])) a ∙ b
  get_leaves x (t ∷ ts) list e = absurd cc

  tee_leaves : (x : Variable) (ts list : List PrimitiveTypeInfo) → row_types context (tee x) ts ≡ Some list →
      option_map (λ t. t ∷ []) (variable_type context x) ≡ Some list
  tee_leaves x [] list e = absurd cc
  tee_leaves x (t ∷ []) list e =
      let (u, a, b) = and_then_some (λ u. if_typed (same_type t u) (t ∷ [])) (variable_type context x) list e in
      let (c, d) = some_if (same_type t u) (t ∷ []) list b in
      ap (option_map (λ t. t ∷ [])) a ∙ one_type t u c d
  tee_leaves x (t ∷ u ∷ ts) list e = absurd cc

  select_leaves : (ts list : List PrimitiveTypeInfo) → row_types context select ts ≡ Some list → one_at ts 0 ≡ Some list
  select_leaves [] list e = absurd cc
  select_leaves (t ∷ []) list e = absurd cc
  select_leaves (t ∷ u ∷ []) list e = absurd cc
  select_leaves (t ∷ u ∷ c ∷ []) list e =
      ap Some (some_if (is_numeric t && same_types (u ∷ c ∷ []) (t ∷ primitive.I32 ∷ [])) (t ∷ []) list e).1
  select_leaves (t ∷ u ∷ c ∷ w ∷ ts) list e = absurd cc

  set_leaves : (x : Variable) (ts list : List PrimitiveTypeInfo) → row_types context (set x) ts ≡ Some list → Some [] ≡ Some list
  set_leaves x [] list e = absurd cc
  set_leaves x (t ∷ []) list e =
      let (u, a, b) = and_then_some (λ u. if_typed (same_type t u) []) (variable_type context x) list e in
      ap Some (some_if (same_type t u) [] list b).1
  set_leaves x (t ∷ u ∷ ts) list e = absurd cc

  discard_leaves : (ts list : List PrimitiveTypeInfo) → row_types context discard ts ≡ Some list → Some [] ≡ Some list
  discard_leaves [] list e = absurd cc
  discard_leaves (t ∷ []) list e = e
  discard_leaves (t ∷ u ∷ ts) list e = absurd cc

  nop_leaves : (ts list : List PrimitiveTypeInfo) → row_types context nop ts ≡ Some list → Some [] ≡ Some list
  nop_leaves [] list e = e
  nop_leaves (t ∷ ts) list e = absurd cc

  constant_leaves : (t : IntegerType) (n : ℕ) (u : PrimitiveTypeInfo) (ts list : List PrimitiveTypeInfo) → same_type (type_of t) u ≡ true →
      row_types context (constant t n) ts ≡ Some list → Some (merged context.info.one_reference u ∷ []) ≡ Some list
  constant_leaves t n u [] list h e =
      ap (λ v. Some (v ∷ [])) (sym (stays_integer context.info.one_reference t u h)) ∙ one_type (type_of t) u h (cc)
  constant_leaves t n u (v ∷ ts) list h e = absurd cc

  operation_leaves : (f : IntegerOperator) (u : PrimitiveTypeInfo) (ts list : List PrimitiveTypeInfo) → same_type (type_of f.result) u ≡ true →
      row_types context (operation f) ts ≡ Some list → Some (merged context.info.one_reference u ∷ []) ≡ Some list
  operation_leaves f u ts list h e =
      ap (λ v. Some (v ∷ [])) (sym (stays_integer context.info.one_reference f.result u h)) ∙
      one_type (type_of f.result) u h (some_if (same_types ts f.operands) (type_of f.result ∷ []) list e).1

  integer_leaves : (row : IntegerRow) (kind : ResultKind) (i : Imm) (o : Opcode) (ts list : List PrimitiveTypeInfo) →
      opcode_row (Some o) i ≡ Some row → fits_column row kind i ≡ true → row_types context row ts ≡ Some list →
      results_in context i ts kind ≡ Some list
  unfolding fits_column
  integer_leaves (constant t n) (by.Fixed u) i o ts list k h e = constant_leaves t n (value_type u) ts list h e
  integer_leaves (operation f) (by.Fixed u) i o ts list k h e = operation_leaves f (value_type u) ts list h e
  integer_leaves (operation f) by.Immediate (imm.Val u) o ts list k h e = operation_leaves f (value_type u) ts list h e
  integer_leaves (get (local j)) by.Local (imm.Index n) o ts list k h e =
      subst (λ m. one_at context.locals m ≡ Some list) (subst (HasIndex n) k (index_is o n)) (get_leaves (local j) ts list e)
  integer_leaves (get (global j)) by.Global (imm.Index n) o ts list k h e =
      subst (λ m. one_at context.info.globals m ≡ Some list) (subst (HasIndex n) k (index_is o n)) (get_leaves (global j) ts list e)
  integer_leaves (set x) by.Nothing i o ts list k h e = set_leaves x ts list e
  integer_leaves (tee (local j)) by.Local (imm.Index n) o ts list k h e =
      subst (λ m. one_at context.locals m ≡ Some list) (subst (HasIndex n) k (index_is o n)) (tee_leaves (local j) ts list e)
  integer_leaves discard by.Nothing i o ts list k h e = discard_leaves ts list e
  integer_leaves select by.First i o ts list k h e = select_leaves ts list e
  integer_leaves nop by.Nothing i o ts list k h e = nop_leaves ts list e
  integer_leaves row kind i o ts list k h e = absurd (false≢true h)

-- ---- other instructions

-- what another instruction gives is what its column says
pub other_results : (n : Named) (row : Row) (us list : List PrimitiveTypeInfo) → option_and_then (results_on us) (type_by_row n (Some row)) ≡ Some list →
    results_by n row.info.result ≡ Some list
other_results n row us list e =
    let (t, a, b) = and_then_some (results_on us) (type_by_row n (Some row)) list e in
    let (os, c, d) = and_then_some (λ os. option_map (λ rs. record { operands = os; results = rs }) (results_by n row.info.result))
    (operands_in n (column_by row.info.operands row.opcode)) t a in
    let (rs, f, g) = map_some (λ rs. record { operands = os; results = rs }) (results_by n row.info.result) t d in
    f ∙ ap Some (ap (λ (x : OtherType). x.results) g ∙ (some_if (accept t.operands us) t.results list b).1)

-- it has no column of a variable's type or the first operand's
other_leaves : (context : Context) (i : Imm) (ts list : List PrimitiveTypeInfo) (kind : ResultKind) →
    results_by (names_in context.info i) kind ≡ Some list → results_in context i ts kind ≡ Some list
other_leaves context i ts list by.Local e = absurd cc
other_leaves context i ts list by.Global e = absurd cc
other_leaves context i ts list by.First e = absurd cc
other_leaves context i ts list kind e = e

-- ---- both

pub types_are_the_result_column : TypesAreTheResultColumn
unfolding integer_row row_info_of row_at other_type known_fits
types_are_the_result_column context i ts list e = go (slice_get table i.row) refl e
  where
    other_at : (o : Option Row) → slice_get table i.row ≡ o → row_types context (other i) ts ≡ Some list →
        option_and_then (results_on ts) (type_by_row (names_in context.info i.imm) o) ≡ Some list
    other_at o k e = subst (λ o. option_and_then (results_on ts) (type_by_row (names_in context.info i.imm) o) ≡ Some list) k e

    by_row : (row : Row) (o : Option IntegerRow) → opcode_row (Some row.opcode) i.imm ≡ o → slice_get table i.row ≡ Some row →
        row_types context (row_or_other i o) ts ≡ Some list → results_in context i.imm ts row.info.result ≡ Some list
    by_row row (Some r) f k e =
        integer_leaves context r row.info.result i.imm row.opcode ts list f
        (subst (λ o. known_fits o row.info.result i.imm ≡ true) f (fits_at i.imm table i.row row (table_fits i.imm) k)) e
    by_row row None f k e =
        other_leaves context i.imm ts list row.info.result (other_results (names_in context.info i.imm) row ts list (other_at (Some row) k e))

    no_row : option_and_then (results_on ts) (type_by_row (names_in context.info i.imm) None) ≡ Some list → ⊥
    no_row e = cc

    go : (o : Option Row) → slice_get table i.row ≡ o → row_types context (row_or_other i (opcode_row (opcode_in o) i.imm)) ts ≡ Some list →
        option_and_then (λ info. results_in context i.imm ts info.result) (info_in o) ≡ Some list
    go None k e = absurd (no_row (other_at None k e))
    go (Some row) k e = by_row row (opcode_row (Some row.opcode) i.imm) refl k e
