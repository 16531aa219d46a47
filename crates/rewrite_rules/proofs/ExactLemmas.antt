-- Exact rows that compute: what they take, give and do where what runs the module is exact.
use Rattle.std.proofs.Common.{◌≡◌, ℕ, Bool, true, false, List, [], ◌∷◌, map, Option, Some, None, refl, sym, ap, ap₂, ◌∙◌, true≢false}
use Rattle.std.specs.Prelude.{◌&&◌, ◌==◌, option_and_then, if◌then◌else◌}
use Rattle.std.specs.List.{All}
use Rattle.std.proofs.lemmas.List.{append-nil}
use Rattle.std.proofs.lemmas.Bool.{and_parts}
use Rattle.wasm_code.specs.Instruction.{Instruction, fits_row}
use Rattle.wasm_code.specs.Table.{row_at, opcode_in}
use Rattle.wasm_code.specs.declared.immediate.Imm.{Imm}
use Rattle.wasm_code.specs.declared.immediate.Imm.TheVariants as imm
use Rattle.wasm_code.specs.declared.immediate.ValType.{ValType}
use Rattle.wasm_code.specs.declared.immediate.ValType.TheVariants as value
use Rattle.wasm_code.specs.declared.table.Opcode.{Opcode}
use Rattle.wasm_code.specs.declared.table.Opcode.TheVariants.{Byte, Fc, Fd}
use Rattle.wasm_code.specs.declared.table.ResultKind.{ResultKind}
use Rattle.wasm_code.specs.declared.table.ResultKind.TheVariants as by
use Rattle.wasm_code.specs.declared.table.Row.{Row}
use Rattle.wasm_types.specs.Module.{Module, merged}
use Rattle.wasm_types.specs.declared.types.PrimitiveTypeInfo.{PrimitiveTypeInfo}
use Rattle.wasm_execution.specs.declared.operand.OperandKind.TheVariants as kind
use Rattle.wasm_execution.specs.declared.operand.OperandColumn.{OperandColumn}
use Rattle.wasm_execution.specs.declared.operand.OperandColumn.TheVariants as column
use Rattle.wasm_execution.specs.OtherRow.{Operand, typed, Named, names_in, operands_in, results_by, both_of, value_type, type_by_row, column_by, other_type}
use Rattle.wasm_execution.specs.ExactRow.{ExactRow, computes, loads, stores, exact_row}
use Rattle.wasm_execution.specs.Integer.{IntegerOperator}
use Rattle.wasm_execution.specs.Values.{of_bits, accept, results_on, other_types, Value, IsValue, types, Context, State, own_globals}
use Rattle.wasm_execution.specs.Values.{Answer, HasTypes, Ends, IsExact}
use Rattle.wasm_execution.specs.IntegerRow.{IntegerRow, operation, other, is_other, operator_row, bare_operator, typed_select, byte_row}
use Rattle.wasm_execution.specs.IntegerRow.{opcode_row, row_or_other, integer_row, row_types}
use Rattle.wasm_execution.specs.Machine.{answered, act}
use Rattle.wasm_execution.specs.RowLemmas.{if_typed_is, same_type_self}
use Rattle.wasm_execution.specs.StateLemmas.{own_types_are, own_is, others_none}
use Rattle.wasm_execution.specs.TypeLemmas.{act_at}
use Rattle.rewrite_rules.specs.Exact.{ExactOperator, written_operands, number_type, written_result, operands_by, result_by, with_value, exact_operator}

-- ---- instructions of which the machine says nothing itself

-- where a row is found, the machine says itself what it does
abbrev IsOwn : Option IntegerRow → Type 0
IsOwn o = (row : IntegerRow) → o ≡ Some row → is_other row ≡ false

if_own : (b : Bool) (o p : Option IntegerRow) → IsOwn o → IsOwn p → IsOwn (if b then o else p)
if_own true o p h k = h
if_own false o p h k = k

one_own : (row : IntegerRow) → is_other row ≡ false → IsOwn (Some row)
one_own row h found e = ap is_other (let same : found ≡ row = cc in same) ∙ h

none_own : IsOwn None
none_own row e = absurd cc

operator_own : (o : Option IntegerOperator) → IsOwn (operator_row o)
operator_own None = none_own
operator_own (Some f) = one_own (operation f) refl

select_own : (t : ValType) → IsOwn (typed_select t)
select_own value.I32 = one_own _ refl
select_own value.I64 = one_own _ refl
select_own value.F32 = none_own
select_own value.F64 = none_own
select_own value.V128 = none_own
select_own value.FuncRef = none_own
select_own value.ExternRef = none_own

byte_own : (byte : ℕ) (i : Imm) → IsOwn (byte_row byte i)
byte_own byte imm.Nothing =
    if_own (byte == 0x01) _ _ (one_own _ refl) (if_own (byte == 0x1a) _ _ (one_own _ refl)
    (if_own (byte == 0x1b) _ _ (one_own _ refl) (operator_own (bare_operator byte))))
byte_own byte (imm.Index n) =
    if_own (byte == 0x20) _ _ (one_own _ refl) (if_own (byte == 0x21) _ _ (one_own _ refl)
    (if_own (byte == 0x22) _ _ (one_own _ refl) (if_own (byte == 0x23) _ _ (one_own _ refl)
    (if_own (byte == 0x24) _ _ (one_own _ refl) none_own))))
byte_own byte (imm.I32 z) = if_own (byte == 0x41) _ _ (one_own _ refl) none_own
byte_own byte (imm.I64 z) = if_own (byte == 0x42) _ _ (one_own _ refl) none_own
byte_own byte (imm.Val t) = if_own (byte == 0x1c) _ _ (select_own t) none_own
byte_own byte (imm.Pair n m) = none_own
byte_own byte (imm.Mem m) = none_own
byte_own byte (imm.MemLane m lane) = none_own
byte_own byte (imm.Lane lane) = none_own
byte_own byte (imm.F32 n) = none_own
byte_own byte (imm.F64 n) = none_own
byte_own byte (imm.V128 z) = none_own
byte_own byte (imm.Shuffle lanes) = none_own
byte_own byte (imm.Heap t) = none_own

own : (o : Option Opcode) (i : Imm) → IsOwn (opcode_row o i)
own (Some (Byte byte)) i = byte_own byte i
own (Some (Fc n)) i = none_own
own (Some (Fd n)) i = none_own
own None i = none_own

other_self : (i : Instruction) (o : Option IntegerRow) → IsOwn o → is_other (row_or_other i o) ≡ true → row_or_other i o ≡ other i
other_self i None h e = refl
other_self i (Some row) h e = absurd (true≢false (sym e ∙ h row refl))

-- ---- an exact row that computes

-- What is known of it.
pub record IsExactOperator (i : Instruction) (o : ExactOperator) : Type 0 where
  pub value : List ℕ → ℕ
  pub fits : fits_row (row_at i.row) i.imm ≡ true
  pub other_is : integer_row i ≡ other i
  pub row_is : exact_row i ≡ Some (computes value)
  pub operands_are : operands_by (row_at i.row) ≡ Some o.operands
  pub result_is : result_by (row_at i.row) ≡ Some o.result
  pub value_is : (ns : List ℕ) → o.value ns ≡ of_bits o.result (value ns)

pub exact_is : (i : Instruction) (o : ExactOperator) → exact_operator i ≡ Some o → IsExactOperator i o
unfolding exact_operator integer_row
exact_is i o e =
    known (fits_row (row_at i.row) i.imm && is_other (integer_row i)) (exact_row i) (operands_by (row_at i.row)) (result_by (row_at i.row))
    refl refl refl refl e
  where
    known : (b : Bool) (row : Option ExactRow) (ts : Option (List PrimitiveTypeInfo)) (t : Option PrimitiveTypeInfo) →
        (fits_row (row_at i.row) i.imm && is_other (integer_row i)) ≡ b →
        exact_row i ≡ row → operands_by (row_at i.row) ≡ ts → result_by (row_at i.row) ≡ t → (if b then with_value row ts t else None) ≡ Some o →
        IsExactOperator i o
    known true (Some (computes f)) (Some ts) (Some t) a b c d e =
        let both = and_parts (fits_row (row_at i.row) i.imm) (is_other (integer_row i)) a in
        let same : record { operands = ts; result = t; value = λ ns. of_bits t (f ns) } ≡ o = cc in
        record {
          value = f;
          fits = both.0;
          other_is = other_self i (opcode_row (opcode_in (row_at i.row)) i.imm) (own (opcode_in (row_at i.row)) i.imm) both.1;
          row_is = b;
          operands_are = c ∙ ap (λ (x : ExactOperator). Some x.operands) same;
          result_is = d ∙ ap (λ (x : ExactOperator). Some x.result) same;
          value_is = λ ns. ap (λ (x : ExactOperator). x.value ns) (sym same) ∙ ap (λ (x : ExactOperator). of_bits x.result (f ns)) same;
        }
    known true (Some (computes f)) (Some ts) None a b c d e = absurd cc
    known true (Some (computes f)) None t a b c d e = absurd cc
    known true (Some (loads m l)) ts t a b c d e = absurd cc
    known true (Some (stores m n)) ts t a b c d e = absurd cc
    known true None ts t a b c d e = absurd cc
    known false row ts t a b c d e = absurd cc

-- ---- its types

-- operands of these types
abbrev pub fixed_operands : List PrimitiveTypeInfo → List Operand
fixed_operands ts = map (λ t. typed (Some t)) ts

accepted : (ts : List PrimitiveTypeInfo) → accept (fixed_operands ts) ts ≡ true
accepted [] = refl
accepted (t ∷ ts) = ap₂ (λ a b. a && b) (same_type_self t) (accepted ts)

module _ (n : Named) where
  column_is : (c : OperandColumn) (ts : List PrimitiveTypeInfo) → written_operands c ≡ Some ts → operands_in n c ≡ Some (fixed_operands ts)
  column_is column.Zero ts e = ap (λ (us : List PrimitiveTypeInfo). Some (fixed_operands us)) (let same : [] ≡ ts = cc in same)
  column_is (column.One (kind.Of t)) ts e = ap (λ (us : List PrimitiveTypeInfo). Some (fixed_operands us)) (let same : t ∷ [] ≡ ts = cc in same)
  column_is (column.Two (kind.Of t) (kind.Of u)) ts e =
      ap (λ (us : List PrimitiveTypeInfo). Some (fixed_operands us)) (let same : t ∷ u ∷ [] ≡ ts = cc in same)
  column_is (column.Three (kind.Of t) (kind.Of u) (kind.Of v)) ts e =
      ap (λ (us : List PrimitiveTypeInfo). Some (fixed_operands us)) (let same : t ∷ u ∷ v ∷ [] ≡ ts = cc in same)
  column_is _ ts e = absurd cc

  result_type : (b : Bool) (v : ValType) (t : PrimitiveTypeInfo) → number_type v ≡ Some t → merged b (value_type v) ≡ t
  result_type b value.I32 t e = cc
  result_type b value.I64 t e = cc
  result_type b value.F32 t e = cc
  result_type b value.F64 t e = cc
  result_type b value.V128 t e = cc
  result_type b value.FuncRef t e = absurd cc
  result_type b value.ExternRef t e = absurd cc

  results_are : (r : ResultKind) (t : PrimitiveTypeInfo) → written_result r ≡ Some t → results_by n r ≡ Some (t ∷ [])
  results_are (by.Fixed v) t e = ap (λ (u : PrimitiveTypeInfo). Some (u ∷ [])) (result_type n.one_reference v t e)
  results_are _ t e = absurd cc

  type_is : (row : Option Row) (ts : List PrimitiveTypeInfo) (t : PrimitiveTypeInfo) → operands_by row ≡ Some ts → result_by row ≡ Some t →
      type_by_row n row ≡ Some (record { operands = fixed_operands ts; results = t ∷ [] })
  type_is None ts t e f = absurd cc
  type_is (Some row) ts t e f =
      ap₂ both_of (column_is (column_by row.info.operands row.opcode) ts e) (results_are row.info.result t f)

module _ (i : Instruction) (o : ExactOperator) (is : IsExactOperator i o) where
  pub exact_type : (info : Module) → other_type (names_in info i.imm) i ≡ Some (record { operands = fixed_operands o.operands; results = o.result ∷ [] })
  unfolding other_type
  exact_type info = type_is (names_in info i.imm) (row_at i.row) o.operands o.result is.operands_are is.result_is

  other_typed : (info : Module) → other_types info i o.operands ≡ Some (o.result ∷ [])
  other_typed info =
      ap (option_and_then (results_on o.operands)) (exact_type info)
      ∙ if_typed_is (accept (fixed_operands o.operands) o.operands) (o.result ∷ []) (accepted o.operands)

  pub exact_typed : (context : Context) → row_types context (other i) o.operands ≡ Some (o.result ∷ [])
  exact_typed context = other_typed context.info

  -- ---- what it does

  pub exact_acts : (context : Context) (vs : List Value) (s : State) → context.info.exact ≡ true → HasTypes context s → types vs ≡ o.operands →
      All IsValue vs → act (other i) vs s ≡ Ends (record { type = o.result; number = o.value (map (λ v. v.number) vs) } ∷ []) s
  exact_acts context vs s exact h t hv =
      let world : IsExact s.world = h.sound.exact (ap (λ (m : Module). m.exact) h.info_is ∙ exact) in
      let answers = ap (other_types context.info i) t ∙ other_typed context.info in
      let numbers = map (λ v. v.number) vs in
      act_at h (other i) vs (o.result ∷ []) answers
      ∙ (ap₂ (λ (a : Answer) (more : List Value). answered a more s)
      (ap (λ (gs : List Value). s.world.answer i vs gs s.rest) (own_is h)
      ∙ world.follows i (computes is.value) (o.result ∷ []) vs s.globals s.rest is.row_is
      (ap (λ (m : Module). other_types m i (types vs)) h.info_is ∙ answers) hv (own_types_are h) h.global_values)
      (others_none h i vs (own_globals s))
      ∙ (ap (λ (gs : List Value). Ends (record { type = o.result; number = of_bits o.result (is.value numbers) } ∷ []) (record s { globals = gs }))
      (append-nil s.globals)
      ∙ ap (λ (m : ℕ). Ends (record { type = o.result; number = m } ∷ []) s) (sym (is.value_is numbers))))
