-- How many operands an instruction takes.
use Rattle.std.proofs.Common.{◌≡◌, ℕ, length, List, Option, Some, None, refl, sym, ap, ◌∙◌}
use Rattle.std.specs.Prelude.{IfSome}
use Rattle.wasm_code.specs.Instruction.{Instruction}
use Rattle.wasm_code.specs.Table.{row_at}
use Rattle.wasm_code.specs.declared.table.Row.{Row as TableRow}
use Rattle.wasm_types.specs.Module.{Module}
use Rattle.wasm_types.specs.declared.types.PrimitiveTypeInfo.{PrimitiveTypeInfo}
use Rattle.wasm_execution.specs.OtherRow.{Named, Operand, OtherType, names_in, operands_in, column_in, results_by, both_of, type_by_row, other_type}
use Rattle.wasm_execution.specs.Values.{Context, context_in, results_on}
use Rattle.wasm_execution.specs.IntegerRow.{IntegerRow, constant, operation, get, set, tee, discard, select, nop, other}
use Rattle.wasm_execution.specs.IntegerRow.{typed_operand_count, operand_count, row_or_other, row_types, integer_row}
use Rattle.wasm_execution.specs.declared.row.Row.{Row}
use Rattle.wasm_execution.specs.declared.row.Row.TheVariants as row
use Rattle.wasm_execution.specs.Row.{at_most_one, operand_count_in, count_by, instruction_count, instruction_types, row_of, HasOperandCount}
use Rattle.wasm_execution.specs.RowLemmas.{and_then_some, row_types_count}

-- where an instruction has another's types, these are of the operands that its column tells
both_count : (o : Option (List Operand)) (r : Option (List PrimitiveTypeInfo)) (t : OtherType) → both_of o r ≡ Some t → operand_count_in o ≡ length t.operands
both_count None r t e = absurd cc
both_count (Some os) None t e = absurd cc
both_count (Some os) (Some rs) t e = let is : os ≡ t.operands = ap (λ (x : Option OtherType). operands_or os x) e in ap (λ (xs : List Operand). length xs) is
  where
    operands_or : List Operand → Option OtherType → List Operand
    operands_or d None = d
    operands_or d (Some x) = x.operands

table_count : (n : Named) (row : Option TableRow) (t : OtherType) → type_by_row n row ≡ Some t →
    operand_count_in (operands_in n (column_in row)) ≡ length t.operands
table_count n None t e = absurd cc
table_count n (Some row) t e = both_count (operands_in n (column_in (Some row))) (results_by n row.info.result) t e

column_count_is : (n : Named) (i : Instruction) (t : OtherType) → other_type n i ≡ Some t →
    operand_count_in (operands_in n (column_in (row_at i.row))) ≡ length t.operands
unfolding other_type
column_count_is n i t e = table_count n (row_at i.row) t e

-- what has types has those of its row
pub given_by : (context : Context) (i : Instruction) (ts : List PrimitiveTypeInfo) (o : Option PrimitiveTypeInfo) → instruction_types context i ts ≡ Some o →
    (rs : List PrimitiveTypeInfo) × (row_types context (integer_row i) ts ≡ Some rs)
given_by context i ts o e = let p = and_then_some at_most_one (row_types context (integer_row i) ts) o e in (p.0, p.1)

pub other_row_count : (context : Context) (i : Instruction) (ts rs : List PrimitiveTypeInfo) → row_types context (other i) ts ≡ Some rs →
    length ts ≡ operand_count_in (operands_in (names_in context.info i.imm) (column_in (row_at i.row)))
other_row_count context i ts rs e =
    let p = and_then_some (results_on ts) (other_type (names_in context.info i.imm) i) rs e in
    sym (row_types_count context (other i) ts rs e)
    ∙ (ap typed_operand_count p.1 ∙ sym (column_count_is (names_in context.info i.imm) i p.0 p.1))

pub row_count_is : (context : Context) (row : IntegerRow) (ts rs : List PrimitiveTypeInfo) → row_types context row ts ≡ Some rs →
    length ts ≡ count_by context.info row
row_count_is context (constant t n) ts rs e = sym (row_types_count context (constant t n) ts rs e)
row_count_is context (operation f) ts rs e = sym (row_types_count context (operation f) ts rs e)
row_count_is context (get x) ts rs e = sym (row_types_count context (get x) ts rs e)
row_count_is context (set x) ts rs e = sym (row_types_count context (set x) ts rs e)
row_count_is context (tee x) ts rs e = sym (row_types_count context (tee x) ts rs e)
row_count_is context discard ts rs e = sym (row_types_count context discard ts rs e)
row_count_is context select ts rs e = sym (row_types_count context select ts rs e)
row_count_is context nop ts rs e = sym (row_types_count context nop ts rs e)
row_count_is context (other i) ts rs e = other_row_count context i ts rs e

pub counts_are : (context : Context) (i : Instruction) (ts : List PrimitiveTypeInfo) (o : Option PrimitiveTypeInfo) →
    instruction_types context i ts ≡ Some o → length ts ≡ instruction_count context.info i
counts_are context i ts o h =
    let p = given_by context i ts o h in row_count_is context (integer_row i) ts p.0 p.1

pub has_operand_count : (info : Module) (i : Instruction) → HasOperandCount info i (instruction_count info i)
has_operand_count info i locals ts o h = counts_are (context_in info locals) i ts o h

-- ---- as the code counts

pub other_counted : (info : Module) (i : Instruction) (count : ℕ) → integer_row i ≡ other i →
    count ≡ operand_count_in (operands_in (names_in info i.imm) (column_in (row_at i.row))) → count ≡ instruction_count info i
other_counted info i count is e = e ∙ sym (ap (count_by info) is)

pub row_counted : (info : Module) (i : Instruction) (r : Row) (q : IntegerRow) (count : ℕ) → row_or_other i (row_of r) ≡ integer_row i → row_of r ≡ Some q →
    IfSome (row_of r) (λ q. operand_count info q ≡ count) → count ≡ instruction_count info i
row_counted info i r q count e s h =
    let is : integer_row i ≡ q = sym e ∙ ap (row_or_other i) s in
    let counted : operand_count info q ≡ count = its_fact (row_of r) q s h in
    sym counted ∙ (integer_count info i r q s ∙ sym (ap (count_by info) is))
  where
    its_fact : (o : Option IntegerRow) (q : IntegerRow) → o ≡ Some q → IfSome o (λ q. operand_count info q ≡ count) → operand_count info q ≡ count
    its_fact o q s h = rw s at h

    integer_count : (info : Module) (i : Instruction) (r : Row) (q : IntegerRow) → row_of r ≡ Some q → operand_count info q ≡ count_by info q
    integer_count info i r (constant t n) s = refl
    integer_count info i r (operation f) s = refl
    integer_count info i r (get x) s = refl
    integer_count info i r (set x) s = refl
    integer_count info i r (tee x) s = refl
    integer_count info i r discard s = refl
    integer_count info i r select s = refl
    integer_count info i r nop s = refl
    integer_count info i r (other j) s = absurd (never r j s)
      where
        never : (r : Row) (j : Instruction) → row_of r ≡ Some (other j) → ⊥
        never (row.Constant t n) j e = cc
        never (row.Operation f) j e = cc
        never (row.TypedSelect t) j e = cc
        never (row.Get x) j e = cc
        never (row.Set x) j e = cc
        never (row.Tee x) j e = cc
        never row.Drop j e = cc
        never row.Select j e = cc
        never row.Nop j e = cc
        never row.Other j e = cc

-- each row of the code but one is an integer row
pub its_row : (r : Row) → (r ≡ row.Other → ⊥) → (q : IntegerRow) × (row_of r ≡ Some q)
its_row (row.Constant t n) h = (_, refl)
its_row (row.Operation f) h = (_, refl)
its_row (row.TypedSelect t) h = (_, refl)
its_row (row.Get x) h = (_, refl)
its_row (row.Set x) h = (_, refl)
its_row (row.Tee x) h = (_, refl)
its_row row.Drop h = (_, refl)
its_row row.Select h = (_, refl)
its_row row.Nop h = (_, refl)
its_row row.Other h = absurd (h refl)
