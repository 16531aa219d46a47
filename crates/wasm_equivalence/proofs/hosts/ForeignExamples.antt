-- A call through a table that comes to a foreign function, of a type that no function of the module has, by the definitions alone.
use Rattle.std.proofs.Common.{◌≡◌, refl, ℕ, zero, suc, pos, List, [], ◌∷◌, ◌++◌, Some, None, subst}
use Rattle.std.specs.Prelude.{◌==◌, if◌then◌else◌, false}
use Rattle.wasm_code.specs.declared.immediate.Imm.{Imm}
use Rattle.wasm_code.specs.declared.immediate.Imm.TheVariants as imm
use Rattle.wasm_code.specs.declared.operator.Operator.{Operator}
use Rattle.wasm_code.specs.declared.operator.Operator.TheVariants as op
use Rattle.wasm_code.specs.Table.{row_at, table}
use Rattle.wasm_types.specs.Module.{Module, module_of}
use Rattle.wasm_types.specs.declared.types.ElementType.TheVariants as element
use Rattle.wasm_types.specs.declared.types.PrimitiveTypeInfo.TheVariants as primitive
use Rattle.wasm_types.specs.declared.types.TypeInfo.TheVariants.{Func}
use Rattle.wasm_execution.specs.OtherRow.{other_type}
use Rattle.wasm_execution.specs.Values.{foreign_call, Value, met, Answer, Gives, Fails, World}
use Rattle.wasm_execution.specs.IntegerRow.{integer_row}
use Rattle.wasm_equivalence.specs.modules.Program.{callee}
use Rattle.wasm_equivalence.specs.control.Standard.{Beyond, by_asked, calls}
use Rattle.wasm_equivalence.specs.control.Function.{structural}
use Rattle.wasm_equivalence.specs.validation.Sound.{HasTargets, IsCallOf}
use Rattle.wasm_equivalence.specs.control.Wider.{wider_module}
use Rattle.wasm_equivalence.specs.modules.Running.{Running, world_of}
use Rattle.wasm_equivalence.specs.hosts.Embedder.{Embedder, leaving, Functions, running, IsValidFunction, with_function}
use Rattle.wasm_equivalence.proofs.ExamplePieces.{call, nothing}

-- one function, which gives an f32, and a table of functions; of an i64 to an f32 there is none
abbrev info : Module
info = record (module_of []) {
  types = Func (record { params = primitive.I64 ∷ []; returns = primitive.F32 ∷ [] }) ∷ Func (record { params = []; returns = primitive.F32 ∷ [] }) ∷ [];
  functions = 1 ∷ [];
  tables = record { element_type = element.Func; table64 = false } ∷ [];
}

abbrev f32 : ℕ → Value
f32 n = record { type = primitive.F32; number = n }

-- the world answers the foreign function with mark 3 by its operand, and one more in the rest
abbrev foreign_answer : ℕ → Imm → (vs gs : List Value) → (r : ℕ) → Answer
foreign_answer row (imm.Pair (suc (suc (suc zero))) zero) (v ∷ vs) gs r = if row == 446 then Gives (f32 v.number ∷ []) gs (suc r) else Fails (met 0) gs r
foreign_answer row i vs gs r = Fails (met 0) gs r

abbrev answers : World
answers = record { info = info; answer = λ i vs gs r. foreign_answer i.row i.imm vs gs r; others = λ i vs gs r more. more }

abbrev e : Embedder
e = leaving answers

-- the table has it at the place 0
abbrev beyond : Beyond
beyond = record nothing { target = λ k c r. calls (foreign_call 3 0) }

-- i64.const 9; here; i32.const 0; call_indirect 0 0; end
abbrev by_table : (here : List Operator) → List Operator
by_table here =
    op.Instr (record { row = 37; imm = imm.I64 (pos 9) }) ∷ (here ++ op.Instr (record { row = 36; imm = imm.I32 (pos 0) }) ∷ op.CallIndirect 0 0 ∷ op.End ∷ [])

abbrev old : Functions
old zero = Some (record { params = []; locals = []; operators = by_table [] })
old f = None

-- 9 goes through the requested global
abbrev rewritten : List Operator
rewritten = by_table (op.Instr (record { row = 8; imm = imm.Index 0 }) ∷ op.Instr (record { row = 7; imm = imm.Index 0 }) ∷ [])

abbrev new : Functions
new = with_function old 0 rewritten

abbrev after : Module
after = wider_module (0 ∷ []) (primitive.I64 ∷ []) info

abbrev first : Running
first = running info e old (λ f. beyond)

abbrev second : Running
second = running after e new (λ f. beyond)

first_ends : (world_of first 9 1).answer (call 0) [] [] 6 ≡ Gives (f32 9 ∷ []) [] 7
unfolding integer_row row_at table other_type callee
first_ends = refl

second_ends : (world_of second 9 1).answer (call 0) [] (record { type = primitive.I64; number = 4 } ∷ []) 6 ≡
    Gives (f32 9 ∷ []) (record { type = primitive.I64; number = 9 } ∷ []) 7
unfolding integer_row row_at table other_type callee
second_ends = refl

-- the function is valid, whatever foreign function the table has
abbrev by_mark : (mark : ℕ) → Beyond
by_mark mark = record nothing { target = λ k c r. calls (foreign_call mark 0) }

its_target : (mark : ℕ) → HasTargets info (structural (by_table [])) (by_asked (structural (by_table [])) (by_mark mark))
unfolding other_type row_at table
its_target mark zero type place rest c i s t =
    let same : 0 ≡ type = cc in
    let is : foreign_call mark 0 ≡ i = cc in
    subst (λ (x : ℕ). IsCallOf info x i) same (subst (IsCallOf info 0) is refl)
its_target mark (suc zero) type place rest c i s t = absurd cc
its_target mark (suc (suc k)) type place rest c i s t = absurd cc

valid : (mark : ℕ) → IsValidFunction info 0 (by_mark mark) (record { params = []; locals = []; operators = by_table [] })
unfolding integer_row row_at table other_type
valid mark = record {
  params_are = refl;
  valid = refl;
  targets = its_target mark;
  deeds = record { deeds = λ k o vs rest s part t a. tt; caught = λ k place rest o c at e. absurd cc };
}
