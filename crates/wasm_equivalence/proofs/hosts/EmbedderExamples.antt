-- A function that calls itself through an import, in an embedder that calls back, before and after a rewrite that requests a global.
use Rattle.std.specs.Prelude.{◌≡◌, refl, ℕ, zero, suc, pos, neg_ℤ, List, [], ◌∷◌, ◌++◌, Option, Some, None}
use Rattle.wasm_code.specs.declared.immediate.BlockType.TheVariants as block
use Rattle.wasm_code.specs.declared.immediate.ValType.TheVariants as val
use Rattle.wasm_code.specs.declared.immediate.Imm.TheVariants as imm
use Rattle.wasm_code.specs.declared.operator.Operator.{Operator}
use Rattle.wasm_code.specs.declared.operator.Operator.TheVariants as op
use Rattle.wasm_code.specs.Instruction.{Instruction}
use Rattle.wasm_code.specs.Table.{row_at, table}
use Rattle.wasm_types.specs.Module.{Module, module_of}
use Rattle.wasm_types.specs.declared.types.PrimitiveTypeInfo.TheVariants as primitive
use Rattle.wasm_types.specs.declared.types.TypeInfo.TheVariants.{Func}
use Rattle.wasm_execution.specs.OtherRow.{other_type}
use Rattle.wasm_execution.specs.Values.{unfinished, Gives, Fails, context_in}
use Rattle.wasm_execution.specs.IntegerRow.{integer_row}
use Rattle.wasm_equivalence.specs.control.Function.{structural}
use Rattle.wasm_equivalence.specs.validation.Algorithm.{check}
use Rattle.wasm_equivalence.specs.validation.StandardSteps.{body_frame, standard_steps}
use Rattle.wasm_equivalence.specs.modules.Program.{Body, callee}
use Rattle.wasm_equivalence.specs.control.Wider.{wider_module}
use Rattle.wasm_equivalence.specs.modules.Running.{Running, world_of, Called, session}
use Rattle.wasm_equivalence.specs.hosts.CallBack.{Backs, calling_back}
use Rattle.wasm_equivalence.specs.hosts.Embedder.{Embedder, leaving, Functions, running, IsValidFunction, with_function}
use Rattle.wasm_equivalence.proofs.ExamplePieces.{i32, call, refuses, nothing, no_deeds}

-- an imported function and one of its own, each of an i32 to one
abbrev info : Module
info = record (module_of []) { types = Func (record { params = primitive.I32 ∷ []; returns = primitive.I32 ∷ [] }) ∷ []; functions = 0 ∷ 0 ∷ [] }

-- the call of the imported function becomes that of the other
abbrev back_of : Option ℕ → Option Instruction
back_of (Some zero) = Some (call 1)
back_of o = None

abbrev backs : Backs
backs i = back_of (callee i)

abbrev e : Embedder
e = calling_back backs (leaving (refuses info))

-- local.get 0; if (result i32); local.get 0; i32.const -1; here; i32.add; call 0; else; i32.const 7; end; end
abbrev counting : (here : List Operator) → List Operator
counting here =
    op.Instr (record { row = 4; imm = imm.Index 0 }) ∷ op.If (block.Value val.I32) ∷ op.Instr (record { row = 4; imm = imm.Index 0 })
    ∷ op.Instr (record { row = 36; imm = imm.I32 (neg_ℤ (pos 1)) }) ∷ (here ++ op.Instr (record { row = 77; imm = imm.Nothing }) ∷ op.Instr (call 0) ∷ op.Else
    ∷ op.Instr (record { row = 36; imm = imm.I32 (pos 7) }) ∷ op.End ∷ op.End ∷ [])

abbrev counts : Body
counts = record { params = primitive.I32 ∷ []; locals = []; operators = counting [] }

abbrev old : Functions
old (suc zero) = Some counts
old f = None

-- -1 goes through the requested global
abbrev rewritten : List Operator
rewritten = counting (op.Instr (record { row = 8; imm = imm.Index 0 }) ∷ op.Instr (record { row = 7; imm = imm.Index 0 }) ∷ [])

abbrev new : Functions
new = with_function old 1 rewritten

abbrev after : Module
after = wider_module (0 ∷ []) (primitive.I32 ∷ []) info

abbrev first : Running
first = running info e old (λ f. nothing)

abbrev second : Running
second = running after e new (λ f. nothing)

-- from 2, through the import each time, both give 7; the requested global was 3, and is -1 then
first_ends : (world_of first 9 5).answer (call 1) (i32 2 ∷ []) [] 5 ≡ Gives (i32 7 ∷ []) [] 5
unfolding integer_row row_at table other_type callee
first_ends = refl

second_ends : (world_of second 9 5).answer (call 1) (i32 2 ∷ []) (i32 3 ∷ []) 5 ≡ Gives (i32 7 ∷ []) (i32 4294967295 ∷ []) 5
unfolding integer_row row_at table other_type callee
second_ends = refl

-- one call less deep neither has ended; the second has left off with the global set
first_goes_on : (world_of first 9 4).answer (call 1) (i32 2 ∷ []) [] 5 ≡ Fails unfinished [] 5
unfolding integer_row row_at table other_type callee
first_goes_on = refl

second_goes_on : (world_of second 9 4).answer (call 1) (i32 2 ∷ []) (i32 3 ∷ []) 5 ≡ Fails unfinished (i32 4294967295 ∷ []) 5
unfolding integer_row row_at table other_type callee
second_goes_on = refl

-- calls one after another: from 0 it gives 7 at once, and from 2 it hasn't ended four deep
abbrev calls : List Called
calls = record { instruction = call 1; operands = i32 0 ∷ [] } ∷ record { instruction = call 1; operands = i32 2 ∷ [] } ∷ []

second_calls : session (world_of second 9 4) calls (i32 3 ∷ []) 5 ≡
    Gives (i32 7 ∷ []) (i32 3 ∷ []) 5 ∷ Fails unfinished (i32 4294967295 ∷ []) 5 ∷ []
unfolding integer_row row_at table other_type callee
second_calls = refl

-- both functions are valid, each in its module
valid_before : IsValidFunction info 1 nothing counts
unfolding integer_row row_at table other_type
valid_before = record { params_are = refl; valid = refl; targets = λ k type place rest c i s t. absurd cc; deeds = no_deeds _ _ _ }

valid_after : IsValidFunction after 1 nothing (record counts { operators = rewritten })
unfolding integer_row row_at table other_type
valid_after = record { params_are = refl; valid = refl; targets = λ k type place rest c i s t. absurd cc; deeds = no_deeds _ _ _ }

-- but the new one isn't in the old module
invalid_there : check (context_in info (primitive.I32 ∷ [])) (standard_steps info (primitive.I32 ∷ []) (structural rewritten) nothing) 0 rewritten
    (body_frame (primitive.I32 ∷ []) ∷ []) ≡ None
unfolding integer_row row_at table other_type
invalid_there = refl
