-- A host that catches the traps of an export and goes on, by the definitions alone: before and after a rewrite that requests a global.
use Rattle.std.proofs.Common.{Bool, true, false, sym, subst}
use Rattle.std.specs.Prelude.{◌≡◌, refl, ℕ, zero, suc, pos, ◌==◌, if◌then◌else◌, List, [], ◌∷◌, ◌++◌, Option, Some, None}
use Rattle.std.proofs.lemmas.Bool.{eqb-true}
use Rattle.wasm_code.specs.declared.immediate.Imm.{Imm}
use Rattle.wasm_code.specs.declared.immediate.Imm.TheVariants as imm
use Rattle.wasm_code.specs.declared.operator.Operator.{Operator}
use Rattle.wasm_code.specs.declared.operator.Operator.TheVariants as op
use Rattle.wasm_code.specs.Table.{row_at, table}
use Rattle.wasm_types.specs.Module.{Module, module_of}
use Rattle.wasm_types.specs.declared.types.PrimitiveTypeInfo.{PrimitiveTypeInfo}
use Rattle.wasm_types.specs.declared.types.PrimitiveTypeInfo.TheVariants as primitive
use Rattle.wasm_types.specs.declared.types.TypeInfo.TheVariants.{Func}
use Rattle.wasm_execution.specs.OtherRow.{other_type, changes}
use Rattle.wasm_execution.specs.Values.{asked_types, unreachable, unfinished, Gives, Fails}
use Rattle.wasm_execution.specs.IntegerRow.{integer_row}
use Rattle.wasm_equivalence.specs.modules.Program.{callee}
use Rattle.wasm_equivalence.specs.control.Wider.{wider_module}
use Rattle.wasm_equivalence.specs.modules.Running.{Running, world_of, Called, session}
use Rattle.wasm_equivalence.specs.hosts.Embedder.{Embedder, IsSoundEmbedder, leaving, Functions, running, IsValidFunction, with_function}
use Rattle.wasm_equivalence.specs.hosts.HostCode.{Import, Imports, IsImport, AreImports, hosting, catching, IsCatching}
use Rattle.wasm_equivalence.proofs.hosts.HostCodeLemmas.{hosting_sound, catching_fine}
use Rattle.wasm_equivalence.proofs.ExamplePieces.{i32, call, refuses, nothing, no_deeds}

-- an imported function, and two of its own: the last gives an i32, and the others neither take nor give anything; and a global
abbrev info : Module
info = record (module_of []) {
  types = Func (record { params = []; returns = [] }) ∷ Func (record { params = []; returns = primitive.I32 ∷ [] }) ∷ [];
  functions = 0 ∷ 0 ∷ 1 ∷ [];
  globals = primitive.I32 ∷ [];
}

-- the import calls the function with index 1, catches its trap, and goes on
abbrev import_at : ℕ → Imm → Option Import
import_at row (imm.Index zero) = if row == 1 then Some (catching (call 1)) else None
import_at row i = None

abbrev imports : Imports
imports i = import_at i.row i.imm

abbrev e : Embedder
e = hosting info imports (leaving (refuses info))

-- i32.const 5; here; global.set 0; unreachable; end
abbrev failing : (here : List Operator) → List Operator
failing here =
    op.Instr (record { row = 36; imm = imm.I32 (pos 5) }) ∷ (here ++ op.Instr (record { row = 8; imm = imm.Index 0 }) ∷ op.Unreachable ∷ op.End ∷ [])

-- call 0; global.get 0; end
abbrev old : Functions
old (suc zero) = Some (record { params = []; locals = []; operators = failing [] })
old (suc (suc zero)) = Some (record {
  params = [];
  locals = [];
  operators = op.Instr (call 0) ∷ op.Instr (record { row = 7; imm = imm.Index 0 }) ∷ op.End ∷ [];
})
old f = None

-- 5 goes through the requested global
abbrev rewritten : List Operator
rewritten = failing (op.Instr (record { row = 8; imm = imm.Index 1 }) ∷ op.Instr (record { row = 7; imm = imm.Index 1 }) ∷ [])

abbrev new : Functions
new = with_function old 1 rewritten

abbrev after : Module
after = wider_module (0 ∷ []) (primitive.I32 ∷ []) info

abbrev first : Running
first = running info e old (λ f. nothing)

abbrev second : Running
second = running after e new (λ f. nothing)

-- behind the caught trap both go on with what was set before it; the requested global was 7, and is 5 then
first_goes_on : (world_of first 9 3).answer (call 2) [] (i32 0 ∷ []) 6 ≡ Gives (i32 5 ∷ []) (i32 5 ∷ []) 6
unfolding integer_row row_at table other_type callee
first_goes_on = refl

second_goes_on : (world_of second 9 3).answer (call 2) [] (i32 0 ∷ i32 7 ∷ []) 6 ≡ Gives (i32 5 ∷ []) (i32 5 ∷ i32 5 ∷ []) 6
unfolding integer_row row_at table other_type callee
second_goes_on = refl

-- a call that hasn't ended isn't caught
first_unfinished : (world_of first 9 2).answer (call 2) [] (i32 0 ∷ []) 6 ≡ Fails unfinished (i32 0 ∷ []) 6
unfolding integer_row row_at table other_type callee
first_unfinished = refl

-- calls one after another, the first of which traps
abbrev calls : List Called
calls = record { instruction = call 1; operands = [] } ∷ record { instruction = call 2; operands = [] } ∷ []

first_calls : session (world_of first 9 3) calls (i32 0 ∷ []) 6 ≡ Fails unreachable (i32 5 ∷ []) 6 ∷ Gives (i32 5 ∷ []) (i32 5 ∷ []) 6 ∷ []
unfolding integer_row row_at table other_type callee
first_calls = refl

second_calls : session (world_of second 9 3) calls (i32 0 ∷ i32 7 ∷ []) 6 ≡
    Fails unreachable (i32 5 ∷ i32 5 ∷ []) 6 ∷ Gives (i32 5 ∷ []) (i32 5 ∷ i32 5 ∷ []) 6 ∷ []
unfolding integer_row row_at table other_type callee
second_calls = refl

-- both functions that fail are valid
valid_before : IsValidFunction info 1 nothing (record { params = []; locals = []; operators = failing [] })
unfolding integer_row row_at table other_type
valid_before = record { params_are = refl; valid = refl; targets = λ k type place rest c i s t. absurd cc; deeds = no_deeds _ _ _ }

valid_after : IsValidFunction after 1 nothing (record { params = []; locals = []; operators = rewritten })
unfolding integer_row row_at table other_type
valid_after = record { params_are = refl; valid = refl; targets = λ k type place rest c i s t. absurd cc; deeds = no_deeds _ _ _ }

-- ---- the host is sound over every embedder that is

catches : IsCatching info (call 0) (call 1)
unfolding changes other_type row_at table
catches = record { changes_all = refl; not_exact = λ h. absurd cc; gives_nothing = none; results = []; takes_nothing = refl }
  where
    none : (ts rs : List PrimitiveTypeInfo) → asked_types info (call 0) ts ≡ Some rs → rs ≡ []
    none [] rs x = cc
    none (t ∷ ts) rs x = absurd cc

import_fine : (row : ℕ) (i : Imm) (code : Import) → import_at row i ≡ Some code → IsImport info (record { row = row; imm = i }) code
import_fine row (imm.Index zero) code x = go (row == 1) refl x
  where
    go : (b : Bool) → (row == 1) ≡ b → (if b then Some (catching (call 1)) else None) ≡ Some code → IsImport info (record { row = row; imm = imm.Index 0 }) code
    go true k x =
        let is : catching (call 1) ≡ code = cc in
        subst (λ (c : Import). IsImport info (record { row = row; imm = imm.Index 0 }) c) is
        (subst (λ n. IsImport info (record { row = n; imm = imm.Index 0 }) (catching (call 1))) (sym (eqb-true row 1 k))
        (catching_fine info (call 0) (call 1) catches))
    go false k x = absurd cc
import_fine row i code x = absurd cc

imports_fine : AreImports info imports
imports_fine i code x = import_fine i.row i.imm code x

host_is_sound : (others : Embedder) → IsSoundEmbedder info others → IsSoundEmbedder info (hosting info imports others)
host_is_sound others h = hosting_sound info imports others h imports_fine
