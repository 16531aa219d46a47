-- Embedders in which imports call exports back (this project, after the WebAssembly Core Specification 3.0, Execution, Modules, where an embedder may invoke
-- functions).
use Rattle.std.specs.Prelude.{◌≡◌, ℕ, true, List, Option, Some, None}
use Rattle.wasm_code.specs.Instruction.{Instruction}
use Rattle.wasm_types.specs.Module.{Module}
use Rattle.wasm_types.specs.declared.types.PrimitiveTypeInfo.{PrimitiveTypeInfo}
use Rattle.wasm_execution.specs.ExactRow.{exact_row}
use Rattle.wasm_execution.specs.OtherRow.{changes}
use Rattle.wasm_execution.specs.Values.{asked_types, Value, unfinished, Answer, Fails}
use Rattle.wasm_equivalence.specs.modules.Program.{Answering}
use Rattle.wasm_equivalence.specs.hosts.Embedder.{Embedder}

-- which call an instruction is to become, as the call of an import may come back as that of an export
abbrev pub Backs : Type 0
Backs = Instruction → Option Instruction

-- it is of the other's types, may change anything, and is no exact row where these are
pub record IsBack (m : Module) (i back : Instruction) : Type 0 where
  pub types_are : (operands : List PrimitiveTypeInfo) → asked_types m i operands ≡ asked_types m back operands
  pub changes_all : changes i ≡ true
  pub not_exact : m.exact ≡ true → exact_row i ≡ None

-- each instruction that comes back is of the types of the call that it becomes, may change anything, and is no exact row where these are
abbrev pub CallsBack : Module → Backs → Type 0
CallsBack m backs = (i back : Instruction) → backs i ≡ Some back → IsBack m i back

-- an instruction that comes back doesn't end where no call does; the others answer as before
abbrev pub answer_unfinished : Option Instruction → Answer → (globals : List Value) → (rest : ℕ) → Answer
answer_unfinished None a gs r = a
answer_unfinished (Some back) a gs r = Fails unfinished gs r

-- an instruction that comes back answers as the call that it becomes; the others as before
abbrev pub answer_back : Option Instruction → Answering → Answer → (operands globals : List Value) → (rest : ℕ) → Answer
answer_back None calls a vs gs r = a
answer_back (Some back) calls a vs gs r = calls back vs gs r

-- The embedder, but those instructions are calls, by what these answer; where none ends, they don't end.
abbrev pub calling_back : Backs → Embedder → Embedder
calling_back backs e =
    record {
      base = λ m i vs gs r. answer_unfinished (backs i) (e.base m i vs gs r) gs r;
      over = λ m calls i vs gs r. answer_back (backs i) calls (e.over m calls i vs gs r) vs gs r;
    }
