-- Embedders whose imports run code of the host's own, which calls exports back, is told of their traps and goes on (this project, after the WebAssembly
-- Core Specification 3.0, Execution, Modules, where an embedder may invoke functions, and a trap is an answer too).
use Rattle.std.specs.Prelude.{◌≡◌, ℕ, true, List, [], ◌++◌, length, take, drop, Option, Some, None}
use Rattle.std.specs.List.{All}
use Rattle.wasm_code.specs.Instruction.{Instruction}
use Rattle.wasm_types.specs.Module.{Module}
use Rattle.wasm_types.specs.declared.types.PrimitiveTypeInfo.{PrimitiveTypeInfo}
use Rattle.wasm_execution.specs.ExactRow.{exact_row}
use Rattle.wasm_execution.specs.OtherRow.{changes}
use Rattle.wasm_execution.specs.Values.{asked_types, Value, IsValue, types, Cause, unfinished, stuck, Answer, Gives, Fails}
use Rattle.wasm_equivalence.specs.modules.Program.{Answering}
use Rattle.wasm_equivalence.specs.hosts.Embedder.{Embedder, with_behind}

-- ---- code

-- What a host's code does: it answers; or it asks for an instruction, as the call of an export, with operands, globals of the module and a rest of its own
-- choosing, and goes on by what that answered.
pub data HostCode : Type 0 where
  answers : Answer → HostCode
  asks : Instruction → (operands globals : List Value) → (rest : ℕ) → (Answer → HostCode) → HostCode

-- it is told of traps; a call that hasn't ended, or was stuck, has answered nothing, and so neither has the code
abbrev pub if_told : Cause → (told untold : Answer) → Answer
if_told unfinished told untold = untold
if_told stuck told untold = untold
if_told cause told untold = told

-- it is shown so many globals, those of the module; what stands behind these passes it by
abbrev pub tell : (count : ℕ) → (next : Answer → (behind : List Value) → Answer) → Answer → Answer
tell count next (Gives vs gs r) = next (Gives vs (take count gs) r) (drop count gs)
tell count next (Fails cause gs r) = if_told cause (next (Fails cause (take count gs) r) (drop count gs)) (Fails cause gs r)

-- what the code answers, by what it asks for answers, with these globals behind those that it is shown
abbrev pub run_code : Answering → (count : ℕ) → HostCode → (behind : List Value) → Answer
run_code calls count (answers a) behind = with_behind behind a
run_code calls count (asks i vs gs r next) behind = tell count (λ a after. run_code calls count (next a) after) (calls i vs (gs ++ behind) r)

-- ---- typed code

-- values of these types, or a trap; and with both the module's globals
abbrev pub AnswerIsTold : Module → (results : List PrimitiveTypeInfo) → Answer → Type 0
AnswerIsTold m results (Gives vs gs r) = (types vs ≡ results) × All IsValue vs × (types gs ≡ m.globals) × All IsValue gs
AnswerIsTold m results (Fails cause gs r) = (types gs ≡ m.globals) × All IsValue gs

-- Whatever it is told, it asks with operands and globals of their types, and answers with values of the results' types, or with a trap.
abbrev pub IsTypedCode : Module → (results : List PrimitiveTypeInfo) → HostCode → Type 0
IsTypedCode m results (answers a) = AnswerIsTold m results a
IsTypedCode m results (asks i vs gs r next) =
    (given : List PrimitiveTypeInfo) × (asked_types m i (types vs) ≡ Some given) × All IsValue vs × (types gs ≡ m.globals) × All IsValue gs
    × ((a : Answer) → AnswerIsTold m given a → IsTypedCode m results (next a))

-- ---- imports

-- the code of an import, by what it is called with
abbrev pub Import : Type 0
Import = (operands globals : List Value) → (rest : ℕ) → HostCode

-- which instructions, as calls, are calls of such imports
abbrev pub Imports : Type 0
Imports = Instruction → Option Import

-- the instruction may change anything, is no exact row where these are, and on operands of its types the code is typed
pub record IsImport (m : Module) (i : Instruction) (code : Import) : Type 0 where
  pub changes_all : changes i ≡ true
  pub not_exact : m.exact ≡ true → exact_row i ≡ None
  pub typed : (results : List PrimitiveTypeInfo) (operands globals : List Value) (rest : ℕ) → asked_types m i (types operands) ≡ Some results →
      All IsValue operands → types globals ≡ m.globals → All IsValue globals → IsTypedCode m results (code operands globals rest)

-- each of them is an import of the module
abbrev pub AreImports : Module → Imports → Type 0
AreImports m imports = (i : Instruction) (code : Import) → imports i ≡ Some code → IsImport m i code

-- where no call ends, code doesn't end; the others answer as before
abbrev pub answer_later : Option Import → Answer → (globals : List Value) → (rest : ℕ) → Answer
answer_later None a gs r = a
answer_later (Some code) a gs r = Fails unfinished gs r

-- an import's code runs over what calls answer; the others answer as before
abbrev pub answer_code : (count : ℕ) → Option Import → Answering → Answer → (operands globals : List Value) → (rest : ℕ) → Answer
answer_code count None calls a vs gs r = a
answer_code count (Some code) calls a vs gs r = run_code calls count (code vs (take count gs) r) (drop count gs)

-- The embedder, but those imports of the module run their code.
abbrev pub hosting : Module → Imports → Embedder → Embedder
hosting m imports e =
    record {
      base = λ k i vs gs r. answer_later (imports i) (e.base k i vs gs r) gs r;
      over = λ k calls i vs gs r. answer_code (length m.globals) (imports i) calls (e.over k calls i vs gs r) vs gs r;
    }

-- ---- a host that catches every trap

-- the globals and the rest that an answer leaves
abbrev pub globals_left : Answer → List Value
globals_left (Gives vs gs r) = gs
globals_left (Fails cause gs r) = gs

abbrev pub rest_left : Answer → ℕ
rest_left (Gives vs gs r) = r
rest_left (Fails cause gs r) = r

-- it calls an export without operands, and gives nothing whether that ended or trapped: `() => { try { exports.f() } catch {} }`
abbrev pub catching : (export : Instruction) → Import
catching back vs gs r = asks back [] gs r (λ a. answers (Gives [] (globals_left a) (rest_left a)))

-- the import is no exact row where these are, takes and gives nothing, and the export takes nothing
pub record IsCatching (m : Module) (i back : Instruction) : Type 0 where
  pub changes_all : changes i ≡ true
  pub not_exact : m.exact ≡ true → exact_row i ≡ None
  pub gives_nothing : (operands results : List PrimitiveTypeInfo) → asked_types m i operands ≡ Some results → results ≡ []
  pub results : List PrimitiveTypeInfo
  pub takes_nothing : asked_types m back [] ≡ Some results
