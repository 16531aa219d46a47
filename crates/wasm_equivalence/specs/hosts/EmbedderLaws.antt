-- A module with rewritten functions does what the module did, in every embedder that is sound for it: this project's laws.
use Rattle.std.specs.Prelude.{◌≡◌, ℕ, List, [], ◌++◌, length, Some}
use Rattle.std.specs.List.{All}
use Rattle.wasm_code.specs.declared.operator.Operator.{Operator}
use Rattle.wasm_code.specs.Instruction.{Instruction}
use Rattle.wasm_types.specs.Module.{Module}
use Rattle.wasm_types.specs.declared.types.PrimitiveTypeInfo.{PrimitiveTypeInfo}
use Rattle.wasm_execution.specs.Values.{Value, IsValue, types, World, IsSound}
use Rattle.wasm_equivalence.specs.control.Function.{RunsPieceByPiece}
use Rattle.wasm_equivalence.specs.modules.Program.{Body, function_context}
use Rattle.wasm_equivalence.specs.validation.StaysValid.{StaysValid}
use Rattle.wasm_equivalence.specs.control.Wider.{wider_module, wider, IsMore}
use Rattle.wasm_equivalence.specs.modules.Running.{Running, DoesMore, world_of, Called, IsTypedCall, session, AreMore}
use Rattle.wasm_equivalence.specs.hosts.CallBack.{Backs, CallsBack, calling_back}
use Rattle.wasm_equivalence.specs.hosts.HostCode.{HostCode, run_code, IsTypedCode, Imports, IsImport, AreImports, hosting, catching, IsCatching}
use Rattle.wasm_equivalence.specs.hosts.Embedder.{Embedder, IsSoundEmbedder, leaving, Functions, Beyonds, running, AreValid, DoesAs}
use Rattle.wasm_equivalence.specs.hosts.Embedder.{DoAsFunctions, with_operators, with_function}

-- Every sound world makes an embedder that is sound at its module, so each module has one; where an embedder is sound, it is so behind every further
-- global; and so it is where imports call exports back, or run any code of the host's that is typed, as one that catches every trap of an export.
pub record EmbeddersAreSound : Type 0 where
  pub exist : (w : World) → IsSound w → IsSoundEmbedder w.info (leaving w)
  pub each : (m : Module) → (e : Embedder) × IsSoundEmbedder m e
  pub stay : (m : Module) (e : Embedder) (input : List ℕ) (more : List PrimitiveTypeInfo) → IsSoundEmbedder m e →
      IsSoundEmbedder (wider_module input more m) e
  pub back : (m : Module) (e : Embedder) (backs : Backs) → IsSoundEmbedder m e → CallsBack m backs → IsSoundEmbedder m (calling_back backs e)
  pub code : (m : Module) (e : Embedder) (imports : Imports) → IsSoundEmbedder m e → AreImports m imports → IsSoundEmbedder m (hosting m imports e)
  pub catches : (m : Module) (i back : Instruction) → IsCatching m i back → IsImport m i (catching back)

-- No harness tells a module from one that does more: code that calls exports, each time by what it has been told so far, also of traps, answers alike over
-- both.
abbrev pub HarnessesDoMore : Type 0
HarnessesDoMore =
    (input : List ℕ) (more : List PrimitiveTypeInfo) (m n : Running) → n.host.info ≡ wider_module input more m.host.info → DoesMore more m n →
    (fuel depth : ℕ) → IsSound (world_of m fuel depth) → IsSound (world_of n fuel depth) → (results : List PrimitiveTypeInfo) (code : HostCode)
    (behind : List Value) → IsTypedCode m.host.info results code → types behind ≡ more → All IsValue behind →
    IsMore (run_code ((world_of m fuel depth).answer) (length m.host.info.globals) code [])
    (run_code ((world_of n fuel depth).answer) (length m.host.info.globals) code behind)

-- Where a function runs piece by piece as another and stays valid, it does as that.
abbrev pub PiecesDo : Type 0
PiecesDo =
    (m : Module) (input : List ℕ) (more : List PrimitiveTypeInfo) (old new : Body) → old.params ≡ new.params → old.locals ≡ new.locals →
    RunsPieceByPiece (function_context m old) more old.operators new.operators →
    StaysValid (function_context m old) (wider input more (function_context m old)) old.operators new.operators → DoesAs m input more old new

-- Where one function is rewritten, the others do as themselves.
abbrev pub OneFunctionRewritten : Type 0
OneFunctionRewritten =
    (m : Module) (input : List ℕ) (more : List PrimitiveTypeInfo) (functions : Functions) (f : ℕ) (operators : List Operator) →
    ((b : Body) → functions f ≡ Some b → DoesAs m input more b (with_operators operators b)) →
    DoAsFunctions m input more functions (with_function functions f operators)

-- Where none is, all do as themselves.
abbrev pub FunctionsDoThemselves : Type 0
FunctionsDoThemselves =
    (m : Module) (input : List ℕ) (more : List PrimitiveTypeInfo) (functions : Functions) → DoAsFunctions m input more functions functions

-- The new functions are valid in the module with globals more.
abbrev pub ValidModulesStayValid : Type 0
ValidModulesStayValid =
    (m : Module) (input : List ℕ) (more : List PrimitiveTypeInfo) (beyonds : Beyonds) (old new : Functions) →
    AreValid m old beyonds → DoAsFunctions m input more old new → AreValid (wider_module input more m) new beyonds

-- The new module, by itself in the same embedder, does more than the old one: it answers every typed call as the old one does, whatever its further
-- globals hold.
abbrev pub ValidModulesDoMore : Type 0
ValidModulesDoMore =
    (m : Module) (input : List ℕ) (more : List PrimitiveTypeInfo) (e : Embedder) (beyonds : Beyonds) (old new : Functions) →
    IsSoundEmbedder m e → AreValid m old beyonds → DoAsFunctions m input more old new →
    DoesMore more (running m e old beyonds) (running (wider_module input more m) e new beyonds)

-- So it does in calls one after another.
abbrev pub ValidSessionsDoMore : Type 0
ValidSessionsDoMore =
    (m : Module) (input : List ℕ) (more : List PrimitiveTypeInfo) (e : Embedder) (beyonds : Beyonds) (old new : Functions) →
    IsSoundEmbedder m e → AreValid m old beyonds → DoAsFunctions m input more old new →
    (fuel depth : ℕ) (calls : List Called) (globals behind : List Value) (rest : ℕ) → All (IsTypedCall m) calls → types globals ≡ m.globals →
    All IsValue globals → types behind ≡ more → All IsValue behind →
    AreMore (session (world_of (running m e old beyonds) fuel depth) calls globals rest)
    (session (world_of (running (wider_module input more m) e new beyonds) fuel depth) calls (globals ++ behind) rest)

-- And no harness tells the old module from the new one.
abbrev pub ValidHarnessesDoMore : Type 0
ValidHarnessesDoMore =
    (m : Module) (input : List ℕ) (more : List PrimitiveTypeInfo) (e : Embedder) (beyonds : Beyonds) (old new : Functions) →
    IsSoundEmbedder m e → AreValid m old beyonds → DoAsFunctions m input more old new →
    (fuel depth : ℕ) (results : List PrimitiveTypeInfo) (code : HostCode) (behind : List Value) → IsTypedCode m results code → types behind ≡ more →
    All IsValue behind →
    IsMore (run_code ((world_of (running m e old beyonds) fuel depth).answer) (length m.globals) code [])
    (run_code ((world_of (running (wider_module input more m) e new beyonds) fuel depth).answer) (length m.globals) code behind)

-- The worlds of modules of valid functions, in sound embedders, are sound.
abbrev pub ValidModulesAreSound : Type 0
ValidModulesAreSound =
    (m : Module) (e : Embedder) (beyonds : Beyonds) (functions : Functions) → IsSoundEmbedder m e → AreValid m functions beyonds →
    (fuel depth : ℕ) → IsSound (world_of (running m e functions beyonds) fuel depth)
