-- Modules by themselves, with all that they run in, and when one does what another does, with more globals (this project).
use Rattle.std.specs.Prelude.{◌≡◌, ℕ, List, [], ◌∷◌, ◌++◌, Some, ⊤}
use Rattle.std.specs.List.{All}
use Rattle.wasm_code.specs.Instruction.{Instruction}
use Rattle.wasm_types.specs.Module.{Module}
use Rattle.wasm_types.specs.declared.types.PrimitiveTypeInfo.{PrimitiveTypeInfo}
use Rattle.wasm_execution.specs.Values.{asked_types, Value, IsValue, types, Cause, unfinished, stuck, Answer, Gives, Fails, World, IsSound}
use Rattle.wasm_equivalence.specs.control.Function.{structural}
use Rattle.wasm_equivalence.specs.modules.Program.{Body, Program, Controls, Answering, world_with, world, function_context, AreSound}
use Rattle.wasm_equivalence.specs.modules.Program.{AreRewritten, Host, IsSoundHost}
use Rattle.wasm_equivalence.specs.control.Wider.{wider_module, IsMore, IsMoreWorld, IsWiderControl}

-- a module's functions, what their structural operators do, and the host, whose `info` is the module
pub record Running : Type 0 where
  pub host : Host
  pub controls : Controls
  pub program : Program

-- the world of its calls, up to a depth
abbrev pub world_of : Running → (fuel depth : ℕ) → World
world_of m fuel depth = world m.host m.controls fuel m.program depth

-- The second module, which has these globals more, answers as the first, whatever they hold: each in its own world, at every depth and fuel, on all typed
-- operands and globals.
abbrev pub DoesMore : (more : List PrimitiveTypeInfo) → Running → Running → Type 0
DoesMore more m n =
    (fuel depth : ℕ) (i : Instruction) (results : List PrimitiveTypeInfo) (operands globals behind : List Value) (rest : ℕ) →
    asked_types m.host.info i (types operands) ≡ Some results → All IsValue operands → types globals ≡ m.host.info.globals → All IsValue globals →
    types behind ≡ more → All IsValue behind →
    IsMore ((world_of m fuel depth).answer i operands globals rest) ((world_of n fuel depth).answer i operands (globals ++ behind) rest)

-- The second host does in the module with more globals what the first does, over calls of which that holds.
pub record IsWiderHost (input : List ℕ) (more : List PrimitiveTypeInfo) (host other : Host) : Type 0 where
  pub info_is : other.info ≡ wider_module input more host.info
  pub base_is : IsMoreWorld input more (world_with host.info host.base) (world_with other.info other.base)
  pub over_is : (a b : Answering) → IsSound (world_with host.info a) → IsSound (world_with other.info b) →
      IsMoreWorld input more (world_with host.info a) (world_with other.info b) →
      IsMoreWorld input more (world_with host.info (host.over a)) (world_with other.info (other.over b))

-- The host and the controls of the second module do in it what those of the first do, and its functions are sound there.
pub record IsWiderSetting (input : List ℕ) (more : List PrimitiveTypeInfo) (m n : Running) : Type 0 where
  pub host_is : IsWiderHost input more m.host n.host
  pub host_sound : IsSoundHost n.host
  pub controls_are : (f : ℕ) (c : Body) → n.program f ≡ Some c →
      IsWiderControl input more (function_context m.host.info c) (m.controls f (structural c.operators)) (n.controls f (structural c.operators))
  pub runs : AreSound n.host.info n.controls n.program

-- A module with rewritten functions, the requested globals among its own, does what the module did.
abbrev pub RewrittenModulesDoMore : Type 0
RewrittenModulesDoMore =
    (input : List ℕ) (more : List PrimitiveTypeInfo) (m n : Running) → IsSoundHost m.host →
    AreRewritten m.host.info more m.controls m.program n.program → IsWiderSetting input more m n → DoesMore more m n

-- One rewrite after another: the last module does what the first did.
abbrev pub RewritesFollowOneAnother : Type 0
RewritesFollowOneAnother =
    (input : List ℕ) (first second : List PrimitiveTypeInfo) (m n k : Running) → n.host.info ≡ wider_module input first m.host.info →
    DoesMore first m n → DoesMore second n k → DoesMore (first ++ second) m k

-- ---- calls one after another

-- an instruction, as the call of an export, and its operands
pub record Called : Type 0 where
  pub instruction : Instruction
  pub operands : List Value

-- the instruction takes operands of these types in the module, and they are values
abbrev pub IsTypedCall : Module → Called → Type 0
IsTypedCall info c =
    (results : List PrimitiveTypeInfo) × (asked_types info c.instruction (types c.operands) ≡ Some results) × All IsValue c.operands

-- after a trap calls go on; behind a call that hasn't ended, or was stuck, there are none
abbrev pub after_trap : Cause → (later : List Answer) → List Answer
after_trap unfinished later = []
after_trap stuck later = []
after_trap cause later = later

-- the answer, and those of the next calls, in the globals and the rest that it left
abbrev pub and_on : Answer → (List Value → ℕ → List Answer) → List Answer
and_on (Gives vs gs r) next = Gives vs gs r ∷ next gs r
and_on (Fails cause gs r) next = Fails cause gs r ∷ after_trap cause (next gs r)

-- what calls answer, each in the globals and the rest that the one before left, by its end or by its trap, up to the first that hasn't ended
abbrev pub session : World → List Called → (globals : List Value) → (rest : ℕ) → List Answer
session w [] gs r = []
session w (c ∷ cs) gs r = and_on (w.answer c.instruction c.operands gs r) (session w cs)

-- as many answers, each like the first module's
abbrev pub AreMore : List Answer → List Answer → Type 0
AreMore [] [] = ⊤
AreMore (a ∷ xs) (b ∷ ys) = IsMore a b × AreMore xs ys
AreMore xs ys = ⊥

-- Where one module does more than another, so it does in all sessions.
abbrev pub SessionsDoMore : Type 0
SessionsDoMore =
    (input : List ℕ) (more : List PrimitiveTypeInfo) (m n : Running) → n.host.info ≡ wider_module input more m.host.info → DoesMore more m n →
    (fuel depth : ℕ) → IsSound (world_of m fuel depth) → IsSound (world_of n fuel depth) →
    (calls : List Called) (globals behind : List Value) (rest : ℕ) → All (IsTypedCall m.host.info) calls → types globals ≡ m.host.info.globals →
    All IsValue globals → types behind ≡ more → All IsValue behind →
    AreMore (session (world_of m fuel depth) calls globals rest) (session (world_of n fuel depth) calls (globals ++ behind) rest)

-- The worlds of modules whose functions are sound are sound.
abbrev pub RunningIsSound : Type 0
RunningIsSound =
    (m : Running) → IsSoundHost m.host → AreSound m.host.info m.controls m.program → (fuel depth : ℕ) → IsSound (world_of m fuel depth)
