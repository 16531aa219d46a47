-- A rewritten module is valid where the old one was, and does what that did (this project).
use Rattle.std.specs.Prelude.{◌≡◌, Bool, ℕ, ◌+◌, List, [], ◌++◌, length, Option, Some, None, ⊤, slice_get, slice_range}
use Rattle.std.specs.List.{All}
use Rattle.wasm_code.specs.declared.operator.Operator.{Operator}
use Rattle.wasm_types.specs.Module.{Module}
use Rattle.wasm_types.specs.declared.types.PrimitiveTypeInfo.{PrimitiveTypeInfo}
use Rattle.wasm_lists.specs.declared.entries.Entry.{Entry}
use Rattle.wasm_module.specs.Instance.{Making, IsMadeOf, with_more_globals}
use Rattle.wasm_module.specs.Module.{Layout, IsModule}
use Rattle.wasm_module.specs.Reread.{HasContents}
use Rattle.wasm_execution.specs.Values.{Value, IsValue, types}
use Rattle.wasm_equivalence.specs.hosts.Embedder.{Embedder, IsSoundEmbedder, Functions, Beyonds, running, AreValid}
use Rattle.wasm_equivalence.specs.hosts.HostCode.{HostCode, run_code, IsTypedCode}
use Rattle.wasm_equivalence.specs.control.Function.{structural}
use Rattle.wasm_equivalence.specs.modules.Running.{DoesMore, world_of, Called, IsTypedCall, session, AreMore}
use Rattle.wasm_equivalence.specs.modules.Program.{Body, function_context}
use Rattle.wasm_equivalence.specs.validation.Sound.{IsValid}
use Rattle.wasm_equivalence.specs.control.Standard.{Beyond, by_asked}
use Rattle.wasm_equivalence.specs.control.Wider.{wider_module, wider, IsMore}
use Rattle.module_rewrites.specs.Function.{IsFunction, KnowsIndices, parameters_of}
use Rattle.module_rewrites.specs.ReadAgain.{HasFunction}
use Rattle.module_rewrites.specs.Structure.{HasAsking, AreLabelled}

-- ---- a module's functions

-- The body is that of the module's function with the index, among all functions.
pub record IsBodyOf (bytes : List ℕ) (info : Module) (layout : Layout) (f : ℕ) (b : Body) : Type 0 where
  pub n : ℕ
  pub index : f ≡ layout.imported_functions + n
  pub params : parameters_of info f ≡ Some b.params
  pub function : HasFunction bytes info layout n (b.params ++ b.locals) b.operators

-- The module has these bodies. Some of its functions may be left out, as those must be that can't be read: what they do is then the embedder's.
abbrev pub AreFunctions : (bytes : List ℕ) → Module → Layout → Functions → Type 0
AreFunctions bytes info layout functions = (f : ℕ) (b : Body) → functions f ≡ Some b → IsBodyOf bytes info layout f b

-- ---- what they do

-- The second function, of the module with globals more, has the first one's parameters and locals, and the standard's algorithm accepts it wherever it accepts
-- the first one, with whatever results, and whatever its operators don't carry.
pub record StaysFunction (m : Module) (input : List ℕ) (more : List PrimitiveTypeInfo) (old new : Body) : Type 0 where
  pub params_are : old.params ≡ new.params
  pub locals_are : old.locals ≡ new.locals
  pub valid : (results : List PrimitiveTypeInfo) (beyond : Beyond) →
      IsValid (function_context m old) results (by_asked (structural old.operators) beyond) old.operators →
      IsValid (wider input more (function_context m old)) results (by_asked (structural new.operators) beyond) new.operators

-- both modules have a body, the new one valid where the old one is, or neither has one
abbrev pub BothStay : Module → (input : List ℕ) → (more : List PrimitiveTypeInfo) → Option Body → Option Body → Type 0
BothStay m input more (Some old) (Some new) = StaysFunction m input more old new
BothStay m input more None None = ⊤
BothStay m input more old new = ⊥

-- The new functions, of the module with globals more, are those of the old one, each with its operators. Where the old ones are valid, so are they; and then
-- in every sound embedder each call with typed arguments, in typed globals, with every rest and whatever the further globals hold, is answered as in the
-- old module: alone, in sessions of calls one after another, also behind traps, and so that no harness tells the modules apart, which calls exports by what
-- it has been told so far.
pub record FunctionsDoAsBefore (m : Module) (input : List ℕ) (more : List PrimitiveTypeInfo) (old new : Functions) : Type 0 where
  pub same : (f : ℕ) → BothStay m input more (old f) (new f)
  pub valid : (beyonds : Beyonds) → AreValid m old beyonds → AreValid (wider_module input more m) new beyonds
  pub does : (e : Embedder) (beyonds : Beyonds) → IsSoundEmbedder m e → AreValid m old beyonds →
      DoesMore more (running m e old beyonds) (running (wider_module input more m) e new beyonds)
  pub sessions : (e : Embedder) (beyonds : Beyonds) → IsSoundEmbedder m e → AreValid m old beyonds →
      (fuel depth : ℕ) (calls : List Called) (globals behind : List Value) (rest : ℕ) → All (IsTypedCall m) calls → types globals ≡ m.globals →
      All IsValue globals → types behind ≡ more → All IsValue behind →
      AreMore (session (world_of (running m e old beyonds) fuel depth) calls globals rest)
      (session (world_of (running (wider_module input more m) e new beyonds) fuel depth) calls (globals ++ behind) rest)
  pub harnesses : (e : Embedder) (beyonds : Beyonds) → IsSoundEmbedder m e → AreValid m old beyonds →
      (fuel depth : ℕ) (results : List PrimitiveTypeInfo) (code : HostCode) (behind : List Value) → IsTypedCode m results code → types behind ≡ more →
      All IsValue behind → IsMore (run_code ((world_of (running m e old beyonds) fuel depth).answer) (length m.globals) code [])
      (run_code ((world_of (running (wider_module input more m) e new beyonds) fuel depth).answer) (length m.globals) code behind)

-- ---- the rewritten module

-- no body can be read in the entry
abbrev pub CannotRead : (bytes : List ℕ) → Module → Layout → (n : ℕ) → Type 0
CannotRead bytes info layout n =
    (locals : List PrimitiveTypeInfo) (expression : ℕ) (operators : List (Operator × ℕ)) → IsFunction bytes info layout n locals expression operators → ⊥

-- The new bytes are the module with globals more, whose functions do as those did. Operators that ask more than they carry have the bytes
-- that they had, so that
-- the labels of branches by a table that stand in the old bytes stand in the new ones; entries that can't be read contain what they
-- contained; and an instance of the new
-- module is made of what one of the old one is made of, with the further globals behind, which begin as zeros.
pub record IsModuleAfter (bytes : List ℕ) (info : Module) (layout : Layout) (old : Functions) (new : List ℕ) : Type 0 where
  pub more : List PrimitiveTypeInfo
  pub again : Layout
  pub is : IsModule new (wider_module new more info) again
  pub functions : Functions
  pub are : AreFunctions new (wider_module new more info) again functions
  pub after : FunctionsDoAsBefore info new more old functions
  pub imported : again.imported_functions ≡ layout.imported_functions
  pub indices : KnowsIndices again → KnowsIndices layout
  pub asking : (n : ℕ) (theirs : List (Operator × List ℕ)) → HasAsking new (wider_module new more info) again n theirs →
      HasAsking bytes info layout n theirs
  pub labels : (beyonds : Beyonds) → AreLabelled bytes info layout beyonds → AreLabelled new (wider_module new more info) again beyonds
  pub unread : (n : ℕ) (entry : Entry) → slice_get layout.entries n ≡ Some entry → CannotRead bytes info layout n →
      HasContents new again.entries n (slice_range bytes entry.contents entry.end)
  pub made : (making : Making) → IsMadeOf bytes layout.sections making → IsMadeOf new again.sections (with_more_globals more making)

-- Whichever functions are taken of the module that the first bytes are, the second bytes are a module with these, which do as before: in every sound
-- embedder, or where what runs the module is exact, in every one that is, which does on exact rows what the standard says.
pub record DoesAsBefore (exact : Bool) (bytes new : List ℕ) : Type 0 where
  pub functions : (info : Module) (layout : Layout) (old : Functions) → IsModule bytes info layout → info.exact ≡ exact →
      AreFunctions bytes info layout old → IsModuleAfter bytes info layout old new
