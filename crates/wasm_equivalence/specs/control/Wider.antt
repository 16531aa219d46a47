-- A module with more globals: code that is typed in it, and worlds and runs that are the same but for what these hold (this project).
use Rattle.std.specs.Prelude.{◌≡◌, ℕ, List, ◌++◌, Some, ⊤}
use Rattle.std.specs.List.{All}
use Rattle.wasm_code.specs.Instruction.{Instruction}
use Rattle.wasm_types.specs.Module.{Module}
use Rattle.wasm_types.specs.declared.types.PrimitiveTypeInfo.{PrimitiveTypeInfo}
use Rattle.wasm_execution.specs.Values.{asked_types, Value, IsValue, types, Context, Answer, Gives, Fails, World, State, HasTypes, Outcome, Ends, Traps, Stuck}
use Rattle.wasm_equivalence.specs.control.Function.{Label, Reached, At, Done, Control}

-- the module with further globals, whatever its bytes then are
abbrev pub wider_module : (input : List ℕ) → (more : List PrimitiveTypeInfo) → Module → Module
wider_module input more m = record m { input = input; globals = m.globals ++ more }

-- a function's context in that module; the locals are the same
abbrev pub wider : (input : List ℕ) → (more : List PrimitiveTypeInfo) → Context → Context
wider input more context = record { info = wider_module input more context.info; locals = context.locals }

-- the state in that world with these values, and the rest
abbrev pub state_of : World → (locals globals : List Value) → (rest : ℕ) → State
state_of w ls gs r = record { locals = ls; globals = gs; rest = r; world = w }

-- the second list begins with the first
abbrev pub Begins : List Value → List Value → Type 0
Begins gs hs = (more : List Value) × (hs ≡ gs ++ more)

-- ---- worlds that answer alike

-- Equal values and an equal rest, or an equal rest after a trap of the same cause, which also tells a call that hasn't ended; the second module's globals
-- begin with the first one's.
abbrev pub IsMore : Answer → Answer → Type 0
IsMore (Gives vs gs r) (Gives us hs q) = (us ≡ vs) × Begins gs hs × (q ≡ r)
IsMore (Fails cause gs r) (Fails why hs q) = (why ≡ cause) × Begins gs hs × (q ≡ r)
IsMore a b = ⊥

-- The second is a world of the module with these globals more: on typed operands and globals it answers as the first, whatever these hold, and traps
-- where the first does.
pub record IsMoreWorld (input : List ℕ) (more : List PrimitiveTypeInfo) (w v : World) : Type 0 where
  pub info_is : v.info ≡ wider_module input more w.info
  pub answers : (i : Instruction) (results : List PrimitiveTypeInfo) (operands globals behind : List Value) (rest : ℕ) →
      asked_types w.info i (types operands) ≡ Some results → All IsValue operands → types globals ≡ w.info.globals → All IsValue globals →
      types behind ≡ more → All IsValue behind → IsMore (w.answer i operands globals rest) (v.answer i operands (globals ++ behind) rest)

-- ---- worlds in which what stands behind is the same too

-- The second answer is the first with these globals behind, also after a trap, which has the same cause.
abbrev pub IsWiderAnswer : (after : List Value) → Answer → Answer → Type 0
IsWiderAnswer after (Gives vs gs r) (Gives us hs q) = (us ≡ vs) × (hs ≡ gs ++ after) × (q ≡ r)
IsWiderAnswer after (Fails cause gs r) (Fails why hs q) = (why ≡ cause) × (hs ≡ gs ++ after) × (q ≡ r)
IsWiderAnswer after a b = ⊥

-- The second is the first world where the globals behind the module's are the module's: on typed operands and globals it answers as the first, with
-- what becomes of these behind.
pub record IsWiderWorld (input : List ℕ) (more : List PrimitiveTypeInfo) (w v : World) : Type 0 where
  pub info_is : v.info ≡ wider_module input more w.info
  pub answers : (i : Instruction) (results : List PrimitiveTypeInfo) (operands globals behind : List Value) (rest : ℕ) →
      asked_types w.info i (types operands) ≡ Some results → All IsValue operands → types globals ≡ w.info.globals → All IsValue globals →
      types behind ≡ more → All IsValue behind →
      IsWiderAnswer (w.others i operands globals rest behind) (w.answer i operands globals rest) (v.answer i operands (globals ++ behind) rest)

-- the same run in both worlds
abbrev pub IsWiderOutcome : (w v : World) → Outcome → Outcome → Type 0
IsWiderOutcome w v (Ends vs s) (Ends us t) = (us ≡ vs) × (t ≡ record s { world = v }) × (s.world ≡ w)
IsWiderOutcome w v (Traps cause gs r) (Traps why hs q) = (why ≡ cause) × Begins gs hs × (q ≡ r)
IsWiderOutcome w v Stuck Stuck = ⊤
IsWiderOutcome w v o q = ⊥

-- the same place, labels and stack, each in its own world, or the same outcome
abbrev pub IsWiderReached : (w v : World) → Reached → Reached → Type 0
IsWiderReached w v (At k labels stack s) (At j others values t) =
    (j ≡ k) × (others ≡ labels) × (values ≡ stack) × (t ≡ record s { world = v }) × (s.world ≡ w)
IsWiderReached w v (Done o) (Done q) = IsWiderOutcome w v o q
IsWiderReached w v p q = ⊥

-- The second control does in the wider module what the first does.
abbrev pub IsWiderControl : (input : List ℕ) → (more : List PrimitiveTypeInfo) → Context → Control → Control → Type 0
IsWiderControl input more context control other =
    (w v : World) → IsWiderWorld input more w v → w.info ≡ context.info → (k : ℕ) (labels : List Label) (stack ls gs : List Value) (r : ℕ) →
    All IsValue stack → HasTypes (wider input more context) (state_of v ls gs r) →
    IsWiderReached w v (control k labels stack (state_of w ls gs r)) (other k labels stack (state_of v ls gs r))
