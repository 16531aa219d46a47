-- The run of a function: from each of its structural operators a control says with which piece of instructions the run goes on
-- (WebAssembly Core Specification 3.0, Execution, Instructions, Control Instructions; pieces, and the control as any function: this project).
use Rattle.std.specs.Prelude.{◌≡◌, ◌≢◌, ℕ, zero, suc, ◌==◌, Bool, false, if◌then◌else◌, List, [], ◌∷◌, ◌++◌, length, map, ⊤}
use Rattle.std.specs.List.{All}
use Rattle.wasm_code.specs.Instruction.{Instruction}
use Rattle.wasm_code.specs.declared.operator.Operator.{Operator}
use Rattle.wasm_code.specs.declared.operator.Operator.TheVariants.{Instr}
use Rattle.wasm_types.specs.declared.types.PrimitiveTypeInfo.{PrimitiveTypeInfo}
use Rattle.wasm_execution.specs.Values.{Value, IsValue, types, Context, World, State, HasTypes, Outcome, Ends, Traps, Stuck}
use Rattle.wasm_execution.specs.Machine.{run}
use Rattle.wasm_execution.specs.Agreement.{with_globals}
use Rattle.wasm_execution.specs.StateLemmas.{with_more, Follows}

-- ---- pieces

-- the operators with one more before them, unless that is an instruction of the table
abbrev pub and_structural : Operator → List Operator → List Operator
and_structural (Instr i) later = later
and_structural o later = o ∷ later

-- the structural operators of a body: those that are no instructions of the table, such as blocks, branches and ends
abbrev pub structural : List Operator → List Operator
structural [] = []
structural (o ∷ os) = and_structural o (structural os)

-- an instruction stands in the first piece; a structural operator ends it
abbrev pub cut : Operator → (ℕ → List Instruction) → ℕ → List Instruction
cut (Instr i) later zero = i ∷ later zero
cut (Instr i) later (suc k) = later (suc k)
cut o later zero = []
cut o later (suc k) = later k

-- the instructions between the structural operators, the k-th piece before the k-th of these
abbrev pub piece : List Operator → ℕ → List Instruction
piece [] k = []
piece (o ∷ os) k = cut o (piece os) k

-- ---- runs

-- an open label: the number of the structural operator that opened it, and the height of the stack below
pub record Label : Type 0 where
  pub opener : ℕ
  pub height : ℕ

-- where a run stands: before a piece, with the open labels, the innermost first, a stack and a state; or it is done, since the function is left with
-- values, or has trapped, or is stuck
pub data Reached : Type 0 where
  At : (piece : ℕ) → (labels : List Label) → (stack : List Value) → State → Reached
  Done : Outcome → Reached

-- What a body's structural operators do, the k-th of them with the labels, the stack and the state that it finds.
abbrev pub Control : Type 0
Control = (k : ℕ) (labels : List Label) (stack : List Value) (s : State) → Reached

-- where a run ends, what follows it; a trap and a stuck run leave the function
abbrev pub go_on : (List Value → State → Reached) → Outcome → Reached
go_on next (Ends vs s) = next vs s
go_on next (Traps cause globals rest) = Done (Traps cause globals rest)
go_on next Stuck = Done Stuck

-- a piece, and the structural operator behind it
abbrev pub pass : Control → List Operator → Reached → Reached
pass control body (At k labels stack s) = go_on (control k labels) (run (piece body k) stack s)
pass control body (Done o) = Done o

-- the run stands before the piece with that number
abbrev pub stands_at : Reached → ℕ → Bool
stands_at (At j labels stack s) k = j == k
stands_at (Done o) k = false

-- a run that stands before the piece with that number passes it
abbrev pub visit : Control → List Operator → (k : ℕ) → Reached → Reached
visit control body k p = if stands_at p k then pass control body p else p

-- The pieces in order, up to the one with that number: each that the run comes to is passed. So a jump forward goes on; after a jump back, the run comes
-- to no further piece.
abbrev pub visits : Control → List Operator → (last : ℕ) → Reached → Reached
visits control body zero p = visit control body 0 p
visits control body (suc k) p = visit control body (suc k) (visits control body k p)

-- once through the body
abbrev pub lap : Control → List Operator → Reached → Reached
lap control body p = visits control body (length (structural body)) p

-- the run of up to so many laps: the fuel is one, and one more for each jump back
abbrev pub runs : Control → List Operator → (fuel : ℕ) → Reached → Reached
runs control body zero p = p
runs control body (suc n) p = runs control body n (lap control body p)

-- the run of up to so many pieces, wherever they stand
abbrev pub passes : Control → List Operator → (count : ℕ) → Reached → Reached
passes control body zero p = p
passes control body (suc n) p = passes control body n (pass control body p)

-- ---- runs with further globals

-- with these behind the module's globals
abbrev pub reached_with : List Value → Reached → Reached
reached_with more (At k labels stack s) = At k labels stack (with_globals more s)
reached_with more (Done o) = Done (with_more more o)

-- The second is the first with further globals, of the types of those that are given.
abbrev pub FollowsReached : List Value → Reached → Reached → Type 0
FollowsReached more p q = (after : List Value) × (types after ≡ types more) × (q ≡ reached_with after p)

-- Both are done, the second with further globals, of the types of those that are given; or neither is, and the states are the same but for these.
abbrev pub FollowsEnd : List Value → Reached → Reached → Type 0
FollowsEnd more (At k labels stack s) (At j others values t) = (after : List Value) × (types after ≡ types more) × (t ≡ with_globals after s)
FollowsEnd more (Done o) (Done q) = Follows more o q
FollowsEnd more p q = ⊥

-- ---- typed runs

-- the module's globals alone, and of the context's types, also behind a trap
abbrev pub IsTyped : Context → Reached → Type 0
IsTyped context (At k labels stack s) = All IsValue stack × HasTypes context s
IsTyped context (Done (Ends vs s)) = All IsValue vs × HasTypes context s
IsTyped context (Done (Traps c gs r)) = (types gs ≡ context.info.globals) × All IsValue gs
IsTyped context (Done Stuck) = ⊤

-- what becomes of globals behind the module's
abbrev pub Others : Type 0
Others = Instruction → (operands globals : List Value) → (rest : ℕ) → List Value → List Value

-- they keep their types
abbrev pub OthersKeepTypes : Others → Type 0
OthersKeepTypes o = (i : Instruction) (operands globals : List Value) (rest : ℕ) (others : List Value) → types (o i operands globals rest others) ≡ types others

-- the same, where these become something else
abbrev pub world_by : Others → World → World
world_by o w = record w { others = o }

-- the state in the world where these become that
abbrev pub state_by : Others → State → State
state_by o s = record s { world = world_by o s.world }

-- the outcome whose state is in that world; a trap has none
abbrev pub outcome_in_world : Others → Outcome → Outcome
outcome_in_world o (Ends vs s) = Ends vs (state_by o s)
outcome_in_world o (Traps c gs r) = Traps c gs r
outcome_in_world o Stuck = Stuck

-- the same of where a run stands
abbrev pub reached_by : Others → Reached → Reached
reached_by o (At k labels stack s) = At k labels stack (state_by o s)
reached_by o (Done p) = Done (outcome_in_world o p)

-- It keeps the types; it does the same whatever stands behind the module's globals, unless it is stuck; and where nothing stands there, it doesn't ask
-- what would become of it.
pub record IsSoundControl (context : Context) (control : Control) : Type 0 where
  pub keeps : (k : ℕ) (labels : List Label) (stack : List Value) (s : State) →
      All IsValue stack → HasTypes context s → IsTyped context (control k labels stack s)
  pub follows : (k : ℕ) (labels : List Label) (stack more : List Value) (s : State) →
      All IsValue stack → HasTypes context s → control k labels stack s ≢ Done Stuck →
      FollowsReached more (control k labels stack s) (control k labels stack (with_globals more s))
  pub alone : (o : Others) (k : ℕ) (labels : List Label) (stack : List Value) (s : State) →
      OthersKeepTypes o → All IsValue stack → HasTypes context s → control k labels stack (state_by o s) ≡ reached_by o (control k labels stack s)

-- ---- rewritten pieces

-- Wherever the old code isn't stuck, the new code does the same and keeps the types of requested globals, whatever these hold: from every stack and
-- every state of the context's types. `requests` are the types of all globals that then stand behind the module's.
abbrev pub RunsAs : Context → (requests : List PrimitiveTypeInfo) → (old new : List Instruction) → Type 0
RunsAs context requests old new =
    (stack requested : List Value) (s : State) → All IsValue stack → HasTypes context s → types requested ≡ requests → run old stack s ≢ Stuck →
    Follows requested (run old stack s) (run new stack (with_globals requested s))

-- The bodies have the same structural operators, and each piece runs as the old one.
pub record RunsPieceByPiece (context : Context) (requests : List PrimitiveTypeInfo) (old new : List Operator) : Type 0 where
  pub structure : structural old ≡ structural new
  pub pieces : (k : ℕ) → RunsAs context requests (piece old k) (piece new k)

-- Each body under its control: from every state of the context's types, and with every fuel, the new one comes to the same end, unless the old one is stuck.
abbrev pub EndsAlike : Context → (requests : List PrimitiveTypeInfo) → (control other : Control) → (old new : List Operator) → Type 0
EndsAlike context requests control other old new =
    (fuel : ℕ) (requested : List Value) (s : State) → HasTypes context s → types requested ≡ requests → runs control old fuel (At 0 [] [] s) ≢ Done Stuck →
    FollowsEnd requested (runs control old fuel (At 0 [] [] s)) (runs other new fuel (At 0 [] [] (with_globals requested s)))

-- Instructions that lie together in a body are replaced by others, which run as they did.
pub record ReplacesCode (context : Context) (requests : List PrimitiveTypeInfo) (old new : List Operator) : Type 0 where
  pub front : List Operator
  pub back : List Operator
  pub own : List Instruction
  pub code : List Instruction
  pub old_is : old ≡ front ++ (map (λ (i : Instruction). Instr i) own ++ back)
  pub new_is : new ≡ front ++ (map (λ (i : Instruction). Instr i) code ++ back)
  pub runs : RunsAs context requests own code
