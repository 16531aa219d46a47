-- What holds of every run (this project).
use Rattle.std.specs.Prelude.{◌≡◌, ◌≢◌, ℕ, List, length, Some, IsSome, ⊤}
use Rattle.std.specs.List.{All}
use Rattle.wasm_code.specs.Instruction.{Instruction}
use Rattle.wasm_types.specs.Module.{Module}
use Rattle.wasm_types.specs.declared.types.PrimitiveTypeInfo.{PrimitiveTypeInfo}
use Rattle.wasm_execution.specs.Values.{Value, IsValue, types, Context, World, State, IsSound, IsExact, HasTypes, Outcome, Ends, Traps, Stuck, then_run}
use Rattle.wasm_execution.specs.IntegerRow.{IntegerRow, get, set, tee, other, variable_type, row_types, integer_row}
use Rattle.wasm_execution.specs.ResultColumn.{column_results}
use Rattle.wasm_execution.specs.Machine.{act, run}
use Rattle.wasm_execution.specs.Agreement.{with_globals, SameOutcome, EndsTyped}

-- Values, and a state of the context's types, where it ends; globals of their types, where it traps.
abbrev pub Keeps : Context → Outcome → Type 0
Keeps context (Ends vs s) = All IsValue vs × HasTypes context s
Keeps context (Traps c gs r) = (types gs ≡ context.info.globals) × All IsValue gs
Keeps context Stuck = ⊤

-- A row with operands of its types is never stuck, and keeps the context's types, also where it traps.
abbrev pub RowsEndTyped : Type 0
RowsEndTyped =
    (context : Context) (row : IntegerRow) (vs : List Value) (results : List PrimitiveTypeInfo) (s : State) → HasTypes context s →
    All IsValue vs → row_types context row (types vs) ≡ Some results → EndsTyped context results (act row vs s)

-- Two runs that are the same, the first of which has the module's globals alone, stay so when the same instructions follow both, unless these get stuck
-- behind the first.
abbrev pub StaysSame : Type 0
StaysSame =
    (context : Context) (code : List Instruction) (o r : Outcome) → Keeps context o →
    SameOutcome o r → then_run o (run code) ≢ Stuck → SameOutcome (then_run o (run code)) (then_run r (run code))

-- On operands of its types an instruction leaves what the result column of its row says.
abbrev pub TypesAreTheResultColumn : Type 0
TypesAreTheResultColumn =
    (context : Context) (i : Instruction) (ts list : List PrimitiveTypeInfo) →
    row_types context (integer_row i) ts ≡ Some list → column_results context i ts ≡ Some list

-- Every module has a sound world.
abbrev pub SoundWorldsExist : Type 0
SoundWorldsExist = (info : Module) → (w : World) × (w.info ≡ info) × IsSound w

-- And an exact one, whose first memory has as many bytes as are asked for.
abbrev pub ExactWorldsExist : Type 0
ExactWorldsExist =
    (info : Module) (size : ℕ) → (w : World) × (w.info ≡ info) × IsSound w × ((e : IsExact w) × ((rest : ℕ) → length (e.memories.bytes rest 0) ≡ size))

-- ---- code of a context's variables, and integer rows alone

-- its variable, where it names one, is one of the context
abbrev pub NamesIn : Context → IntegerRow → Type 0
NamesIn context (get x) = IsSome (variable_type context x)
NamesIn context (set x) = IsSome (variable_type context x)
NamesIn context (tee x) = IsSome (variable_type context x)
NamesIn context row = ⊤

-- Code that names the context's variables alone, and is not stuck with further globals behind the module's, is not stuck without them.
abbrev pub IsFreeAlone : Type 0
IsFreeAlone =
    (context : Context) (code : List Instruction) (stack more : List Value) (s : State) → HasTypes context s → All IsValue stack →
    All (λ i. NamesIn context (integer_row i)) code → run code stack (with_globals more s) ≢ Stuck → run code stack s ≢ Stuck

-- the machine says itself what the row does, and asks no world
abbrev pub IsIntegerRow : IntegerRow → Type 0
IsIntegerRow (other i) = ⊥
IsIntegerRow row = ⊤

-- the state, or the outcome, with that rest and that world
abbrev pub in_world : ℕ → World → State → State
in_world rest w s = record s { rest = rest; world = w }

-- so too a trap, whose globals stay, with that rest
abbrev pub ends_in_world : ℕ → World → Outcome → Outcome
ends_in_world rest w (Ends vs s) = Ends vs (in_world rest w s)
ends_in_world rest w (Traps c gs r) = Traps c gs rest
ends_in_world rest w Stuck = Stuck

-- Integer rows ask no world: in every world of the module, with every rest, they run the same, and leave both as they are.
abbrev pub AskNoWorld : Type 0
AskNoWorld =
    (code : List Instruction) (stack : List Value) (s : State) (rest : ℕ) (w : World) → w.info ≡ s.world.info →
    All (λ i. IsIntegerRow (integer_row i)) code → run code stack (in_world rest w s) ≡ ends_in_world rest w (run code stack s)
