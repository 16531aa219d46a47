-- The stack machine: what a row does with its operands, and the run of a list of instructions; the top of a stack is its last value
-- (WebAssembly Core Specification 3.0, Execution, Instructions: numeric, parametric and variable instructions; the others do as the state's world says).
use Rattle.std.specs.Prelude.{ℕ, ◌-◌, ◌==◌, Bool, if◌then◌else◌, List, [], ◌∷◌, ◌++◌, length, map, take, drop, Option, Some, None, is_some, get_or}
use Rattle.wasm_code.specs.Instruction.{Instruction}
use Rattle.wasm_types.specs.Module.{Module}
use Rattle.wasm_execution.specs.Values.{IntegerType, asked_types, Value, whole, types, Context, Cause, divide_by_zero, overflow, Answer}
use Rattle.wasm_execution.specs.Values.{Gives, Fails, State, own_globals, further_globals, read, write, Outcome, Ends, Traps, Stuck}
use Rattle.wasm_execution.specs.Values.{then_run, above}
use Rattle.wasm_execution.specs.Integer.{IntegerOperator}
use Rattle.wasm_execution.specs.IntegerRow.{IntegerRow, constant, operation, get, set, tee, discard, select, nop, other, operand_count, row_types, integer_row}

-- why a division traps: its divisor, the second operand, is 0, or else the quotient is too large
abbrev pub division_trap_cause : List ℕ → Cause
division_trap_cause ns = if get_or ns 1 0 == 0 then divide_by_zero else overflow

-- a number, or a trap for the cause
abbrev pub number_or_trap : IntegerType → Option ℕ → Cause → State → Outcome
number_or_trap t (Some n) cause s = Ends (whole t n ∷ []) s
number_or_trap t None cause s = Traps cause (own_globals s) s.rest

-- what an operator does with numbers
abbrev pub applied_to_numbers : IntegerOperator → List ℕ → State → Outcome
applied_to_numbers f ns s = number_or_trap f.result (f.value ns) (division_trap_cause ns) s

-- the value of a variable; stuck where there is no such variable
abbrev pub read_of : Option Value → State → Outcome
read_of (Some v) s = Ends (v ∷ []) s
read_of None s = Stuck

-- the module's globals are those of the answer, and these others stand behind them
abbrev pub answered : Answer → (others : List Value) → State → Outcome
answered (Gives vs globals rest) others s = Ends vs (record s { globals = globals ++ others; rest = rest })
answered (Fails cause globals rest) others s = Traps cause globals rest

-- what the world does, asked for the instruction
abbrev pub asked : Instruction → List Value → State → Outcome
asked i vs s = answered (s.world.answer i vs (own_globals s) s.rest) (s.world.others i vs (own_globals s) s.rest (further_globals s)) s

-- what a row does with operands of its types
abbrev pub effect : IntegerRow → List Value → State → Outcome
effect (constant t n) vs s = Ends (whole t n ∷ []) s
effect (operation f) vs s = applied_to_numbers f (map (λ v. v.number) vs) s
effect (get x) vs s = read_of (read x s) s
effect (set x) (v ∷ vs) s = Ends [] (write x v s)
effect (tee x) (v ∷ vs) s = Ends (v ∷ []) (write x v s)
effect discard vs s = Ends [] s
effect select (v ∷ u ∷ c ∷ vs) s = Ends ((if c.number == 0 then u else v) ∷ []) s
effect nop vs s = Ends [] s
effect (other i) vs s = asked i vs s
effect row vs s = Stuck

-- the outcome where the operands are of the right types; else the run is stuck
abbrev pub only_if : Bool → Outcome → Outcome
only_if b o = if b then o else Stuck

-- what the world does on operands of the types that it is asked with in the module, as of a foreign function; stuck on others
abbrev pub ask : Module → Instruction → List Value → State → Outcome
ask info i vs s = only_if (is_some (asked_types info i (types vs))) (asked i vs s)

-- the module and the variables' types, as the state has them
abbrev pub state_context : State → Context
state_context s = record { info = record s.world.info { globals = types s.globals }; locals = types s.locals }

-- what a row does with its operands: it is stuck where they are not of its types
abbrev pub act : IntegerRow → List Value → State → Outcome
act row vs s = only_if (is_some (row_types (state_context s) row (types vs))) (effect row vs s)

-- the row takes its operands from the top, and leaves what it gives there
abbrev pub step : IntegerRow → List Value → State → Outcome
step row stack s =
    let below = length stack - operand_count s.world.info row in
    above (take below stack) (act row (drop below stack) s)

-- instructions one after another, up to the first that traps or is stuck; a run of none leaves all as it is
abbrev pub run : List Instruction → List Value → State → Outcome
run [] stack s = Ends stack s
run (i ∷ code) stack s = then_run (step (integer_row i) stack s) (run code)
