-- When two states, and two runs, are the same apart from the globals behind the module's, where those that a term asks for stand; and outcomes of given
-- types (this project).
use Rattle.std.specs.Prelude.{◌≡◌, List, ◌++◌}
use Rattle.std.specs.List.{All}
use Rattle.wasm_types.specs.declared.types.PrimitiveTypeInfo.{PrimitiveTypeInfo}
use Rattle.wasm_execution.specs.Values.{Value, IsValue, types, Context, State, own_globals, HasTypes, Outcome, Ends, Traps, Stuck}

-- the state with further globals behind those that are there
abbrev pub with_globals : List Value → State → State
with_globals more s = record s { globals = s.globals ++ more }

-- equal but for requested globals
abbrev pub SameState : State → State → Type 0
SameState s t = (s.locals ≡ t.locals) × (own_globals s ≡ own_globals t) × (s.rest ≡ t.rest) × (s.world ≡ t.world)

-- both end, with equal values and states that are the same, or both trap for the same cause, with equal globals of the module and an equal
-- rest; a stuck run is never the
-- same as another, not even as a stuck one
abbrev pub SameOutcome : Outcome → Outcome → Type 0
SameOutcome (Ends vs s) (Ends us t) = (vs ≡ us) × SameState s t
SameOutcome (Traps c gs r) (Traps d hs q) = (c ≡ d) × (gs ≡ hs) × (r ≡ q)
SameOutcome o r = ⊥

-- It ends with values of these types, in a state of the context's types, or it traps with globals of their types; it is never stuck.
abbrev pub EndsTyped : Context → List PrimitiveTypeInfo → Outcome → Type 0
EndsTyped context list (Ends vs s) = (types vs ≡ list) × All IsValue vs × HasTypes context s
EndsTyped context list (Traps c gs r) = (types gs ≡ context.info.globals) × All IsValue gs
EndsTyped context list Stuck = ⊥
