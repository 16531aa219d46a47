-- What operators don't carry, by their numbers among those that ask it: nothing is lost (this project).
use Rattle.std.specs.Prelude.{◌≡◌, ℕ, zero, suc, Bool, true, false, List, [], ◌∷◌}
use Rattle.wasm_code.specs.declared.operator.Operator.{Operator}
use Rattle.wasm_types.specs.Module.{Module}
use Rattle.wasm_types.specs.declared.types.PrimitiveTypeInfo.{PrimitiveTypeInfo}
use Rattle.wasm_execution.specs.Values.{Value, State}
use Rattle.wasm_equivalence.specs.control.Function.{Label}
use Rattle.wasm_equivalence.specs.control.Standard.{Beyond, standard, asks_beyond, by_asked}
use Rattle.wasm_equivalence.specs.validation.StandardSteps.{standard_steps}
use Rattle.wasm_equivalence.specs.validation.Algorithm.{Frame}

-- zero at the first such operator; one further otherwise
abbrev pub suc_unless : Bool → (j : ℕ) → (later : ℕ → ℕ) → ℕ
suc_unless true zero later = zero
suc_unless true (suc j) later = later j
suc_unless false j later = later j

-- the number, among all structural operators, of the j-th that asks what it doesn't carry; behind the last of these any
abbrev pub asking_place_of : List Operator → (j : ℕ) → ℕ
asking_place_of [] j = 0
asking_place_of (o ∷ os) j = suc_unless (asks_beyond o) j (λ i. suc (asking_place_of os i))

-- What the operators of a body don't carry, given by all their numbers, may be given by those among operators that ask it: the control and the steps of
-- validation are the same.
abbrev pub TablesLoseNothing : Type 0
TablesLoseNothing =
    (structure : List Operator) (beyond : Beyond) →
    (given : Beyond)
    × ((m : Module) (results : List PrimitiveTypeInfo) (k : ℕ) (labels : List Label) (stack : List Value) (s : State) →
    standard m results structure (by_asked structure given) k labels stack s ≡ standard m results structure beyond k labels stack s)
    × ((m : Module) (results : List PrimitiveTypeInfo) (k : ℕ) (frames : List Frame) →
    standard_steps m results structure (by_asked structure given) k frames ≡ standard_steps m results structure beyond k frames)
