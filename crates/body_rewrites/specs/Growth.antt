-- What a change does to the number of a body's operators (this project).
use Rattle.std.specs.Prelude.{◌≡◌, ℕ, ◌+◌, ◌-◌, ◌<◌, Bool, true, false, if◌then◌else◌, List, [], ◌∷◌, length}
use Rattle.wasm_code.specs.declared.operator.Operator.{Operator}
use Rattle.body_splices.specs.OwnBytes.{without_offsets}
use Rattle.body_splices.specs.Laws.{pieces_operators}
use Rattle.body_rewrites.specs.declared.growth.Growth.{Growth}
use Rattle.body_rewrites.specs.declared.growth.Growth.TheVariants.{Shrinks, Keeps, Grows}
use Rattle.body_rewrites.specs.Changes.{Change}

-- so it is with the number of new operators, beside that of old ones
abbrev pub IsGrowth : Growth → (new old : ℕ) → Type 0
IsGrowth Shrinks new old = new < old
IsGrowth Keeps new old = new ≡ old
IsGrowth Grows new old = old < new

-- so it is with the change of code that ends with the operator at `at`, whatever word is drawn
abbrev pub HasGrowth : List (Operator × ℕ) → (at : ℕ) → Change → Growth → Type 0
HasGrowth operators at change growth =
    (word : ℕ) → IsGrowth growth (length (pieces_operators (without_offsets operators) (change.pieces word))) (at + 1 - change.start)

-- ---- as code has it (for private functions)

-- whether it is the same thing that becomes of the number of operators
abbrev pub same_growth : Growth → Growth → Bool
same_growth Shrinks Shrinks = true
same_growth Keeps Keeps = true
same_growth Grows Grows = true
same_growth one other = false

-- whether it is one of these
abbrev pub has_growth : List Growth → Growth → Bool
has_growth [] kind = false
has_growth (one ∷ more) kind = if same_growth one kind then true else has_growth more kind
