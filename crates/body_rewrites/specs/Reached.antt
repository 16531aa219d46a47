-- Which operators of a body rules reach (this project).
use Rattle.std.specs.Prelude.{◌≡◌, ◌↔◌, ◌<◌, ℕ, Bool, true, false, if◌then◌else◌, List, [], ◌∷◌, length, Some, slice_get}
use Rattle.wasm_code.specs.declared.operator.Operator.{Operator}
use Rattle.wasm_execution.specs.Values.{Context}
use Rattle.rewrite_rules.specs.declared.rule.Rule.{Rule}
use Rattle.body_rewrites.specs.declared.found.Found.{Found}
use Rattle.body_rewrites.specs.declared.growth.Growth.{Growth}
use Rattle.body_rewrites.specs.declared.rewrite.Rewrite.{Rewrite}
use Rattle.body_rewrites.specs.Listing.{IsWantedBy, is_wanted}

-- Some rewrite of the operator there is by one of the rules, and does one of the wanted things to the number of operators.
pub record IsReached (context : Context) (operators : List (Operator × ℕ)) (rules : List Rule) (wanted : List Growth) (at : ℕ) : Type 0 where
  pub inside : at < length operators
  pub rewrite : Rewrite
  pub at_is : rewrite.operator ≡ at
  pub is_wanted : IsWantedBy context operators rules wanted rewrite

-- the operator there is marked
abbrev pub OperatorIsMarked : (marks : List Bool) → (at : ℕ) → Type 0
OperatorIsMarked marks at = slice_get marks at ≡ Some true

-- There are as many marks as `end`, and just those are set that stand for reached operators.
pub record AreReachedBelow (context : Context) (operators : List (Operator × ℕ)) (rules : List Rule) (wanted : List Growth) (end : ℕ)
    (marks : List Bool) : Type 0 where
  pub count : length marks ≡ end
  pub each : (at : ℕ) → at < end → OperatorIsMarked marks at ↔ IsReached context operators rules wanted at

-- There is a mark for each operator, and just those are set that stand for reached ones.
abbrev pub AreReached : Context → List (Operator × ℕ) → List Rule → List Growth → (marks : List Bool) → Type 0
AreReached context operators rules wanted marks = AreReachedBelow context operators rules wanted (length operators) marks

-- ---- as code finds them (for private functions)

-- whether one that is found is by one of the rules, and does one of the wanted things
abbrev pub has_wanted : (rows : List ℕ) → List Rule → List Growth → List Found → Bool
has_wanted rows rules wanted [] = false
has_wanted rows rules wanted (f ∷ fs) = if is_wanted rows rules wanted f then true else has_wanted rows rules wanted fs
