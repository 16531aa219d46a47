-- The rewrites of a body, as they are listed (this project).
use Rattle.std.specs.Prelude.{◌≡◌, ◌⊎◌, ◌==◌, ℕ, List, [], ◌∷◌, ◌++◌, Bool, true, false, if◌then◌else◌, map, Option, Some, None, Contains, slice_get}
use Rattle.std.specs.List.{filter}
use Rattle.wasm_code.specs.declared.operator.Operator.{Operator}
use Rattle.wasm_execution.specs.declared.integer.IntegerType.{IntegerType}
use Rattle.wasm_execution.specs.Values.{Context}
use Rattle.rewrite_rules.specs.declared.rule.Rule.{Rule}
use Rattle.rewrite_rules.specs.Names.{rule_of}
use Rattle.rewrite_rules.specs.Rule.{rule_number}
use Rattle.body_rewrites.specs.declared.found.Found.{Found}
use Rattle.body_rewrites.specs.declared.growth.Growth.{Growth}
use Rattle.body_rewrites.specs.declared.places.Line.{Line}
use Rattle.body_rewrites.specs.declared.rewrite.Rewrite.{Rewrite}
use Rattle.body_rewrites.specs.Changes.{Change}
use Rattle.body_rewrites.specs.Growth.{has_growth}
use Rattle.body_rewrites.specs.Rewrites.{Makes, IsMadeBy, IsMade, growth_of}

-- ---- those of some items

-- those of the items that have the property, in their order
abbrev pub AreThose : {A : Type 0} → (P : A → Type 0) → (items those : List A) → Type 0
AreThose P [] those = those ≡ []
AreThose {A} P (x ∷ xs) those = (P x × (rest : List A) × (those ≡ x ∷ rest) × AreThose P xs rest) ⊎ (¬ (P x) × AreThose P xs those)

-- ---- rewrites

-- the row is one of the rule's
abbrev pub IsOfRule : Rule → (row : ℕ) → Type 0
IsOfRule rule row = rule_of row ≡ Some (rule_number rule)

-- it is one of one of the rules
abbrev pub IsOfSome : List Rule → (row : ℕ) → Type 0
IsOfSome rules row = (rule : Rule) × Contains rules rule × IsOfRule rule row

-- the rewrite is by one of the rules, and makes something
abbrev pub IsBy : Context → List (Operator × ℕ) → List Rule → Rewrite → Type 0
IsBy context operators rules r = IsMade context operators r × IsOfSome rules r.row

-- It makes something, which does that to the number of operators.
pub record HasGrowth (context : Context) (operators : List (Operator × ℕ)) (growth : Growth) (r : Rewrite) : Type 0 where
  pub change : Change
  pub made : IsMadeBy context operators r change
  pub growth_is : growth_of operators r.operator change ≡ growth

-- The rewrite is by one of the rules, and makes something that does one of these to the number of operators.
pub record IsWantedBy (context : Context) (operators : List (Operator × ℕ)) (rules : List Rule) (wanted : List Growth) (r : Rewrite) : Type 0 where
  pub growth : Growth
  pub listed : Contains wanted growth
  pub has : HasGrowth context operators growth r
  pub of_rule : IsOfSome rules r.row

-- A line makes one thing at an operator at most.
abbrev pub OneChange : Type 0
OneChange =
    (context : Context) (operators : List (Operator × ℕ)) (line : Line) (at : ℕ) (change other : Change) →
    Makes context operators line at change → Makes context operators line at other → change ≡ other

-- ---- as code finds them (for private functions)

-- The line makes something at the operator, which does that to the number of operators.
pub record LineGrows (context : Context) (operators : List (Operator × ℕ)) (line : Line) (at : ℕ) (growth : Growth) : Type 0 where
  pub change : Change
  pub makes : Makes context operators line at change
  pub growth_is : growth_of operators at change ≡ growth

-- one width, and another one where there is one
abbrev pub widths_told : IntegerType → Option IntegerType → List IntegerType
widths_told one (Some other) = one ∷ other ∷ []
widths_told one None = one ∷ []

-- a rewrite with what it does to the number of operators
abbrev pub found_as : Rewrite → Growth → Found
found_as r growth = record { rewrite = r; growth = growth }

-- those of the rewrites that make something, each with what that does to the number of operators
abbrev pub AreFound : Context → List (Operator × ℕ) → (items : List Rewrite) → List Found → Type 0
AreFound context operators [] found = found ≡ []
AreFound context operators (r ∷ rs) found =
    ((growth : Growth) × HasGrowth context operators growth r × (rest : List Found) × (found ≡ found_as r growth ∷ rest) × AreFound context operators rs rest)
    ⊎ (¬ (IsMade context operators r) × AreFound context operators rs found)

-- The list has grown by those.
pub record AddsFound (context : Context) (operators : List (Operator × ℕ)) (items : List Rewrite) (old new : List Found) : Type 0 where
  pub more : List Found
  pub are : AreFound context operators items more
  pub new_is : new ≡ old ++ more

-- the rewrites of those that pass the test
abbrev pub passing : (Found → Bool) → List Found → List Rewrite
passing test found = map (λ (f : Found). f.rewrite) (filter test found)

-- for each row of the table the number of the rule that it is of
abbrev pub AreRules : List ℕ → Type 0
AreRules rows = (n : ℕ) → slice_get rows n ≡ rule_of n

-- whether a rule has the number
abbrev pub has_number : List Rule → ℕ → Bool
has_number [] n = false
has_number (rule ∷ rules) n = if rule_number rule == n then true else has_number rules n

abbrev pub has_some : List Rule → Option ℕ → Bool
has_some rules None = false
has_some rules (Some n) = has_number rules n

-- whether what is found is by one of the rules
abbrev pub is_by : (rows : List ℕ) → List Rule → Found → Bool
is_by rows rules found = has_some rules (slice_get rows found.rewrite.row)

-- whether what is found is by one of the rules, and does one of these
abbrev pub is_wanted : (rows : List ℕ) → List Rule → List Growth → Found → Bool
is_wanted rows rules wanted found = if has_growth wanted found.growth then is_by rows rules found else false
