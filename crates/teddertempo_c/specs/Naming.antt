-- What is written of a name (this project).
use Rattle.std.specs.Prelude.{◌≡◌, ℕ, List, ◌++◌, length, map, take, drop, slice_get, MatchOption}
use Rattle.rewrite_rules.specs.Names.{names}
use Rattle.body_changes.specs.Change.{change_name}
use Rattle.body_changes.specs.declared.change.TheConstants.{CHANGES}

-- The room holds as much of the name as fits, and behind it what it held.
pub record HoldsName (name old : List ℕ) (result : ℕ) (new : List ℕ) : Type 0 where
  pub size : result ≡ length name
  pub is : new ≡ take (length old) name ++ drop (length name) old

-- nothing is written
pub record HoldsNone (old : List ℕ) (result : ℕ) (new : List ℕ) : Type 0 where
  pub size : result ≡ 0
  pub is : new ≡ old

-- That one of the names is written which has the number; nothing, where there is none.
abbrev pub WritesName : (names : List (List ℕ)) → (number : ℕ) → (old : List ℕ) → (result : ℕ) → (new : List ℕ) → Type 0
WritesName names number old result new = MatchOption (slice_get names number) (HoldsNone old result new) (λ name. HoldsName name old result new)

-- so that of a rule
abbrev pub WritesRuleName : (rule : ℕ) → (old : List ℕ) → (result : ℕ) → (new : List ℕ) → Type 0
WritesRuleName rule old result new = WritesName names rule old result new

-- and that of a change
abbrev pub WritesChangeName : (change : ℕ) → (old : List ℕ) → (result : ℕ) → (new : List ℕ) → Type 0
WritesChangeName change old result new = WritesName (map change_name CHANGES) change old result new
