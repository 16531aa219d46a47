-- The names of the rules, in the order of the table, and of which rule each of its rows is (this project).
use Rattle.std.specs.Prelude.{◌≡◌, ℕ, ◌+◌, ◌-◌, ◌<◌, List, [], ◌∷◌, length, map, take, Option, Some, None, option_map, slice_get}
use Rattle.std.specs.Option.{option_flatten}
use Rattle.rewrite_rules.specs.Table.{Text, Entry, entries, ROWS}

-- the name of the rule that begins with a line, where one does
abbrev pub name_in : Entry → Option (List ℕ)
name_in e = option_map (λ (t : Text). t.now) e.0

-- for each line
abbrev pub begins : List (Option (List ℕ))
begins = map name_in entries

abbrev pub begin_at : ℕ → Option (List ℕ)
begin_at n = option_flatten (slice_get begins n)

-- those that are there
abbrev pub given : List (Option (List ℕ)) → List (List ℕ)
given [] = []
given (Some name ∷ os) = name ∷ given os
given (None ∷ os) = given os

-- the names; a rule's number is its place among them
abbrev pub names : List (List ℕ)
names = given begins

-- the number of the rule that the row with the index is of: how many names stand there and before it, less one; none where there is no such row
abbrev pub rule_of : ℕ → Option ℕ
rule_of n = option_map (λ (name : Option (List ℕ)). length (given (take (n + 1) begins)) - 1) (slice_get begins n)

-- There are fewer rows, and rules, than numbers of 16 bits.
pub record AreFewRowsAndRules : Type 0 where
  pub rows : length ROWS < 65535
  pub names : length names < 65536

-- No two names are the same.
abbrev pub NamesDiffer : Type 0
NamesDiffer = (n m : ℕ) (name : List ℕ) → slice_get names n ≡ Some name → slice_get names m ≡ Some name → n ≡ m
