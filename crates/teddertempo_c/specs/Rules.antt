-- All rules, as a list (this project).
use Rattle.std.specs.Prelude.{ℕ, zero, suc, ◌≤◌, List, [], ◌∷◌, ◌++◌, length}
use Rattle.std.proofs.Math.Nat.{le_refl, le_of_suc-le, lt-suc_self, lt_of_lt_of_le}
use Rattle.rewrite_rules.specs.Names.{names}
use Rattle.rewrite_rules.specs.declared.rule.Rule.{Rule}

-- those with the numbers below n, of which there are so many
abbrev pub rules_below : (n : ℕ) → n ≤ length names → List Rule
rules_below zero within = []
rules_below (suc n) within = rules_below n (le_of_suc-le within) ++ record { number = n; is_there = lt_of_lt_of_le (lt-suc_self n) within } ∷ []

-- all of them, by their numbers
unfoldable pub every_rule : List Rule
every_rule = rules_below (length names) (le_refl (length names))
