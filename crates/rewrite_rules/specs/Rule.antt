-- The rules, each with its number and its name, and the rule of a name (this project).
use Rattle.std.specs.Prelude.{◌≡◌, ◌≢◌, ◌<◌, ℕ, List, [], length, slice_get, Some, Result, Ok, Err}
use Rattle.std.specs.Option.{unwrap_or}
use Rattle.rewrite_rules.specs.declared.rule.Rule.{Rule}
use Rattle.rewrite_rules.specs.declared.rule.UnknownRule.{UnknownRule}
use Rattle.rewrite_rules.specs.Names.{names}

-- its place among the names
abbrev pub rule_number : Rule → ℕ
rule_number rule = rule.number

-- the name there, as bytes
abbrev pub rule_name : Rule → List ℕ
rule_name rule = unwrap_or (slice_get names rule.number) []

-- The rule of that name, and a refusal where no rule has it.
abbrev pub ReadsAs : List ℕ → Result Rule UnknownRule → Type 0
ReadsAs text (Ok rule) = rule_name rule ≡ text
ReadsAs text (Err e) = (rule : Rule) → rule_name rule ≢ text

-- Each rule has the name that stands at its number, and no other rule has it.
pub record RulesAreNamed : Type 0 where
  pub below : (rule : Rule) → rule_number rule < length names
  pub named : (rule : Rule) → slice_get names (rule_number rule) ≡ Some (rule_name rule)
  pub apart : (rule other : Rule) → rule_name rule ≡ rule_name other → rule ≡ other

-- There is one for each name, by its number.
pub record AreAllRules (rules : List Rule) : Type 0 where
  pub count : length rules ≡ length names
  pub each : (n : ℕ) (rule : Rule) → slice_get rules n ≡ Some rule → rule_number rule ≡ n
