-- Each rule has its name alone.
use Rattle.std.proofs.Common.{◌≡◌, ◌<◌, ℕ, [], Some, length, sym, ap, subst, ◌∙◌}
use Rattle.std.specs.Prelude.{slice_get}
use Rattle.std.proofs.Props.{props}
use Rattle.std.proofs.lemmas.Option.{slice_get-get_or, unwrap_or-slice_get}
use Rattle.rewrite_rules.specs.declared.rule.Rule.{Rule}
use Rattle.rewrite_rules.specs.Names.{names, NamesDiffer}
use Rattle.rewrite_rules.specs.Rule.{rule_number, rule_name, RulesAreNamed}

at_number : (rule : Rule) → slice_get names (rule_number rule) ≡ Some (rule_name rule)
at_number rule = slice_get-get_or names rule.number [] rule.is_there ∙ ap (λ t. Some t) (sym (unwrap_or-slice_get names rule.number []))

-- the number alone makes the rule
same_rule : (n m : ℕ) (p : n < length names) (q : m < length names) → n ≡ m →
    ◌≡◌ {A = Rule} (record { number = n; is_there = p }) (record { number = m; is_there = q })
same_rule n m p q e =
    subst (λ k. (r : k < length names) → ◌≡◌ {A = Rule} (record { number = n; is_there = p }) (record { number = k; is_there = r })) e
    (λ r. ap (λ (s : n < length names). let made : Rule = record { number = n; is_there = s } in made) (alike p r)) q
  where
    alike : (s r : n < length names) → s ≡ r
    alike = hlevel props

pub rules_are_named : NamesDiffer → RulesAreNamed
rules_are_named differ = record {
  below = λ rule. rule.is_there;
  named = at_number;
  apart = λ rule other e.
      same_rule rule.number other.number rule.is_there other.is_there
      (differ rule.number other.number (rule_name rule) (at_number rule) (at_number other ∙ ap (λ t. Some t) (sym e)));
}
