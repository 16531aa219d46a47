-- All rules, as a list.
use Rattle.std.proofs.Common.{◌≡◌, ◌<◌, ◌≤◌, ℕ, zero, suc, List, [], ◌∷◌, length, get_or, refl, sym, ap}
use Rattle.std.proofs.Common.{subst, ◌∙◌, arith, inl, inr}
use Rattle.std.proofs.Common.{length-append}
use Rattle.std.proofs.Props.{props}
use Rattle.std.proofs.Math.Nat.{le_refl, le_of_suc-le, lt-suc_self, lt_of_lt_of_le}
use Rattle.std.proofs.lemmas.Bool.{cases_lt}
use Rattle.std.proofs.lemmas.List.{same_lists, get_or_at, get_or_append_left}
use Rattle.std.proofs.lemmas.Option.{slice_get-get_or}
use Rattle.rewrite_rules.specs.Names.{names}
use Rattle.rewrite_rules.specs.Rule.{rule_number, AreAllRules}
use Rattle.rewrite_rules.specs.declared.rule.Rule.{Rule}
use Rattle.teddertempo_c.specs.Rules.{every_rule, rules_below}

-- the number alone makes the rule
same_parts : (n m : ℕ) (p : n < length names) (q : m < length names) → n ≡ m →
    ◌≡◌ {A = Rule} (record { number = n; is_there = p }) (record { number = m; is_there = q })
same_parts n m p q e =
    subst (λ k. (r : k < length names) → ◌≡◌ {A = Rule} (record { number = n; is_there = p }) (record { number = k; is_there = r })) e
    (λ r. ap (λ (s : n < length names). let made : Rule = record { number = n; is_there = s } in made) (alike p r)) q
  where
    alike : (s r : n < length names) → s ≡ r
    alike = hlevel props

same_rule : (rule other : Rule) → rule_number rule ≡ rule_number other → rule ≡ other
same_rule rule other e = same_parts rule.number other.number rule.is_there other.is_there e

-- ---- one for each number

length-rules_below : (n : ℕ) (within : n ≤ length names) → length (rules_below n within) ≡ n
length-rules_below zero within = refl
length-rules_below (suc n) within =
    let before = rules_below n (le_of_suc-le within) in
    let made : Rule = record { number = n; is_there = lt_of_lt_of_le (lt-suc_self n) within } in
    let long = length-rules_below n (le_of_suc-le within) in
    let both = length-append before (made ∷ []) in
    omega (arith, long, both)

number_below : (n : ℕ) (within : n ≤ length names) (k : ℕ) (d : Rule) → k < n → rule_number (get_or (rules_below n within) k d) ≡ k
number_below zero within k d l = absurd (omega arith)
number_below (suc n) within k d l =
    let before = rules_below n (le_of_suc-le within) in
    let made : Rule = record { number = n; is_there = lt_of_lt_of_le (lt-suc_self n) within } in
    let long = length-rules_below n (le_of_suc-le within) in
    elim (cases_lt k n) [
      | inl less ↦ ap rule_number (get_or_append_left before (made ∷ []) d k (omega (arith, long, less))) ∙ number_below n (le_of_suc-le within) k d less
      | inr more ↦ let same : k ≡ n = omega (arith, more, l) in ap rule_number (get_or_at before made [] d k (long ∙ sym same)) ∙ sym same
    ]

pub are_every_rule : (rules : List Rule) → AreAllRules rules → rules ≡ every_rule
unfolding every_rule
are_every_rule rules all =
    let few = le_refl (length names) in
    let those = rules_below (length names) few in
    let long = length-rules_below (length names) few in
    same_lists rules those (all.count ∙ sym long)
    (λ k d l. same_rule (get_or rules k d) (get_or those k d)
    (all.each k (get_or rules k d) (slice_get-get_or rules k d l) ∙ sym (number_below (length names) few k d (omega (arith, all.count, l)))))
