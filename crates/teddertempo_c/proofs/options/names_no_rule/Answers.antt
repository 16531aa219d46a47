-- A bit is set that is no rule's, or none is.
use Rattle.std.proofs.Common.{◌≡◌, ◌*◌, ◌<◌, ◌≤◌, ℕ, false, true, length, sym, ap, ◌∙◌, refl, arith}
use Rattle.rewrite_rules.specs.Names.{names}
use Rattle.teddertempo_c.specs.Options.{has_bit}
use Rattle.teddertempo_c.proofs.options.names_no_rule.Goals as goal

pub returns-then-has_bit : goal.returns-then-has_bit
returns-then-has_bit c =
    let number = c.loop-number.number in
    let low : length names ≤ number = omega (arith, c.loop-number.auto.number, c.rule_count-number.ensures) in
    let inside : number < 64 * length c.args.words.now = omega (arith, c.told-words, c.loop-number-test.true) in
    let is = ap (λ (word : ℕ). has_bit word number) (sym c.word_of.ensures) ∙ sym c.has_bit.ensures ∙ c.if-has_bit.true in
    ((λ yes. (number, low, inside, is)), (λ some. refl))

pub returns : goal.returns
returns c = (
  (λ never. absurd cc),
  (λ some.
      let before : some.0 < c.loop-number.number = let inside = some.2 in omega (arith, inside, c.told-words, c.loop-number-test.false) in
      let e : false ≡ true = sym (c.loop-number.invariant some.0 some.1 before) ∙ some.3 in absurd cc),
)
