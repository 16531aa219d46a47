-- By the parts of the conditional, and what stands before it.
use Rattle.std.proofs.Common.{◌-◌, ◌+◌, ◌≡◌, sym, subst, ◌∙◌, arith}
use Rattle.std.proofs.lemmas.Bool.{false≢true}
use Rattle.body_rewrites.specs.Own.{AreLeaves, IsChoice, IsReadBefore}
use Rattle.body_rewrites.proofs.OwnAloneLemmas.{one_leaves}
use Rattle.body_rewrites.proofs.FlowFindLemmas.{no_choice}
use Rattle.body_rewrites.proofs.own.if_to_select.find.Goals as goal

pub returns-in_default : goal.returns-in_default
returns-in_default c = λ context trees.
    no_choice context c.args.operators.now c.args.at (λ start h.
    let ends = h.ends in
    let same : h.place ≡ c.args.at - 4 = omega (arith, ends) in
    c.in_default.ensures.none context trees h.value
    (subst (λ n. AreLeaves context c.args.operators.now (n + 1) (n + 3) h.value) same h.leaves))

pub returns-then-not-is_choice : goal.returns-then-not-is_choice
returns-then-not-is_choice c = λ context trees.
    no_choice context c.args.operators.now c.args.at (λ start h.
    let ends = h.ends in
    let place = c.args.at - 4 in
    let same : h.place ≡ c.args.at - 4 = omega (arith, ends) in
    let value = one_leaves context c.args.operators.now (place + 1) (place + 3) h.value c.in-Some.value
    (subst (λ n. AreLeaves context c.args.operators.now (n + 1) (n + 3) h.value) same h.leaves) (c.in-Some.ensures.some context trees) in
    false≢true (sym c.if-not-is_choice.true
    ∙ c.is_choice.ensures.only (subst (λ v. IsChoice c.args.operators.now place v) value
    (subst (λ n. IsChoice c.args.operators.now n h.value) same h.choice))))

pub returns-in_default-read_before : goal.returns-in_default-read_before
returns-in_default-read_before c = λ context trees.
    no_choice context c.args.operators.now c.args.at (λ start h.
    let ends = h.ends in
    let same : h.place ≡ c.args.at - 4 = omega (arith, ends) in
    c.in_default-read_before.ensures.none context c.args.operators.now trees start
    (subst (λ n. IsReadBefore context c.args.operators.now start n) same h.read))

pub returns : goal.returns
returns c = λ context trees. record {
  inside = c.if-at-operators-2.false;
  place = c.args.at - 4;
  ends = omega (arith, c.if-at-lt4.false);
  value = c.in-Some.value;
  leaves = c.in-Some.ensures.some context trees;
  choice = c.is_choice.ensures.same c.if-not-is_choice.false;
  read = c.in-Some-read_before.ensures.some context c.args.operators.now trees;
}
