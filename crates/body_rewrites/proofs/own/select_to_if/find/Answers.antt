-- By the tree right before the select, and what stands before that.
use Rattle.std.proofs.Common.{◌-◌, ◌+◌, ◌≡◌, ◌∙◌, sym, subst, arith}
use Rattle.std.proofs.lemmas.Bool.{false≢true}
use Rattle.body_rewrites.specs.Own.{AreLeaves}
use Rattle.body_rewrites.proofs.OwnAloneLemmas.{one_read}
use Rattle.body_rewrites.proofs.FlowFindLemmas.{no_select}
use Rattle.body_rewrites.proofs.own.select_to_if.find.Goals as goal

pub returns-then-not-has_room : goal.returns-then-not-has_room
returns-then-not-has_room c = λ context trees blocks.
    no_select context c.args.operators.now c.args.at (λ start v condition room h.
    false≢true (sym c.if-not-has_room.true ∙ c.has_room.ensures.only c.args.operators.now blocks room))

pub returns-in_default : goal.returns-in_default
returns-in_default c = λ context trees blocks.
    no_select context c.args.operators.now c.args.at (λ start v condition room h. c.in_default.ensures.none context c.args.operators.now trees condition h.read)

pub returns-then-condition-lt2 : goal.returns-then-condition-lt2
returns-then-condition-lt2 c = λ context trees blocks.
    no_select context c.args.operators.now c.args.at (λ start v condition room h.
    let same = one_read context c.args.operators.now condition c.in-Some.condition c.args.at h.read
    (c.in-Some.ensures.some context c.args.operators.now trees) in
    let begins = h.condition_is in
    absurd (omega (arith, same, begins, c.if-condition-lt2.true)))

pub returns-in_default-leaves_at : goal.returns-in_default-leaves_at
returns-in_default-leaves_at c = λ context trees blocks.
    no_select context c.args.operators.now c.args.at (λ start v condition room h.
    let same = one_read context c.args.operators.now condition c.in-Some.condition c.args.at h.read
    (c.in-Some.ensures.some context c.args.operators.now trees) in
    let begins = h.condition_is in
    let first : start ≡ c.in-Some.condition - 2 = omega (arith, same, begins) in
    let second : start + 1 ≡ c.in-Some.condition - 1 = omega (arith, same, begins) in
    c.in_default-leaves_at.ensures.none context trees v
    (subst (λ n. AreLeaves context c.args.operators.now n (c.in-Some.condition - 1) v) first
    (subst (λ n. AreLeaves context c.args.operators.now start n v) second h.leaves)))

pub returns : goal.returns
returns c = λ context trees blocks.
    let second : c.in-Some.condition - 1 ≡ c.in-Some.condition - 2 + 1 = omega (arith, c.if-condition-lt2.false) in (
      c.has_room.ensures.same c.if-not-has_room.false c.args.operators.now blocks,
      record {
        condition_is = omega (arith, c.if-condition-lt2.false);
        leaves = subst (λ n. AreLeaves context c.args.operators.now (c.in-Some.condition - 2) n c.in-Some-leaves_at.value) second
            (c.in-Some-leaves_at.ensures.some context trees);
        read = c.in-Some.ensures.some context c.args.operators.now trees;
        selects = c.is_bare_at.ensures.0 c.if-not-is_bare_at.false;
      },
    )
