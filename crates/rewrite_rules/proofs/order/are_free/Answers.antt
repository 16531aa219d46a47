-- All are free.
use Rattle.std.proofs.Common.{ap, sym, true, ◌∙◌, arith}
use Rattle.std.proofs.lemmas.List.{drop_all}
use Rattle.rewrite_rules.specs.Order.{every, is_free, doing_of}
use Rattle.rewrite_rules.proofs.MovingLemmas.{free_where_each_is}
use Rattle.rewrite_rules.proofs.order.are_free.Goals as goal

pub returns : goal.returns
returns c =
    let may = doing_of c.args.effects.now in
    let left = c.args.left.now in
    let right = c.args.right.now in
    let each = c.loop-i.invariant ∙ ap (λ l. every (is_free may left right) l) (drop_all c.loop-i.i left (omega (arith, c.loop-i-test.false))) in
    c.at_most_one_traps.ensures ∙ sym (free_where_each_is may left right true each)
