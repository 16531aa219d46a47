-- By the constants, the types and the order.
use Rattle.std.proofs.Common.{ap, ap₂, ◌∙◌}
use Rattle.std.specs.Prelude.{◌&&◌}
use Rattle.rewrite_rules.specs.Holes.{holes_for}
use Rattle.rewrite_rules.specs.Order.{doing_of, may_move}
use Rattle.rewrite_rules.proofs.ApplyingLemmas.{told}
use Rattle.rewrite_rules.proofs.standing.TableRow.applies.Goals as goal

pub returns : goal.returns
returns c =
    let found = c.args.found.now in
    let moves = c.may_move-moves.ensures
    ∙ ap₂ (λ ls rs. may_move (doing_of found.effects.now) ls rs) c.deref.ensures.0 c.deref-2.ensures.0 in
    told c.types_are_told.ensures c.holes_are_told.ensures c.args.self.now c.args.width found.types.now found.effects.now found.exact
    found.numbers.now c.requires
    c.holes_of-left.result.items c.holes_of-right.result.items (c.holes_of-left.ensures ∙ ap holes_for c.left.ensures)
    (c.holes_of-right.ensures ∙ ap holes_for c.right.ensures) c.all_four.result
    (c.all_four.ensures ∙ ap₂ (λ a b. a && b) c.is_ready-ready.ensures
    (ap₂ (λ a b. a && b) c.is_asked-asked.ensures (ap₂ (λ a b. a && b) c.types_fit-fit.ensures moves)))
