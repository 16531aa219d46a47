-- Label by label.
use Rattle.std.proofs.Common.{sym, ap, subst, ◌∙◌, arith}
use Rattle.body_rewrites.specs.Blocks.{outer_at, IsOpenerOf}
use Rattle.body_rewrites.proofs.BlockLemmas.{one_around, opener_here, none_further}
use Rattle.body_rewrites.proofs.blocks.Blocks.opener_of.Goals as goal

pub loop-preserved : goal.loop-preserved
loop-preserved c operators are inside =
    one_around operators c.args.self.now are c.args.at c.loop.counter c.loop.place (c.loop.invariant operators are inside) c.in_ok-place.place
    (c.in_ok-place.ensures ∙ ap (λ l. outer_at l c.loop.place) c.deref.ensures.value)

pub returns-in_err-place : goal.returns-in_err-place
returns-in_err-place c operators are inside =
    subst (IsOpenerOf operators c.args.at c.args.label) (sym c.from_residual.ensures)
    (none_further operators c.args.self.now are c.args.at c.loop.counter c.loop.place (c.loop.invariant operators are inside)
    (c.in_err-place.ensures ∙ ap (λ l. outer_at l c.loop.place) c.deref.ensures.value) c.args.label (omega arith))

pub returns : goal.returns
returns c operators are inside =
    opener_here operators c.args.self.now are c.args.at c.loop.counter c.loop.place (c.loop.invariant operators are inside) c.args.label (omega arith)
    c.outer_at-2.result (c.outer_at-2.ensures ∙ ap (λ l. outer_at l c.loop.place) c.deref-2.ensures.value)
