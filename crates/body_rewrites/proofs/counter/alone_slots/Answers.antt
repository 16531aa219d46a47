-- The others have none.
use Rattle.std.proofs.Common.{◌++◌, sym, ap, ◌∙◌, arith, append-nil}
use Rattle.std.proofs.lemmas.List.{drop_all}
use Rattle.body_rewrites.specs.Asking.{all_asked}
use Rattle.body_rewrites.specs.Counting.{alone_slots}
use Rattle.body_rewrites.proofs.CandidateLemmas.{alone_alone}
use Rattle.body_rewrites.proofs.counter.alone_slots.Goals as goal

pub returns : goal.returns
returns c =
    let items = c.loop-i.list.items in
    let lines = c.args.lines.now in
    sym (alone_alone c.args.tree all_asked ∙ ap (alone_slots c.args.tree) (sym c.requires.lines) ∙ c.loop-i.invariant
    ∙ ap (λ zs. items ++ alone_slots c.args.tree zs) (drop_all c.loop-i.i lines (omega (arith, c.loop-i-test.false))) ∙ append-nil items)
