use Rattle.std.proofs.Common.{ap, ◌∙◌, length, lit<}
use Rattle.std.specs.Prelude.{filter, not, ◌==◌}
use Rattle.std.proofs.lemmas.Iterator.Consumers.{YieldsList-at, YieldsList-end}
use Rattle.std.proofs.lemmas.Iterator.Splits.{YieldsList-from_str_split}
use Rattle.peephole_script.proofs.text.words_of.Goals as goal

-- at the end all parts were seen
pub returns : goal.returns
returns c =
    let seen = YieldsList-end
    (YieldsList-at c.into_iter-word-iterator.ensures.into_iter_gives (YieldsList-from_str_split 32 c.args.line.now (lit< tt) (cc) (cc) (cc)))
    c.loop-word.yielded _ c.loop-word.yielded_by _ _ c.in-None.is c.next.ensures.steps in
    c.loop-word.invariant ∙ ap (filter (λ word. not (length word == 0))) seen.0
