-- One word more.
use Rattle.std.proofs.Common.{◌∙◌, ap}
use Rattle.module_options.specs.Options.{spelled}
use Rattle.module_options.proofs.OptionsLemmas.{spelled_more}
use Rattle.module_options.proofs.words.spelled_words.Goals as goal

pub loop-word-preserved : goal.loop-word-preserved
loop-word-preserved g c =
    spelled_more g.S.AsStr.text c.args.words.now c.loop-word.word-index _ c.word-item.result c.loop-word.list.items c.push.new.self.items
    c.spelled.result c.loop-word-test.true c.word-item.is c.loop-word.invariant (c.spelled.ensures ∙ ap spelled c.as_str.ensures)
    c.in_ok-push.ensures.items
