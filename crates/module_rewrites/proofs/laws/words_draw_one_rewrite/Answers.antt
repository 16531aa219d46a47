use Rattle.module_rewrites.proofs.StandAgainLemmas.{OneReading}
use Rattle.module_rewrites.proofs.EntryWordsLemmas.{draws_one}
use Rattle.module_rewrites.proofs.laws.words_draw_one_rewrite.Goals as goal

pub returns : goal.returns
returns c =
    let one : OneReading = record { locals = c.one_list.ensures.locals; operators = c.one_list-2.ensures } in
    draws_one one c.words_choose_one_rewrite.ensures
