use Rattle.body_rewrites.proofs.HasWordsLemmas.{never_without, words_of}
use Rattle.body_rewrites.proofs.laws.each_rewrite_has_words.Goals as goal

pub returns : goal.returns
returns c = let few = c.rows_are_few.ensures.rows in record { never_without = never_without few; listed = words_of few }
