-- A variable's number is at most its index, and the bits of a constant are at most 128.
use Rattle.body_changes.proofs.LeafLemmas.{words_small}
use Rattle.body_changes.proofs.laws.leaves_have_words.Goals as goal

pub returns : goal.returns
returns c = words_small
