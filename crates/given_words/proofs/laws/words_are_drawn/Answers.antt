use Rattle.given_words.proofs.WordsLemmas.{next_u32-words, next_u64-words, fill_bytes-words, left_after_bytes}
use Rattle.given_words.proofs.laws.words_are_drawn.Goals as goal

pub returns : goal.returns
returns c = record { u32 = next_u32-words; u64 = next_u64-words; bytes = fill_bytes-words; left = left_after_bytes }
