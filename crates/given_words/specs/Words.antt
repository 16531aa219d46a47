-- What is drawn from given words (this project). A state is the list of the words that are left.
use Rattle.std.specs.Prelude.{ℕ, List, [], ◌∷◌}
use Rattle.rand_core.specs.Stream.{Stream}
use Rattle.rand_core.specs.Steps.{Steps, steps_u64_low, stream_of}

-- the next word and the words after it; past the last word come zeros
abbrev pub word_step : List ℕ → ℕ × List ℕ
word_step [] = (0, [])
word_step (word ∷ rest) = (word, rest)

-- 64 bits are a word, 32 bits the low half of one, and each eight bytes, or the part of eight that is left, the low bytes of one, the lowest first
abbrev pub word_steps : Steps (List ℕ)
word_steps = steps_u64_low word_step

-- all that is drawn from these words from now on
abbrev pub word_stream : List ℕ → Stream
word_stream = stream_of word_steps
