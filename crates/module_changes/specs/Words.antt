-- The words of a generator (this project).
use Rattle.std.specs.Prelude.{ℕ, zero, suc, List, [], ◌∷◌}
use Rattle.rand_core.specs.Stream.{Stream, next_u64}
use Rattle.body_rewrites.specs.Choice.{after_word}

-- its next words, so many
abbrev pub next_words_of : Stream → (count : ℕ) → List ℕ
next_words_of s zero = []
next_words_of s (suc n) = (next_u64 s).0 ∷ next_words_of (after_word s) n

-- what it gives behind them
abbrev pub after_words : Stream → (count : ℕ) → Stream
after_words s zero = s
after_words s (suc n) = after_words (after_word s) n
