-- What each draw from given words gives, and the words that are left.
use Rattle.std.proofs.Common.{◌≡◌, ℕ, zero, suc, ◌+◌, ◌/◌, ◌%◌, ◌^◌, List, [], ◌∷◌, drop, w64, refl, ap, ◌∙◌}
use Rattle.std.specs.Int.{to_le_bytes}
use Rattle.rand_core.specs.Stream.{next_u32, next_u64, fill_bytes}
use Rattle.rand_core.specs.Steps.{word_bytes, fill_via_u64}
use Rattle.rand_core.proofs.StepsLemmas.{next_u32-stream_of, next_u64-stream_of, fill_bytes-stream_of}
use Rattle.given_words.specs.Words.{word_step, word_steps, word_stream}

-- 32 bits: the low half of the next word
pub next_u32-words : (words : List ℕ) → next_u32 (word_stream words) ≡ ((word_step words).0 % 2 ^ 32, word_stream (word_step words).1)
next_u32-words words = next_u32-stream_of word_steps words

-- 64 bits: the next word
pub next_u64-words : (words : List ℕ) → next_u64 (word_stream words) ≡ ((word_step words).0, word_stream (word_step words).1)
next_u64-words words = next_u64-stream_of word_steps words

-- bytes: those of the next words, as many as are needed
pub fill_bytes-words : (n : ℕ) (words : List ℕ) → fill_bytes n (word_stream words) ≡ (
  (fill_via_u64 word_step n words).0,
  word_stream (fill_via_u64 word_step n words).1,
)
fill_bytes-words n words = fill_bytes-stream_of word_steps n words

step_drop : (words : List ℕ) → (word_step words).1 ≡ drop 1 words
step_drop [] = refl
step_drop (word ∷ rest) = refl

drop_one_more : (k : ℕ) (words : List ℕ) → drop 1 (drop k words) ≡ drop (suc k) words
drop_one_more zero words = refl
drop_one_more (suc k) [] = refl
drop_one_more (suc k) (word ∷ rest) = drop_one_more k rest

left_after : (bytes : ℕ → List ℕ) (k : ℕ) (words : List ℕ) → (word_bytes bytes word_step k words).1 ≡ drop k words
unfolding word_bytes
left_after bytes zero words = refl
left_after bytes (suc k) words =
    step_drop (word_bytes bytes word_step k words).1
    ∙ ap (λ (rest : List ℕ). drop 1 rest) (left_after bytes k words)
    ∙ drop_one_more k words

-- a word is taken for each eight bytes or part of eight
pub left_after_bytes : (n : ℕ) (words : List ℕ) → (fill_via_u64 word_step n words).1 ≡ drop ((n + 7) / 8) words
left_after_bytes n words = left_after (to_le_bytes w64) ((n + 7) / 8) words
