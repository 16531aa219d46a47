-- A generator's words, one after another.
use Rattle.std.proofs.Common.{◌≡◌, ℕ, suc, ◌+◌, ◌-◌, ◌<◌, ◌≤◌, List, [], ◌∷◌, ◌++◌, sym, ap, ◌∙◌, append_assoc, append-nil, arith}
use Rattle.rand_core.specs.Stream.{Stream, next_u64}
use Rattle.body_rewrites.specs.Choice.{after_word}
use Rattle.module_changes.specs.Words.{after_words, next_words_of}

left_is : (count counter : ℕ) → counter < count → count - counter ≡ suc (count - (counter + 1))
left_is count counter l = omega arith

none_left : (count counter : ℕ) → count ≤ counter → count - counter ≡ 0
none_left count counter l = omega arith

-- one more
pub words_more : (start now : Stream) (count counter : ℕ) (words : List ℕ) → counter < count →
    next_words_of start count ≡ words ++ next_words_of now (count - counter) →
    next_words_of start count ≡ (words ++ (next_u64 now).0 ∷ []) ++ next_words_of (after_word now) (count - (counter + 1))
words_more start now count counter words l h =
    h ∙ (ap (λ (n : ℕ). words ++ next_words_of now n) (left_is count counter l)
    ∙ sym (append_assoc words ((next_u64 now).0 ∷ []) (next_words_of (after_word now) (count - (counter + 1)))))

pub after_more : (start now : Stream) (count counter : ℕ) → counter < count → after_words start count ≡ after_words now (count - counter) →
    after_words start count ≡ after_words (after_word now) (count - (counter + 1))
after_more start now count counter l h = h ∙ ap (after_words now) (left_is count counter l)

-- all of them
pub words_all : (start now : Stream) (count counter : ℕ) (words : List ℕ) → count ≤ counter →
    next_words_of start count ≡ words ++ next_words_of now (count - counter) → words ≡ next_words_of start count
words_all start now count counter words l h =
    sym (h ∙ (ap (λ (n : ℕ). words ++ next_words_of now n) (none_left count counter l) ∙ append-nil words))

pub after_all : (start now : Stream) (count counter : ℕ) → count ≤ counter → after_words start count ≡ after_words now (count - counter) →
    now ≡ after_words start count
after_all start now count counter l h = sym (h ∙ ap (after_words now) (none_left count counter l))

-- none yet
pub first_words : (s : Stream) (count : ℕ) (words : List ℕ) → words ≡ [] → next_words_of s count ≡ words ++ next_words_of s (count - 0)
first_words s count words none = ap (next_words_of s) (whole count) ∙ ap (λ (ws : List ℕ). ws ++ next_words_of s (count - 0)) (sym none)
  where
    whole : (n : ℕ) → n ≡ n - 0
    whole n = omega arith

pub first_after : (s : Stream) (count : ℕ) → after_words s count ≡ after_words s (count - 0)
first_after s count = ap (after_words s) (let e : count ≡ count - 0 = omega arith in e)
