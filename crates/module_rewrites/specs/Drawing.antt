-- Which code entry of a module words of the generator name: each names one of the bytes that entries contain, and so the entry that contains it (this
-- project).
use Rattle.std.specs.Prelude.{◌≡◌, ◌⊎◌, ℕ, zero, suc, ◌+◌, ◌-◌, ◌%◌, ◌^◌, ◌<◌, ◌≤◌, List, length, take}
use Rattle.std.specs.List.{sum_by}
use Rattle.rand_core.specs.Stream.{Stream, next_u64}
use Rattle.wasm_lists.specs.declared.entries.Entry.{Entry}
use Rattle.body_rewrites.specs.Choice.{after_word}

-- how many bytes an entry contains
abbrev pub contents_length : Entry → ℕ
contents_length entry = entry.end - entry.contents

-- The n-th entry contains the byte with this number, of all bytes that entries contain, one entry behind another.
pub record ContainsByte (entries : List Entry) (n byte : ℕ) : Type 0 where
  pub inside : n < length entries
  pub from : sum_by contents_length (take n entries) ≤ byte
  pub to : byte < sum_by contents_length (take (n + 1) entries)

-- The word names the n-th entry: it contains the byte whose number is the word, modulo how many bytes entries contain. (There are some, and fewer than 2 ^ 64.)
pub record WordNames (word : ℕ) (entries : List Entry) (n : ℕ) : Type 0 where
  pub inside : n < length entries
  pub contains : 0 < sum_by contents_length entries → sum_by contents_length entries < 2 ^ 64 →
      ContainsByte entries n (word % sum_by contents_length entries)

-- the next word does
abbrev pub NamesEntry : Stream → List Entry → (n : ℕ) → Type 0
NamesEntry s entries n = WordNames (next_u64 s).0 entries n

-- So many attempts, each at the entry that `at` gives for its number, one after another, are in vain; `after` is what the generator then gives.
abbrev pub EachInVain : (Vain : Stream → ℕ → Stream → Type 0) → (at : ℕ → ℕ) → (count : ℕ) → Stream → (after : Stream) → Type 0
EachInVain Vain at zero s after = after ≡ s
EachInVain Vain at (suc count) s after = (before : Stream) × EachInVain Vain at count s before × Vain before (at count) after

-- So many words name entries in vain, one after another: the attempt there is in vain. `last` is the last one, and `after` what the generator then gives.
abbrev pub NamesInVain : (Vain : Stream → ℕ → Stream → Type 0) → List Entry → (count : ℕ) → Stream → (last : ℕ) → (after : Stream) → Type 0
NamesInVain Vain entries zero s last after = (last ≡ 0) × (after ≡ s)
NamesInVain Vain entries (suc count) s last after =
    (one : ℕ) × (before : Stream) × NamesInVain Vain entries count s one before × NamesEntry before entries last × Vain (after_word before) last after

-- the entry is one from the one with the number `from` on, with attempts in vain at those from there up to it
abbrev pub IsFirstBehind : (Vain : Stream → ℕ → Stream → Type 0) → (from n : ℕ) → Stream → (after : Stream) → Type 0
IsFirstBehind Vain from n s after = (k : ℕ) × (n ≡ from + k) × EachInVain Vain (λ j. from + j) k s after

-- it is one before that, with attempts in vain at those from there on, and then at those up to it
abbrev pub IsFirstBefore : (Vain : Stream → ℕ → Stream → Type 0) → (count from n : ℕ) → Stream → (after : Stream) → Type 0
IsFirstBefore Vain count from n s after =
    (n < from) × (k : ℕ) × (middle : Stream) × (count ≡ from + k) × EachInVain Vain (λ j. from + j) k s middle × EachInVain Vain (λ j. j) n middle after

-- The entry is one that a word names behind fewer than so many that name entries in vain; or, behind as many, the first one without an attempt in vain, from
-- the last one named on, and then before that.
pub data DrawsEntry (Vain : Stream → ℕ → Stream → Type 0) (entries : List Entry) (most : ℕ) (s : Stream) (n : ℕ) (after : Stream) : Type 0 where
  by_word : (count last : ℕ) (before : Stream) → count < most → NamesInVain Vain entries count s last before → NamesEntry before entries n →
      after ≡ after_word before → DrawsEntry Vain entries most s n after
  in_order : (last : ℕ) (middle : Stream) → NamesInVain Vain entries most s last middle →
      IsFirstBehind Vain last n middle after ⊎ IsFirstBefore Vain (length entries) last n middle after → DrawsEntry Vain entries most s n after
