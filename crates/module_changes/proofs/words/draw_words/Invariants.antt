-- The words so far, and those that are left.
use Rattle.std.proofs.Common.{◌≡◌, ◌-◌, ◌≤◌, ◌++◌}
use Rattle.module_changes.specs.Words.{after_words, next_words_of}
use Rattle.module_changes.proofs.words.draw_words.Given as goal

abbrev pub invariant-words : goal.invariant-words
invariant-words g l =
    (l.counter ≤ l.count)
    × (next_words_of (g.R.Rng.stream l.fn.generator) l.count ≡ l.words.items ++ next_words_of (g.R.Rng.stream l.generator) (l.count - l.counter))
    × (after_words (g.R.Rng.stream l.fn.generator) l.count ≡ after_words (g.R.Rng.stream l.generator) (l.count - l.counter))
