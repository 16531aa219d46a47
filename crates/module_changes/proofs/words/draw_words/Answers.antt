-- One word more.
use Rattle.std.proofs.Common.{◌≡◌, ℕ, ◌+◌, ◌-◌, List, [], ◌∷◌, ◌++◌, sym, ap, subst, ◌∙◌, arith}
use Rattle.rand_core.specs.Stream.{Stream}
use Rattle.body_rewrites.specs.Choice.{after_word}
use Rattle.module_changes.specs.Words.{after_words, next_words_of}
use Rattle.module_changes.proofs.WordLemmas.{after_all, after_more, first_words, first_after, words_all, words_more}
use Rattle.module_changes.proofs.words.draw_words.Goals as goal

pub words-init : goal.words-init
words-init g c = (
  omega arith,
  first_words (g.R.Rng.stream c.args.generator.now) c.args.count c.new-words.result.items c.new-words.ensures.items,
  first_after (g.R.Rng.stream c.args.generator.now) c.args.count,
)

pub words-preserved : goal.words-preserved
words-preserved g c =
    let start = g.R.Rng.stream c.args.generator.now in
    let now = g.R.Rng.stream c.words.generator in (
      let l = c.words-test.true in omega arith,
      subst (λ (s : Stream). next_words_of start c.args.count ≡ c.push.new.self.items ++ next_words_of s (c.args.count - (c.words.counter + 1)))
          (sym c.next_word.ensures.after)
          (subst (λ (ws : List ℕ). next_words_of start c.args.count ≡ ws ++ next_words_of (after_word now) (c.args.count - (c.words.counter + 1)))
          (sym (c.in_ok-push.ensures.items ∙ ap (λ (w : ℕ). c.words.words.items ++ w ∷ []) c.next_word.ensures.word))
          (words_more start now c.args.count c.words.counter c.words.words.items c.words-test.true c.words.invariant.1)),
      subst (λ (s : Stream). after_words start c.args.count ≡ after_words s (c.args.count - (c.words.counter + 1))) (sym c.next_word.ensures.after)
          (after_more start now c.args.count c.words.counter c.words-test.true c.words.invariant.2),
    )

pub returns-clause-words : goal.returns-clause-words
returns-clause-words g c =
    words_all (g.R.Rng.stream c.args.generator.now) (g.R.Rng.stream c.words.generator) c.args.count c.words.counter c.words.words.items
    c.words-test.false c.words.invariant.1

pub returns-clause-after : goal.returns-clause-after
returns-clause-after g c =
    after_all (g.R.Rng.stream c.args.generator.now) (g.R.Rng.stream c.words.generator) c.args.count c.words.counter c.words-test.false
    c.words.invariant.2
