-- Words once more.
use Rattle.std.proofs.Common.{◌≡◌, ◌+◌, ◌∙◌, sym, subst, arith}
use Rattle.module_changes.specs.Chosen.{most_drawn_times}
use Rattle.module_changes.specs.Entry.{donor_of, AllTried}
use Rattle.module_changes.specs.declared.refusal.Refusal.{Refusal}
use Rattle.module_changes.proofs.TimesLemmas.{gives_up, large_more, nothing_more, VainSoFar}
use Rattle.module_changes.proofs.attempt.change_read.Goals as goal
use Rattle.module_changes.proofs.attempt.change_read.Goals.{in-TooLarge, in-Unchanged}

pub draws-preserved : goal.draws-preserved
draws-preserved g c =
    let donor = donor_of c.args.source.now in
    let scope = c.args.scope.now in
    let bytes = c.args.reading.now.bytes.now in
    let info = c.args.reading.now.info.now in
    let layout = c.args.reading.now.layout.now in
    let s = g.R.Rng.stream c.args.generator.now in
    let now = g.R.Rng.stream c.draws.generator in
    let after = g.R.Rng.stream c.draw_words.new.generator in
    let words = c.deref.ensures.value ∙ c.in_ok-words.ensures.words in
    let next : Refusal → Type 0 = λ r. VainSoFar donor scope bytes info layout s (c.draws.counter + 1) r after in
    elim c.match-branch-3.branch [
      | in-Unchanged w ↦
          subst next (sym w.refusal-is)
          (nothing_more donor scope bytes info layout s c.draws.counter c.words.result c.deref.result.now c.draws.refusal now after c.draws.invariant
          c.words.ensures words c.in_ok-words.ensures.after
          (subst (AllTried donor scope bytes info layout c.deref.result.now) w.in-Unchanged.is c.in_ok-made.ensures.tried))
      | in-TooLarge w ↦
          subst next (sym w.refusal-is)
          (large_more donor scope bytes info layout s c.draws.counter c.words.result c.deref.result.now c.draws.refusal now after c.draws.invariant
          c.words.ensures words c.in_ok-words.ensures.after
          (subst (AllTried donor scope bytes info layout c.deref.result.now) w.in-TooLarge.is c.in_ok-made.ensures.tried))
    ]

pub returns-clause-none : goal.returns-clause-none
returns-clause-none g c =
    let all : c.draws.counter ≡ most_drawn_times = omega (arith, c.draws-test.false, c.draws.auto.counter-end) in
    gives_up (donor_of c.args.source.now) c.args.scope.now c.args.reading.now.bytes.now c.args.reading.now.info.now c.args.reading.now.layout.now
    (g.R.Rng.stream c.args.generator.now) c.draws.counter c.draws.refusal (g.R.Rng.stream c.draws.generator) c.requires.there all c.draws.invariant
