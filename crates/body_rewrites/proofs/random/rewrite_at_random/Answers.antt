-- What is chosen makes something.
use Rattle.body_rewrites.specs.Places.{context_of}
use Rattle.body_rewrites.proofs.RandomLemmas.{chosen_is_made}
use Rattle.body_rewrites.proofs.random.rewrite_at_random.Goals as goal

pub unreachable-requires : goal.unreachable-requires
unreachable-requires g c =
    let chosen = rw c.in-Some.is at c.in_ok-rewrite.ensures.chosen in
    let none = rw c.in-None.is at c.in_ok-asks.ensures.none in
    absurd (none (chosen_is_made (context_of c.args.body.now) _ c.args.rules.now c.args.wanted.now c.args.body.now.operators.now c.in-Some.rewrite chosen))
