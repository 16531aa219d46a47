-- What a writer has written so far, what it takes a list of steps to do, and what it stays. This project's rule.
use Rattle.std.specs.Prelude.{◌≡◌, List, Result}
use Rattle.rand_core.specs.Stream.{Stream}
use Rattle.mutate_base.specs.declared.error.Error.{Error}
use Rattle.peephole_terms.specs.declared.encoder.writer.Writer.{Writer}
use Rattle.peephole_terms.specs.EncoderSteps.{Step, Writing, writing_of, Does}

-- what is written and requested so far, and what the generator will give; `stream` tells the last
abbrev pub writing_in : {R : Type 0} → (stream : R → Stream) → Writer R → Writing
writing_in stream w = writing_of w.sink.now w.requests.now.items (stream w.rng.now)

-- It has taken these steps, or one of them refuses.
abbrev pub Takes : {R : Type 0} → (stream : R → Stream) → List Step → (old new : Writer R) → Result (Unit {0}) Error → Type 0
Takes stream taken old new result = Does old.globals taken (writing_in stream old) (writing_in stream new) result

-- It writes to the same sink and the same requests by the same generator, over the same number of globals.
pub record IsSame {R : Type 0} (old new : Writer R) : Type 0 where
  pub globals : new.globals ≡ old.globals
  pub sink : new.sink.ghost_name ≡ old.sink.ghost_name
  pub requests : new.requests.ghost_name ≡ old.requests.ghost_name
  pub rng : new.rng.ghost_name ≡ old.rng.ghost_name
