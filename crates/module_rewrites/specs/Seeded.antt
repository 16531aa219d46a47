-- What the generator of a seed gives: the standard generator of the crate `rand`, whose seed is made of a number.
use Rattle.std.specs.Prelude.{ℕ}
use Rattle.rand_core.specs.Stream.{Stream}
use Rattle.rand.specs.contracts.rngs.StdRngRng.TheImpl as generator
use Rattle.rand.specs.contracts.rngs.StdRngSeedableRng.TheImpl as seeds

-- the words that the generator gives for a seed of 64 bits, in their order
abbrev pub seeded : (seed : ℕ) → Stream
seeded seed = generator.ghosts.stream (seeds.ghosts.of_seed (seeds.ghosts.seed_of_u64 seed))
