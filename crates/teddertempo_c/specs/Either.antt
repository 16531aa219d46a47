-- What a call that rewrites or changes a module leaves in the buffer that it was given (this project).
use Rattle.std.specs.Prelude.{ℕ, ◌-◌, ◌%◌, nat_lt, Bool, true, false, List}
use Rattle.rand_core.specs.Stream.{next_u64}
use Rattle.module_rewrites.specs.Seeded.{seeded}
use Rattle.teddertempo_c.specs.Changes.{ChangesOnce}
use Rattle.teddertempo_c.specs.Writes.{RewritesOnce}

-- a call under the seed keeps what the module computes, where so many of a hundred do: by the first word of the generator of another seed, so that the words
-- that choose what is done don't depend on it
abbrev pub keeps : (seed keep : ℕ) → Bool
keeps seed keep = nat_lt ((next_u64 (seeded (18446744073709551615 - seed))).0 % 100) keep

-- the module is rewritten where that is kept, else changed
abbrev pub RewritesOrChanges : (kept : Bool) → (seed size : ℕ) → (old : List ℕ) → (result : ℕ) → (new : List ℕ) → Type 0
RewritesOrChanges true seed size old result new = RewritesOnce seed size old result new
RewritesOrChanges false seed size old result new = ChangesOnce seed size old result new

-- What the call does.
abbrev pub EitherOnce : (seed keep size : ℕ) → (old : List ℕ) → (result : ℕ) → (new : List ℕ) → Type 0
EitherOnce seed keep size old result new = RewritesOrChanges (keeps seed keep) seed size old result new
