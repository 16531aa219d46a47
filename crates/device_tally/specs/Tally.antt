-- A device that is watched, and when a call has failed (this project's).
use Rattle.std.specs.Prelude.{ℕ, Bool, true, ◌&&◌, ◌==◌, nat_lt, Result, Ok, Err}

-- the device that a run writes to, and whether it still works
pub record Watched (D : Type 0) : Type 0 where
  pub device : D
  -- whether a call has answered an error, or a write none of some bytes
  pub failed : Bool

-- an error, or none of some bytes taken
abbrev pub write_failed : {E : Type 0} → Result ℕ E → ℕ → Bool
write_failed (Ok n) offered = (n == 0) && nat_lt 0 offered
write_failed (Err e) offered = true
