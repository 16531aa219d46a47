-- What a call that puts code of another module into a module leaves in the buffer that it was given (this project).
use Rattle.std.specs.Prelude.{◌≡◌, ◌≢◌, ◌⊎◌, ℕ, ◌<◌, ◌≤◌, List, [], ◌∷◌, length, take, None}
use Rattle.rand_core.specs.Stream.{Stream}
use Rattle.body_changes.specs.declared.change.Change.TheVariants.{Copy}
use Rattle.module_changes.specs.Scope.{Scope}
use Rattle.module_changes.specs.Spliced.{IsSpliceRefusal, SplicesOne}
use Rattle.module_changes.specs.Valid.{StaysValidModule}
use Rattle.module_changes.specs.declared.entry.MadeChange.{MadeChange}
use Rattle.module_changes.specs.declared.splicing.SpliceRefusal.{SpliceRefusal}
use Rattle.module_rewrites.specs.Seeded.{seeded}
use Rattle.teddertempo_c.specs.Writes.{WritesFront}

-- by the change `copy` alone, in any function, in so many bytes
abbrev pub copies_alone : (room : ℕ) → Scope
copies_alone room = record { changes = Copy ∷ []; function = None; most = 8; size = room }

-- The new bytes are the module with code of the other one, both as the seed chooses them; it is valid where the old one was.
pub record IsSplicedBy (seed room : ℕ) (bytes other new : List ℕ) : Type 0 where
  pub made : MadeChange
  pub after : Stream
  pub splices : SplicesOne (copies_alone room) bytes other (seeded seed) made new after
  pub valid : StaysValidModule bytes new

-- The first `size` bytes were a module, and the first ones now, the result says how many, are that module with such code.
pub record IsSplicedOnce (seed size : ℕ) (other old : List ℕ) (result : ℕ) (new : List ℕ) : Type 0 where
  pub inside : size ≤ length old
  pub is : IsSplicedBy seed (length old) (take size old) other (take result new)

-- The buffer doesn't have so many bytes, or there is a reason.
abbrev pub IsNotSpliced : (seed size : ℕ) → (other old : List ℕ) → Type 0
IsNotSpliced seed size other old =
    (length old < size)
    ⊎ ((refusal : SpliceRefusal) × IsSpliceRefusal (copies_alone (length old)) (take size old) other (seeded seed) refusal)

-- What the call does: it writes the module with such code to the front of the buffer, or answers 0 and writes nothing.
pub record SplicesOnce (seed size : ℕ) (other old : List ℕ) (result : ℕ) (new : List ℕ) : Type 0 where
  pub writes : WritesFront old result new
  pub spliced : result ≢ 0 → IsSplicedOnce seed size other old result new
  pub refused : result ≡ 0 → IsNotSpliced seed size other old
