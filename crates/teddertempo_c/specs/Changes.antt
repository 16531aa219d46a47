-- What a call that changes a module leaves in the buffer that it was given (this project).
use Rattle.std.specs.Prelude.{◌≡◌, ◌≢◌, ◌⊎◌, ℕ, ◌<◌, ◌≤◌, List, length, take, None, Option}
use Rattle.body_changes.specs.declared.change.TheConstants.{CHANGES}
use Rattle.module_changes.specs.Scope.{Scope}
use Rattle.module_changes.specs.Times.{ChangesTimes, IsRefusal}
use Rattle.module_changes.specs.Valid.{StaysValidModule}
use Rattle.module_changes.specs.declared.entry.MadeChange.{MadeChange}
use Rattle.module_changes.specs.declared.refusal.Refusal.{Refusal}
use Rattle.module_rewrites.specs.Seeded.{seeded}
use Rattle.teddertempo_c.specs.Writes.{WritesFront}

-- by any change in any function, with at most eight instructions where code is drawn, in so many bytes
abbrev pub any_change : (room : ℕ) → Scope
any_change room = record { changes = CHANGES; function = None; most = 8; size = room }

-- The new bytes are the module with one change, which the seed chooses; it is valid where the old one was.
pub record IsChangedBy (seed room : ℕ) (bytes new : List ℕ) : Type 0 where
  pub made : List MadeChange
  pub stopped : Option Refusal
  pub changes : ChangesTimes (any_change room) 1 bytes (seeded seed) made new stopped
  pub valid : StaysValidModule bytes new

-- The first `size` bytes were a module, and the first ones now, the result says how many, are that module changed once.
pub record IsChangedOnce (seed size : ℕ) (old : List ℕ) (result : ℕ) (new : List ℕ) : Type 0 where
  pub inside : size ≤ length old
  pub is : IsChangedBy seed (length old) (take size old) (take result new)

-- The buffer doesn't have so many bytes, or there is a reason.
abbrev pub IsNotChanged : (seed size : ℕ) → (old : List ℕ) → Type 0
IsNotChanged seed size old =
    (length old < size) ⊎ ((refusal : Refusal) × IsRefusal (any_change (length old)) (take size old) (seeded seed) refusal)

-- What the call does: it writes a changed module to the front of the buffer, or answers 0 and writes nothing.
pub record ChangesOnce (seed size : ℕ) (old : List ℕ) (result : ℕ) (new : List ℕ) : Type 0 where
  pub writes : WritesFront old result new
  pub changed : result ≢ 0 → IsChangedOnce seed size old result new
  pub refused : result ≡ 0 → IsNotChanged seed size old

-- ---- for private functions

-- there are some bytes, and at most so many
pub record HasSize (most : ℕ) (new : List ℕ) : Type 0 where
  pub some : 0 < length new
  pub fits : length new ≤ most
