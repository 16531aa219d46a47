-- What a watcher sees of changes of a module that are made one after another (this project).
use Rattle.std.specs.Prelude.{◌≡◌, ℕ, List, [], ◌∷◌}
use Rattle.rand_core.specs.Stream.{Stream}
use Rattle.module_changes.specs.Chosen.{ChoosesOne}
use Rattle.module_changes.specs.Scope.{Scope}
use Rattle.module_changes.specs.declared.entry.MadeChange.{MadeChange}

-- what a kind of watchers makes of a change: a relation between the watcher before, the bytes before the change, those with it, the change, and the watcher
-- after
abbrev pub SeeingChange : Type 0 → Type 1
SeeingChange W = W → List ℕ → List ℕ → MadeChange → W → Type 0

-- how far changes have come: the bytes of the module, what the generator gives, and the watcher
pub record StandingOfChanges (W : Type 0) : Type 0 where
  pub bytes : List ℕ
  pub stream : Stream
  pub watcher : W

-- This change is made, as the words choose it, and the watcher sees it: the bytes before it, those with it, and which one it is.
pub record SeesOneChange {W : Type 0} (saw : SeeingChange W) (scope : Scope) (from : StandingOfChanges W) (made : MadeChange) (to :
    StandingOfChanges W) : Type 0 where
  pub chosen : ChoosesOne scope from.bytes from.stream made to.bytes to.stream
  pub seen : saw from.watcher from.bytes to.bytes made to.watcher

-- These changes are made, and the watcher sees each of them once, in order: each other one from the bytes that the one before it left. It sees nothing else.
abbrev pub SeesEachChange : {W : Type 0} → SeeingChange W → Scope → (from : StandingOfChanges W) → List MadeChange → (to : StandingOfChanges W) → Type 0
SeesEachChange saw scope from [] to = to ≡ from
SeesEachChange {W} saw scope from (m ∷ ms) to = (next : StandingOfChanges W) × SeesOneChange saw scope from m next × SeesEachChange saw scope next ms to

-- So these changes of the module with these bytes, as the words choose them, are made and seen, up to the new bytes: `before` is the watcher then, and `after`
-- the watcher behind them all.
pub record SeesAllChanges {W : Type 0} (saw : SeeingChange W) (scope : Scope) (bytes : List ℕ) (stream : Stream) (made : List MadeChange) (new : List ℕ)
    (before after : W) : Type 0 where
  pub left : Stream
  pub each : SeesEachChange saw scope (record { bytes = bytes; stream = stream; watcher = before }) made
      (record { bytes = new; stream = left; watcher = after })
