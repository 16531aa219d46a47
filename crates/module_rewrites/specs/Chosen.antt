-- Which operator of a module is rewritten, by which rule, and what the new bytes are, as words of the generator choose (this project).
use Rattle.std.specs.Prelude.{◌≡◌, ◌⊎◌, ℕ, ◌+◌, ◌<◌, List, length, Option, Some, None}
use Rattle.rand_core.specs.Stream.{Stream}
use Rattle.wasm_types.specs.Module.{Module}
use Rattle.wasm_module.specs.Module.{Layout, IsModule}
use Rattle.body_rewrites.specs.declared.rewrite.Rewrite.{Rewrite}
use Rattle.module_rewrites.specs.Drawing.{DrawsEntry, EachInVain, IsFirstBefore, IsFirstBehind, NamesInVain}
use Rattle.module_rewrites.specs.Mutated.{HasNoMutation}
use Rattle.module_rewrites.specs.Scope.{Scope, IsMarked, draws_of}
use Rattle.module_rewrites.specs.Writing.{DoesNotFit, MakesAt}

-- An attempt at the n-th code entry is in vain: there is no rewrite, and no word is drawn; or the module with the one that words choose isn't small enough.
pub data TriesInVain (scope : Scope) (bytes : List ℕ) (info : Module) (layout : Layout) (s : Stream) (n : ℕ) (after : Stream) : Type 0 where
  by_lack : HasNoMutation scope bytes info layout n → after ≡ s → TriesInVain scope bytes info layout s n after
  by_size : DoesNotFit scope bytes info layout s n after → TriesInVain scope bytes info layout s n after

-- The entry whose function is named, if one is, behind fewer attempts there in vain than are made at most; or else the one that words draw. `after` is what
-- the generator then gives.
abbrev pub FindsEntry : Scope → (bytes : List ℕ) → Module → Layout → (only : Option ℕ) → Stream → (n : ℕ) → (after : Stream) → Type 0
FindsEntry scope bytes info layout (Some function) s n after =
    (layout.imported_functions + n ≡ function) × (count : ℕ) × (count < draws_of scope bytes)
    × EachInVain (TriesInVain scope bytes info layout) (λ j. n) count s after
FindsEntry scope bytes info layout None s n after = DrawsEntry (TriesInVain scope bytes info layout) layout.entries (draws_of scope bytes) s n after

-- Of a module's functions the words choose this one, by its index among all functions, the rewrite, and the new bytes; `after` is what the generator gives
-- behind them.
pub record ChoosesBy (scope : Scope) (bytes : List ℕ) (info : Module) (layout : Layout) (only : Option ℕ) (s : Stream) (function : ℕ) (rewrite : Rewrite)
    (new : List ℕ) (after : Stream) : Type 0 where
  pub n : ℕ
  pub function_is : function ≡ layout.imported_functions + n
  pub found : Stream
  pub finds : FindsEntry scope bytes info layout only s n found
  pub makes : MakesAt scope bytes info layout found n rewrite new after

-- The same of the module with these bytes.
pub record ChoosesOfModule (scope : Scope) (bytes : List ℕ) (stream : Stream) (function : ℕ) (rewrite : Rewrite) (new : List ℕ) (after : Stream) :
    Type 0 where
  pub info : Module
  pub layout : Layout
  pub is : IsModule bytes info layout
  pub marked : IsMarked scope info
  pub chooses : ChoosesBy scope bytes info layout scope.function stream function rewrite new after

-- ---- no rewrite fits

-- attempts at all entries from `from` on, before `to`, are in vain
pub record AllInVain (scope : Scope) (bytes : List ℕ) (info : Module) (layout : Layout) (from to : ℕ) (s after : Stream) : Type 0 where
  pub k : ℕ
  pub to_is : to ≡ from + k
  pub each : EachInVain (TriesInVain scope bytes info layout) (λ j. from + j) k s after

-- attempts at all entries are in vain, in order, from the one with the number `from` on, and then at those before it
pub record GivesUpInOrder (scope : Scope) (bytes : List ℕ) (info : Module) (layout : Layout) (from : ℕ) (s after : Stream) : Type 0 where
  pub middle : Stream
  pub behind : AllInVain scope bytes info layout from (length layout.entries) s middle
  pub before : AllInVain scope bytes info layout 0 from middle after

-- As many attempts as are made at most at the function that is named are in vain; or else those where as many words name entries, and then those in order.
abbrev pub GivesUpOn : Scope → (bytes : List ℕ) → Module → Layout → (only : Option ℕ) → Stream → (after : Stream) → Type 0
GivesUpOn scope bytes info layout (Some function) s after =
    (n : ℕ) × (layout.imported_functions + n ≡ function) × EachInVain (TriesInVain scope bytes info layout) (λ j. n) (draws_of scope bytes) s after
GivesUpOn scope bytes info layout None s after =
    (last : ℕ) × (middle : Stream) × NamesInVain (TriesInVain scope bytes info layout) layout.entries (draws_of scope bytes) s last middle
    × GivesUpInOrder scope bytes info layout last middle after

-- The same of the module with these bytes.
pub record GivesUp (scope : Scope) (bytes : List ℕ) (stream : Stream) : Type 0 where
  pub info : Module
  pub layout : Layout
  pub is : IsModule bytes info layout
  pub marked : IsMarked scope info
  pub left : Stream
  pub vain : GivesUpOn scope bytes info layout scope.function stream left

-- ---- for private functions

-- The entry is the first one from `from` on, before `to`, where an attempt isn't in vain.
pub record ChoosesWithin (scope : Scope) (bytes : List ℕ) (info : Module) (layout : Layout) (from to : ℕ) (s : Stream) (function : ℕ) (rewrite : Rewrite)
    (new : List ℕ) (after : Stream) : Type 0 where
  pub n : ℕ
  pub function_is : function ≡ layout.imported_functions + n
  pub before : n < to
  pub found : Stream
  pub first : IsFirstBehind (TriesInVain scope bytes info layout) from n s found
  pub makes : MakesAt scope bytes info layout found n rewrite new after

-- The entry is the first one, from the one with the number `from` on and then before that.
pub record ChoosesFrom (scope : Scope) (bytes : List ℕ) (info : Module) (layout : Layout) (from : ℕ) (s : Stream) (function : ℕ) (rewrite : Rewrite)
    (new : List ℕ) (after : Stream) : Type 0 where
  pub n : ℕ
  pub function_is : function ≡ layout.imported_functions + n
  pub found : Stream
  pub first : IsFirstBehind (TriesInVain scope bytes info layout) from n s found
      ⊎ IsFirstBefore (TriesInVain scope bytes info layout) (length layout.entries) from n s found
  pub makes : MakesAt scope bytes info layout found n rewrite new after

-- attempts at the n-th entry before this one are in vain
pub record ChoosesAgain (scope : Scope) (bytes : List ℕ) (info : Module) (layout : Layout) (n : ℕ) (s : Stream) (function : ℕ) (rewrite : Rewrite)
    (new : List ℕ) (after : Stream) : Type 0 where
  pub function_is : function ≡ layout.imported_functions + n
  pub count : ℕ
  pub few : count < draws_of scope bytes
  pub found : Stream
  pub vain : EachInVain (TriesInVain scope bytes info layout) (λ j. n) count s found
  pub makes : MakesAt scope bytes info layout found n rewrite new after

-- as many attempts at the n-th entry as are made at most are in vain
abbrev pub GivesUpAgain : Scope → (bytes : List ℕ) → Module → Layout → (n : ℕ) → Stream → (after : Stream) → Type 0
GivesUpAgain scope bytes info layout n s after = EachInVain (TriesInVain scope bytes info layout) (λ j. n) (draws_of scope bytes) s after
