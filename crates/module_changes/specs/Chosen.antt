-- Which function of a module words of the generator change, and how, and which code is copied (this project).
use Rattle.std.specs.Prelude.{◌≡◌, ◌⊎◌, Bool, true, false, ℕ, zero, suc, ◌+◌, ◌<◌, ◌≤◌, List, length, drop, get_or, Option, None}
use Rattle.rand_core.specs.Stream.{Stream}
use Rattle.wasm_code.specs.Instruction.{Instruction}
use Rattle.wasm_types.specs.Module.{Module}
use Rattle.wasm_module.specs.Module.{Layout, IsModule}
use Rattle.module_rewrites.specs.Drawing.{WordNames}
use Rattle.module_rewrites.specs.Mutated.{IsChosen}
use Rattle.module_changes.specs.Changed.{ChangeDoesNotFit, HasNoChange, MakesChange}
use Rattle.module_changes.specs.Donor.{itself, Donor, IsCopiedBy}
use Rattle.module_changes.specs.Scope.{words_count, Choice, Scope}
use Rattle.module_changes.specs.Words.{after_words, next_words_of}
use Rattle.module_changes.specs.declared.entry.MadeChange.{MadeChange}

-- By these words the function of the n-th code entry stays as it is: it may not be changed, or no change makes anything in it.
abbrev pub IsUnchanged : Choice → (bytes : List ℕ) → Module → Layout → (words : List ℕ) → (n : ℕ) → Type 0
IsUnchanged choice bytes info layout words n = IsChosen choice.scope.function (layout.imported_functions + n) → HasNoChange choice bytes info layout words n

-- so do those of all of these
abbrev pub AreUnchanged : Choice → (bytes : List ℕ) → Module → Layout → (words : List ℕ) → (from to : ℕ) → Type 0
AreUnchanged choice bytes info layout words from to = (k : ℕ) → from ≤ k → k < to → IsUnchanged choice bytes info layout words k

-- It is the first one for which that isn't so, from `from` on below `count`, and then from 0 on: `None` holds of ranges in which it is so.
pub data IsFirstBut (None : (from to : ℕ) → Type 0) (count from n : ℕ) : Type 0 where
  behind : from ≤ n → n < count → None from n → IsFirstBut None count from n
  before : n < from → from ≤ count → None from count → None 0 n → IsFirstBut None count from n

-- These words name the n-th code entry: the first one names an entry, and it is that, or else the first one behind it, and then from the first one on, whose
-- function may be changed and in which the words behind it choose a change.
pub record NamesChangedEntry (choice : Choice) (bytes : List ℕ) (info : Module) (layout : Layout) (words : List ℕ) (n : ℕ) : Type 0 where
  pub from : ℕ
  pub named : WordNames (get_or words 0 0) layout.entries from
  pub chosen : IsChosen choice.scope.function (layout.imported_functions + n)
  pub first : IsFirstBut (AreUnchanged choice bytes info layout (drop 1 words)) (length layout.entries) from n

-- By these words the module becomes the new bytes: the change that they choose in the entry that they name is made.
pub record ChoosesChangeBy (donor : Donor) (scope : Scope) (bytes : List ℕ) (info : Module) (layout : Layout) (words : List ℕ) (made :
    MadeChange) (new : List ℕ) :
    Type 0 where
  pub copied : List Instruction
  pub is_copied : IsCopiedBy donor scope.changes words copied
  pub n : ℕ
  pub entry : NamesChangedEntry (record { scope = scope; copied = copied }) bytes info layout words n
  pub makes : MakesChange (record { scope = scope; copied = copied }) bytes info layout (drop 1 words) n made new

-- The change that they choose there doesn't fit.
pub record ChoosesLarge (donor : Donor) (scope : Scope) (bytes : List ℕ) (info : Module) (layout : Layout) (words : List ℕ) : Type 0 where
  pub copied : List Instruction
  pub is_copied : IsCopiedBy donor scope.changes words copied
  pub n : ℕ
  pub entry : NamesChangedEntry (record { scope = scope; copied = copied }) bytes info layout words n
  pub large : ChangeDoesNotFit (record { scope = scope; copied = copied }) bytes info layout (drop 1 words) n

-- They choose no change of any function that may be changed.
pub record ChoosesNothing (donor : Donor) (scope : Scope) (bytes : List ℕ) (info : Module) (layout : Layout) (words : List ℕ) : Type 0 where
  pub copied : List Instruction
  pub is_copied : IsCopiedBy donor scope.changes words copied
  pub none : AreUnchanged (record { scope = scope; copied = copied }) bytes info layout (drop 1 words) 0 (length layout.entries)

-- ---- drawn words

-- They choose nothing that can be made: what doesn't fit, and then `large` is true, or nothing at all, and then it is what it was.
abbrev pub ChangeIsInVain : Donor → Scope → (bytes : List ℕ) → Module → Layout → (words : List ℕ) → (earlier large : Bool) → Type 0
ChangeIsInVain donor scope bytes info layout words earlier large =
    (ChoosesLarge donor scope bytes info layout words × (large ≡ true)) ⊎ (ChoosesNothing donor scope bytes info layout words × (large ≡ earlier))

-- So many times, one behind another, the next words do. `large` is true where any of them choose what doesn't fit.
abbrev pub AreInVain : Donor → Scope → (bytes : List ℕ) → Module → Layout → (count : ℕ) → (large : Bool) → Stream → (after : Stream) → Type 0
AreInVain donor scope bytes info layout zero large s after = (after ≡ s) × (large ≡ false)
AreInVain donor scope bytes info layout (suc count) large s after =
    (before : Stream) × (earlier : Bool) × AreInVain donor scope bytes info layout count earlier s before
    × ChangeIsInVain donor scope bytes info layout (next_words_of before (words_count scope)) earlier large × (after ≡ after_words before (words_count scope))

-- how often words are drawn where what they choose can't be made
abbrev pub most_drawn_times : ℕ
most_drawn_times = 16

-- The words behind those that choose nothing that can be made make this of the module, behind fewer than so many such attempts.
pub record ChoosesLater (donor : Donor) (scope : Scope) (bytes : List ℕ) (info : Module) (layout : Layout) (s : Stream) (made : MadeChange) (new : List ℕ)
    (after : Stream) : Type 0 where
  pub count : ℕ
  pub few : count < most_drawn_times
  pub before : Stream
  pub large : Bool
  pub vain : AreInVain donor scope bytes info layout count large s before
  pub chooses : ChoosesChangeBy donor scope bytes info layout (next_words_of before (words_count scope)) made new
  pub after_is : after ≡ after_words before (words_count scope)

-- a function may be changed, where one is named: indices are known, and the module has one of its own with that
abbrev pub SomeMayChange : Option ℕ → Layout → Type 0
SomeMayChange only layout =
    (only ≡ None) ⊎ ((layout.unknown.imports ≡ None) × (n : ℕ) × (n < length layout.entries) × IsChosen only (layout.imported_functions + n))

-- So many times words choose nothing that can be made, and that isn't for want of a function.
pub record ChangeGivesUpOn (donor : Donor) (scope : Scope) (bytes : List ℕ) (info : Module) (layout : Layout) (large : Bool) (s : Stream) : Type 0 where
  pub there : SomeMayChange scope.function layout
  pub after : Stream
  pub vain : AreInVain donor scope bytes info layout most_drawn_times large s after

-- ---- of a module

-- The generator's words make this of the module with these bytes, of which code may be copied.
pub record ChoosesOne (scope : Scope) (bytes : List ℕ) (s : Stream) (made : MadeChange) (new : List ℕ) (after : Stream) : Type 0 where
  pub info : Module
  pub layout : Layout
  pub is : IsModule bytes info layout
  pub exact : info.exact ≡ false
  pub chooses : ChoosesLater (itself bytes info layout) scope bytes info layout s made new after

-- They make nothing of it, so many times; and `large` is true where any choose what doesn't fit.
pub record ChangeGivesUp (scope : Scope) (bytes : List ℕ) (large : Bool) (s : Stream) : Type 0 where
  pub info : Module
  pub layout : Layout
  pub is : IsModule bytes info layout
  pub exact : info.exact ≡ false
  pub gives_up : ChangeGivesUpOn (itself bytes info layout) scope bytes info layout large s
