-- Attempts at the code entries of a module, one after another.
use Rattle.std.proofs.Common.{◌≡◌, inl, inr, ℕ, ◌+◌, ◌≤◌, List, length, drop, get_or, Some, refl, sym, subst, arith}
use Rattle.std.specs.Prelude.{slice_get}
use Rattle.std.specs.List.{All}
use Rattle.std.proofs.lemmas.Option.{slice_get-get_or}
use Rattle.std.proofs.lemmas.Bool.{cases_eq, cases_lt}
use Rattle.wasm_code.specs.Instruction.{Instruction}
use Rattle.wasm_types.specs.Module.{Module}
use Rattle.wasm_lists.specs.declared.entries.Entry.{Entry}
use Rattle.wasm_module.specs.Inside.{IsInside}
use Rattle.wasm_module.specs.Module.{Layout}
use Rattle.module_rewrites.specs.Drawing.{WordNames}
use Rattle.module_changes.specs.Chosen.{AreUnchanged, ChoosesNothing, IsUnchanged, NamesChangedEntry, behind, before}
use Rattle.module_changes.specs.Donor.{Donor, IsCopiedBy}
use Rattle.module_changes.specs.Entry.{AllTried, AreTried, IsFirstWithin}
use Rattle.module_changes.specs.Scope.{Choice, Scope}
use Rattle.module_changes.specs.declared.entry.Attempt.{Attempt}
use Rattle.module_changes.specs.declared.entry.Attempt.TheVariants.{Made, TooLarge, Unchanged}

-- ---- one after another

module _ (choice : Choice) (bytes : List ℕ) (info : Module) (layout : Layout) (words : List ℕ) where
  -- one more stays as it is
  pub unchanged_next : (from n : ℕ) → AreUnchanged choice bytes info layout words from n → IsUnchanged choice bytes info layout words n →
      AreUnchanged choice bytes info layout words from (n + 1)
  unchanged_next from n earlier here = λ k low high. elim (cases_eq k n) [
    | inl same ↦ subst (IsUnchanged choice bytes info layout words) (sym same) here
    | inr other ↦ earlier k low (omega arith)
  ]

  pub unchanged_to : (from n to : ℕ) → to ≤ n → AreUnchanged choice bytes info layout words from n → AreUnchanged choice bytes info layout words from to
  unchanged_to from n to past earlier = λ k low high. earlier k low (omega (arith, past, high))

-- ---- by words

-- the entries of a module are in order
pub all_ordered : (bytes : List ℕ) (entries : List Entry) → ((n : ℕ) (entry : Entry) → slice_get entries n ≡ Some entry → IsInside bytes entry) →
    All (λ (e : Entry). e.contents ≤ e.end) entries
all_ordered bytes entries inside = λ k d lt. (inside k (get_or entries k d) (slice_get-get_or entries k d lt)).ordered

module _ (donor : Donor) (scope : Scope) (bytes : List ℕ) (info : Module) (layout : Layout) (words : List ℕ) (copied : List Instruction)
    (is_copied : IsCopiedBy donor scope.changes words copied) (from : ℕ) (named : WordNames (get_or words 0 0) layout.entries from) where
  abbrev choice : Choice
  choice = record { scope = scope; copied = copied }

  abbrev count : ℕ
  count = length layout.entries

  named_behind : {Is : ℕ → Type 0} (w : IsFirstWithin choice bytes info layout (drop 1 words) from count Is) →
      NamesChangedEntry choice bytes info layout words w.n
  named_behind w = record { from = from; named = named; chosen = w.chosen; first = behind w.behind w.before w.unchanged }

  named_before : {Is : ℕ → Type 0} (w : IsFirstWithin choice bytes info layout (drop 1 words) 0 from Is) →
      AreUnchanged choice bytes info layout (drop 1 words) from count → NamesChangedEntry choice bytes info layout words w.n
  named_before w later = record {
    from = from;
    named = named;
    chosen = w.chosen;
    first = before w.before (let inside = named.inside in omega (arith, inside)) later w.unchanged;
  }

  -- from the named one on one doesn't stay
  pub tried_behind : (attempt : Attempt) → (attempt ≡ Unchanged → ⊥) → AreTried choice bytes info layout (drop 1 words) from count attempt →
      AllTried donor scope bytes info layout words attempt
  tried_behind (Made made new) not w = record { copied = copied; is_copied = is_copied; n = w.n; entry = named_behind w; makes = w.is }
  tried_behind TooLarge not w = record { copied = copied; is_copied = is_copied; n = w.n; entry = named_behind w; large = w.is }
  tried_behind Unchanged not w = absurd (not refl)

  -- those before it are tried
  pub tried_before : (attempt : Attempt) → AreUnchanged choice bytes info layout (drop 1 words) from count →
      AreTried choice bytes info layout (drop 1 words) 0 from attempt → AllTried donor scope bytes info layout words attempt
  tried_before (Made made new) later w = record { copied = copied; is_copied = is_copied; n = w.n; entry = named_before w later; makes = w.is }
  tried_before TooLarge later w = record { copied = copied; is_copied = is_copied; n = w.n; entry = named_before w later; large = w.is }
  tried_before Unchanged later w = record {
    copied = copied;
    is_copied = is_copied;
    none = λ k low high. elim (cases_lt k from) [
      | inl lt ↦ w k low lt
      | inr le ↦ later k le high
    ];
  }

-- where there is no entry, nothing is changed
pub no_entries : (donor : Donor) (scope : Scope) (bytes : List ℕ) (info : Module) (layout : Layout) (words : List ℕ) (copied : List Instruction) →
    IsCopiedBy donor scope.changes words copied → length layout.entries ≡ 0 → ChoosesNothing donor scope bytes info layout words
no_entries donor scope bytes info layout words copied is none =
    record { copied = copied; is_copied = is; none = λ k low high. absurd (omega (arith, none, high)) }
