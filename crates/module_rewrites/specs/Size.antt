-- Whether a new module is small enough: how many bytes it has, and whether it is smaller than the old one (this project).
use Rattle.std.specs.Prelude.{◌≡◌, ℕ, ◌<◌, ◌≤◌, true, List, length}
use Rattle.std.specs.Cmp.Lexicographic.{slice_cmp}
use Rattle.std.specs.Ordering.{nat_cmp, ordering_then}
use Rattle.std.specs.declared.cmp.Ordering.{Ordering}
use Rattle.std.specs.declared.cmp.Ordering.TheVariants.{Less}
use Rattle.module_rewrites.specs.Scope.{Scope}
use Rattle.module_rewrites.specs.declared.mutation.MutationError.{MutationError}
use Rattle.module_rewrites.specs.declared.mutation.MutationError.TheVariants as mutations

-- the order of size: by the number of bytes, and of two with as many as words stand in a dictionary, by the first byte that differs
abbrev pub size_order : (new old : List ℕ) → Ordering
size_order new old = ordering_then (nat_cmp (length new) (length old)) (slice_cmp nat_cmp new old)

-- it comes before the old one in that order
abbrev pub IsSmaller : (new old : List ℕ) → Type 0
IsSmaller new old = size_order new old ≡ Less

-- The new module has no more bytes than it may, and is smaller where it is to be made so.
pub record IsSmallEnough (scope : Scope) (bytes new : List ℕ) : Type 0 where
  pub few : length new ≤ scope.most
  pub smaller : scope.shrinking ≡ true → IsSmaller new bytes

-- why the new module isn't small enough
abbrev pub IsNotFor : Scope → (bytes new : List ℕ) → MutationError → Type 0
IsNotFor scope bytes new mutations.TooLong = (scope.most < length new) × (scope.shrinking ≡ true → IsSmaller new bytes)
IsNotFor scope bytes new mutations.NotSmaller = (scope.shrinking ≡ true) × ¬ (IsSmaller new bytes)
IsNotFor scope bytes new e = ⊥
