-- What a call leaves in the buffer that it was given (this project).
use Rattle.std.specs.Prelude.{◌≡◌, ◌≢◌, ◌⊎◌, ℕ, ◌<◌, ◌≤◌, List, ◌++◌, length, take, drop, Option, Some, None, All, false}
use Rattle.rewrite_rules.specs.Names.{rule_of}
use Rattle.module_rewrites.specs.Attempt.{IsForSize, IsReason}
use Rattle.module_rewrites.specs.Chosen.{GivesUp}
use Rattle.module_rewrites.specs.ChosenTimes.{ChoosesTimes}
use Rattle.module_rewrites.specs.DoesAsBefore.{DoesAsBefore}
use Rattle.module_rewrites.specs.Dose.{IsDoseOf}
use Rattle.module_rewrites.specs.Mutates.{Mutates}
use Rattle.module_rewrites.specs.Scope.{Scope}
use Rattle.module_rewrites.specs.Seeded.{seeded}
use Rattle.module_rewrites.specs.declared.attempt.Reason.{Reason}
use Rattle.module_rewrites.specs.declared.dose.Dose.{Dose}
use Rattle.module_rewrites.specs.declared.dose.Dose.TheVariants.{Times}
use Rattle.module_rewrites.specs.declared.mutation.MutationError.{MutationError}
use Rattle.module_rewrites.specs.declared.times.MadeRewrite.{MadeRewrite}
use Rattle.teddertempo_c.specs.Rules.{every_rule}

-- What is asked for: the generator's seed, what of the module may be rewritten, and how many rewrites.
pub record Asked : Type 0 where
  pub seed : ℕ
  pub scope : Scope
  pub dose : Dose

-- The new bytes are the module with these rewrites made, at most as many as are asked for, which the seed chooses; it is valid where the old one was, and
-- does what that did.
pub record IsRewrittenBy (asked : Asked) (bytes : List ℕ) (made : List MadeRewrite) (new : List ℕ) : Type 0 where
  pub count : ℕ
  pub count_is : IsDoseOf asked.dose asked.scope.function bytes count
  pub stopped : Option MutationError
  pub mutates : Mutates asked.scope count bytes made new stopped
  pub chosen : ChoosesTimes asked.scope bytes (seeded asked.seed) made new stopped
  pub does_as_before : DoesAsBefore asked.scope.exact bytes new

-- Nothing of the module is rewritten, for this reason; for a size only where the seed chooses no rewrite that fits.
pub record IsRefusedFor (asked : Asked) (bytes : List ℕ) (reason : Reason) : Type 0 where
  pub is : IsReason asked.scope bytes reason
  pub gives_up : IsForSize reason → GivesUp asked.scope bytes (seeded asked.seed)

-- Of the buffer only the first bytes are written, the result says how many: none, where it is 0.
pub record WritesFront (old : List ℕ) (result : ℕ) (new : List ℕ) : Type 0 where
  pub inside : result ≤ length old
  pub whole : length new ≡ length old
  pub behind : drop result new ≡ drop result old
  pub untouched : result ≡ 0 → new ≡ old

-- ---- the simple call

-- one rewrite, by any rule in any function, in so many bytes
abbrev pub once : (seed room : ℕ) → Asked
once seed room = record { seed = seed; scope = record { rules = every_rule; function = None; most = room; shrinking = false; exact = false }; dose = Times 1 }

-- The first `size` bytes were a module, and the first ones now, the result says how many, are that module rewritten once.
pub record IsRewrittenOnce (seed size : ℕ) (old : List ℕ) (result : ℕ) (new : List ℕ) : Type 0 where
  pub inside : size ≤ length old
  pub made : List MadeRewrite
  pub is : IsRewrittenBy (once seed (length old)) (take size old) made (take result new)

-- The buffer doesn't have so many bytes, or there is a reason.
abbrev pub IsNotRewritten : (seed size : ℕ) → (old : List ℕ) → Type 0
IsNotRewritten seed size old = (length old < size) ⊎ ((reason : Reason) × IsRefusedFor (once seed (length old)) (take size old) reason)

-- What the simple call does: it writes a rewritten module to the front of the buffer, or answers 0 and writes nothing.
pub record RewritesOnce (seed size : ℕ) (old : List ℕ) (result : ℕ) (new : List ℕ) : Type 0 where
  pub writes : WritesFront old result new
  pub rewritten : result ≢ 0 → IsRewrittenOnce seed size old result new
  pub refused : result ≡ 0 → IsNotRewritten seed size old

-- ---- for private functions

-- the row of the table is one of a rule
abbrev pub IsOfSomeRule : (row : ℕ) → Type 0
IsOfSomeRule row = (number : ℕ) × (rule_of row ≡ Some number)

abbrev pub HasRule : MadeRewrite → Type 0
HasRule m = IsOfSomeRule m.rewrite.row

-- a module that rewrites made: there is one, each is by a rule, and its bytes are some, and at most so many
pub record Fits (most : ℕ) (made : List MadeRewrite) (new : List ℕ) : Type 0 where
  pub one : 0 < length made
  pub named : All HasRule made
  pub some : 0 < length new
  pub fits : length new ≤ most

-- the bytes are written over the front of the buffer, and the result is how many they are
pub record IsPutInBuffer (bytes old : List ℕ) (result : ℕ) (new : List ℕ) : Type 0 where
  pub size : result ≡ length bytes
  pub is : new ≡ bytes ++ drop (length bytes) old
