-- A module rewritten by rules several times, one rewrite after another (this project).
use Rattle.std.specs.Prelude.{◌≡◌, ℕ, ◌<◌, ◌≤◌, List, [], ◌∷◌, length, Option, Some, None}
use Rattle.wasm_sections.specs.declared.fault.ModuleFault.TheVariants as faults
use Rattle.module_rewrites.specs.Mutated.{CannotMutate, IsMutated, RefusesMutation}
use Rattle.module_rewrites.specs.Scope.{Scope}
use Rattle.module_rewrites.specs.declared.mutation.MutationError.{MutationError}
use Rattle.module_rewrites.specs.declared.mutation.MutationError.TheVariants.{Read}
use Rattle.module_rewrites.specs.declared.times.MadeRewrite.{MadeRewrite}

-- The new bytes are the module with these rewrites made, the first one of the module, and each other one of the module that the one before it left.
abbrev pub RewritesEach : Scope → (bytes : List ℕ) → List MadeRewrite → (new : List ℕ) → Type 0
RewritesEach scope bytes [] new = new ≡ bytes
RewritesEach scope bytes (m ∷ ms) new =
    (next : List ℕ) × IsMutated scope bytes m.function m.rewrite next × RewritesEach scope next ms new

-- A module that rewrites made is a module that can be read: it is refused so for want of memory alone.
abbrev pub IsReadOnceMade : MutationError → Type 0
IsReadOnceMade (Read e) = e.kind ≡ faults.Memory
IsReadOnceMade e = Unit {0}

-- Why no further rewrite was made of the module that the last one left: no rule applies any more, or that module is refused.
abbrev pub EndsFor : Scope → (bytes : List ℕ) → (stopped : Option MutationError) → Type 0
EndsFor scope bytes None = CannotMutate scope bytes
EndsFor scope bytes (Some e) = RefusesMutation scope bytes e × IsReadOnceMade e

-- The new bytes are the module with these rewrites made: one or more, at most `count`, and fewer only for that reason. Where there are as many, nothing
-- stopped them.
pub record Mutates (scope : Scope) (count : ℕ) (bytes : List ℕ) (made : List MadeRewrite) (new : List ℕ) (stopped : Option MutationError) : Type 0 where
  pub some : 0 < length made
  pub most : length made ≤ count
  pub each : RewritesEach scope bytes made new
  pub fewer : length made < count → EndsFor scope new stopped
  pub all : length made ≡ count → stopped ≡ None
