-- Rewrites of a module one after another, as words of the generator choose them (this project).
use Rattle.std.specs.Prelude.{◌≡◌, ℕ, List, [], ◌∷◌, Option, IfSome}
use Rattle.rand_core.specs.Stream.{Stream}
use Rattle.module_rewrites.specs.Chosen.{ChoosesOfModule, GivesUp}
use Rattle.module_rewrites.specs.Mutated.{IsOfSize}
use Rattle.module_rewrites.specs.Scope.{Scope}
use Rattle.module_rewrites.specs.declared.mutation.MutationError.{MutationError}
use Rattle.module_rewrites.specs.declared.times.MadeRewrite.{MadeRewrite}

-- The words choose these rewrites and the new bytes: the first one of the module, and each other one of the module that the one before it left, by the words
-- behind those that it took. `after` is what the generator gives behind them all.
abbrev pub ChoosesEach : Scope → (bytes : List ℕ) → Stream → List MadeRewrite → (new : List ℕ) → (after : Stream) → Type 0
ChoosesEach scope bytes stream [] new after = (new ≡ bytes) × (after ≡ stream)
ChoosesEach scope bytes stream (m ∷ ms) new after =
    (next : List ℕ) × (left : Stream) × ChoosesOfModule scope bytes stream m.function m.rewrite next left × ChoosesEach scope next left ms new after

-- So they do; and where a further rewrite is refused for a size, the words behind those choose none that fits.
pub record ChoosesTimes (scope : Scope) (bytes : List ℕ) (stream : Stream) (made : List MadeRewrite) (new : List ℕ) (stopped : Option MutationError) :
    Type 0 where
  pub after : Stream
  pub each : ChoosesEach scope bytes stream made new after
  pub gives_up : IfSome stopped (λ e. IsOfSize e → GivesUp scope new after)
