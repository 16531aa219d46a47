-- What holds of what rewrites make (this project).
use Rattle.std.specs.Prelude.{◌≡◌, ℕ, ◌<◌, List, length}
use Rattle.wasm_code.specs.declared.operator.Operator.{Operator}
use Rattle.wasm_execution.specs.Values.{Context}
use Rattle.body_rewrites.specs.declared.changes.NewCode.{NewCode}
use Rattle.body_rewrites.specs.declared.places.Body.{Body}
use Rattle.body_rewrites.specs.declared.places.Line.{Line}
use Rattle.body_rewrites.specs.Changes.{Change, IsWritten, MayStand}
use Rattle.body_rewrites.specs.Places.{context_of}
use Rattle.body_rewrites.specs.Rewrites.{IsAsked, Makes}

-- What a row makes for a width that it is asked for may stand in the place of what stood there, where an operator of the body is; and it
-- makes one thing at most.
pub record ChangesMayStand : Type 0 where
  pub stand : (context : Context) (operators : List (Operator × ℕ)) (number : ℕ) (line : Line) (at : ℕ) (change : Change) → IsAsked number line →
      Makes context operators line at change → MayStand context operators at change
  pub inside : (context : Context) (operators : List (Operator × ℕ)) (line : Line) (at : ℕ) (change : Change) → Makes context operators line at change →
      at < length operators
  pub one : (context : Context) (operators : List (Operator × ℕ)) (line : Line) (at : ℕ) (change other : Change) →
      Makes context operators line at change → Makes context operators line at other → change ≡ other

-- what stands for private functions: the code is what some change of the body writes that may stand there
pub record HasChange (body : Body) (at : ℕ) (code : NewCode) : Type 0 where
  pub change : Change
  pub word : ℕ
  pub written : IsWritten change word code
  pub may : MayStand (context_of body) body.operators.now at change
  pub inside : at < length body.operators.now
