-- What a line of the table makes, as code has it (this project).
use Rattle.std.specs.Prelude.{◌≡◌, ℕ, List}
use Rattle.wasm_code.specs.declared.operator.Operator.{Operator}
use Rattle.wasm_execution.specs.Values.{Context}
use Rattle.body_rewrites.specs.declared.changes.NewCode.{NewCode}
use Rattle.body_rewrites.specs.declared.places.Body.{Body}
use Rattle.body_rewrites.specs.declared.places.Line.{Line}
use Rattle.body_rewrites.specs.Places.{context_of}
use Rattle.body_rewrites.specs.Changes.{Change, IsWritten}
use Rattle.body_rewrites.specs.declared.growth.Growth.{Growth}
use Rattle.body_rewrites.specs.Rewrites.{growth_of, IsLineChange}

-- The code is what the line makes at the operator, by the word.
pub record IsLineCodeOf (body : Body) (line : Line) (at word : ℕ) (code : NewCode) : Type 0 where
  pub change : Change
  pub makes : IsLineChange (context_of body) body.operators.now line at change
  pub written : IsWritten change word code

-- the line makes nothing there
abbrev pub LineMakesNothing : Body → Line → (at : ℕ) → Type 0
LineMakesNothing body line at = (change : Change) → ¬ (IsLineChange (context_of body) body.operators.now line at change)

-- The line makes something there, which does that to the number of operators.
pub record LineChangeGrows (context : Context) (operators : List (Operator × ℕ)) (line : Line) (at : ℕ) (growth : Growth) : Type 0 where
  pub change : Change
  pub makes : IsLineChange context operators line at change
  pub growth_is : growth_of operators at change ≡ growth
