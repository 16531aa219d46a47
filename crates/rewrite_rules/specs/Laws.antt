-- What holds of lines that are well formed and right (this project).
use Rattle.std.specs.Prelude.{◌≡◌, ℕ, true, List, []}
use Rattle.wasm_code.specs.Instruction.{Instruction}
use Rattle.wasm_execution.specs.Values.{Context}
use Rattle.rewrite_rules.specs.Line.{Line, is_formed, IsRight}
use Rattle.rewrite_rules.specs.Table.{OfEachLine}
use Rattle.rewrite_rules.specs.Instance.{code_of, Applies, StandsFor}

-- Where a line that is well formed and right applies, what it writes may stand in the place of what it is an instance of.
abbrev pub LinesKeepCode : Type 0
LinesKeepCode =
    (l : Line) → is_formed l ≡ true → IsRight l → (context : Context) (x : ℕ → List Instruction) (c : ℕ → ℕ) (words : List ℕ) → Applies context l x c →
    StandsFor context (code_of x c [] l.left) (code_of x c words l.right)

-- Every line of the table is well formed, and right.
pub record TableIsRight : Type 0 where
  pub formed : OfEachLine (λ l. is_formed l ≡ true)
  pub right : OfEachLine IsRight
  -- So where one applies, what it writes may stand in the place of what it is an instance of.
  pub keeps : OfEachLine (λ l. (context : Context) (x : ℕ → List Instruction) (c : ℕ → ℕ) (words : List ℕ) → Applies context l x c →
      StandsFor context (code_of x c [] l.left) (code_of x c words l.right))
