-- Words that choose a rewrite of a body (this project).
use Rattle.std.specs.Prelude.{◌≡◌, ◌<◌, ◌^◌, ℕ, List, [], ◌∷◌}
use Rattle.rand_core.specs.Stream.{Stream, next_u64}
use Rattle.wasm_code.specs.declared.operator.Operator.{Operator}
use Rattle.wasm_execution.specs.Values.{Context}
use Rattle.rewrite_rules.specs.declared.rule.Rule.{Rule}
use Rattle.body_rewrites.specs.Choice.{Chooses}
use Rattle.body_rewrites.specs.declared.growth.Growth.{Growth}
use Rattle.body_rewrites.specs.declared.rewrite.Rewrite.{Rewrite}

-- these words of 64 bits come next
abbrev pub BeginsWithWords : (words : List ℕ) → Stream → Type 0
BeginsWithWords [] s = Unit {0}
BeginsWithWords (word ∷ words) s = ((next_u64 s).0 ≡ word) × BeginsWithWords words (next_u64 s).1

-- Three words of 64 bits with which every generator that begins with them chooses the rewrite, of those of the body by one of the rules that do one of the
-- wanted things to the number of operators.
pub record HasWords (context : Context) (rules : List Rule) (wanted : List Growth) (operators : List (Operator × ℕ)) (r : Rewrite) : Type 0 where
  pub one : ℕ
  pub two : ℕ
  pub three : ℕ
  pub one_fits : one < 2 ^ 64
  pub two_fits : two < 2 ^ 64
  pub three_fits : three < 2 ^ 64
  pub choose : (stream : Stream) → BeginsWithWords (one ∷ two ∷ three ∷ []) stream → Chooses context stream rules wanted operators r
