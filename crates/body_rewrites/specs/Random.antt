-- A body with a rewrite that words of a generator choose (this project).
use Rattle.std.specs.Prelude.{◌≡◌, ℕ, List, [], length}
use Rattle.rand_core.specs.Stream.{Stream, next_u64}
use Rattle.wasm_code.specs.declared.operator.Operator.{Operator}
use Rattle.wasm_types.specs.declared.types.PrimitiveTypeInfo.{PrimitiveTypeInfo}
use Rattle.wasm_execution.specs.Values.{Context}
use Rattle.rewrite_rules.specs.declared.rule.Rule.{Rule}
use Rattle.body_rewrites.specs.declared.growth.Growth.{Growth}
use Rattle.body_rewrites.specs.declared.rewrite.Rewrite.{Rewrite}
use Rattle.body_rewrites.specs.Choice.{after_word, after_choice, Chooses}
use Rattle.body_rewrites.specs.Listing.{AreThose, IsWantedBy}
use Rattle.body_rewrites.specs.Rewrites.{asked_below, AppendsRewritten}

-- The sink has grown by the body with the rewrite that three words choose, of those by one of the rules that do one of the wanted things to the number of
-- operators; a fourth word is for a number that the new code draws. `after` is what the generator gives behind these, and the types are
-- those of the globals that the new code asks for.
pub record AppendsByWords (context : Context) (stream : Stream) (rules : List Rule) (wanted : List Growth) (input : List ℕ)
    (operators : List (Operator × ℕ)) (r : Rewrite) (old new : List ℕ) (asks : List PrimitiveTypeInfo) (after : Stream) : Type 0 where
  pub chooses : Chooses context stream rules wanted operators r
  pub appends : AppendsRewritten context input operators r (next_u64 (after_choice stream)).0 old new asks
  pub after_is : after ≡ after_word (after_choice stream)

-- there is no rewrite of the body by one of the rules that does one of the wanted things to the number of operators
abbrev pub HasNoRewrite : Context → List Rule → List Growth → List (Operator × ℕ) → Type 0
HasNoRewrite context rules wanted operators = AreThose (IsWantedBy context operators rules wanted) (asked_below (length operators)) []
