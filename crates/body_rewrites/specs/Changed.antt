-- A body with a change in it: its bytes, how it is read again, and that it does what the body did (this project).
use Rattle.std.specs.Prelude.{◌≡◌, ℕ, ◌+◌, ◌<◌, List, length}
use Rattle.std.specs.List.{All}
use Rattle.wasm_code.specs.declared.operator.Operator.{Operator}
use Rattle.body_splices.specs.OwnBytes.{IsBodyIn, own_bytes, bytes_where, structural_bytes, without_offsets}
use Rattle.body_splices.specs.Laws.{AreInstructions, KeepsInstructions}
use Rattle.body_splices.specs.Splice.{AppendsSpliced}
use Rattle.wasm_execution.specs.Values.{Context}
use Rattle.wasm_equivalence.specs.control.Standard.{asks_beyond}
use Rattle.body_rewrites.specs.Doing.{DoesAsBody}
use Rattle.body_rewrites.specs.Changes.{Change, MayStand}

-- The sink has grown by the body with the change by the word: the bytes outside stand as they stood, it is read again so, and does what the body did. The
-- operators that ask more than they carry have the bytes that they had; and so have all structural operators, where instructions were replaced by
-- instructions.
pub record AppendsChanged (context : Context) (input : List ℕ) (operators : List (Operator × ℕ)) (at : ℕ) (change : Change) (word : ℕ) (old new : List ℕ) :
    Type 0 where
  pub spliced : AppendsSpliced input operators change.start (at + 1) (change.pieces word) old new
  pub whole : DoesAsBody context change.asks (without_offsets operators) (without_offsets spliced.again)
  pub asking : bytes_where asks_beyond (own_bytes spliced.text spliced.again) ≡ bytes_where asks_beyond (own_bytes input operators)
  pub structure : AreInstructions operators change.start (at + 1) → All (KeepsInstructions operators) (change.pieces word) →
      structural_bytes (own_bytes spliced.text spliced.again) ≡ structural_bytes (own_bytes input operators)

-- A body in which a change is written that may stand there does what it did.
abbrev pub ChangedBodiesDoAsBefore : Type 0
ChangedBodiesDoAsBefore =
    (context : Context) (input : List ℕ) (operators : List (Operator × ℕ)) (at : ℕ) (change : Change) (word : ℕ) (old new : List ℕ) →
    IsBodyIn input operators → at < length operators → MayStand context operators at change →
    AppendsSpliced input operators change.start (at + 1) (change.pieces word) old new →
    AppendsChanged context input operators at change word old new
