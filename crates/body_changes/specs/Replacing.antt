-- Instructions of a body replaced by others that leave the same types: when they may be, and what the body then is (this project).
use Rattle.std.specs.Prelude.{◌≡◌, ◌<◌, ℕ, List, map, Some, slice_get, slice_range}
use Rattle.wasm_code.specs.Instruction.{Instruction}
use Rattle.wasm_code.specs.declared.operator.Operator.{Operator}
use Rattle.wasm_code.specs.declared.operator.Operator.TheVariants.{Instr}
use Rattle.wasm_types.specs.declared.types.PrimitiveTypeInfo.{PrimitiveTypeInfo}
use Rattle.body_splices.specs.OwnBytes.{without_offsets}
use Rattle.body_splices.specs.Splice.{AppendsSpliced}
use Rattle.body_splices.specs.declared.piece.Piece.{Piece}
use Rattle.body_splices.specs.declared.piece.Piece.TheVariants.{New}
use Rattle.wasm_execution.specs.Values.{Context, context_in}
use Rattle.wasm_equivalence.specs.control.Wider.{wider}
use Rattle.wasm_equivalence.specs.validation.StaysValid.{StaysValid}
use Rattle.body_changes.specs.declared.source.Source.{Source}
use Rattle.body_changes.specs.Typed.{LeavesTypes}

-- what a body's instructions may name
abbrev pub source_context : Source → Context
source_context source = context_in source.info.now source.locals.now

-- The operators are these instructions, one by one.
pub record AreTheseInstructions (operators : List (Operator × ℕ)) (code : List Instruction) : Type 0 where
  pub are : without_offsets operators ≡ map (λ (i : Instruction). Instr i) code

-- that instruction stands there
abbrev pub HasInstruction : List (Operator × ℕ) → (at : ℕ) → Instruction → Type 0
HasInstruction operators at i = slice_get (without_offsets operators) at ≡ Some (Instr i)

-- Instructions stand there, at least one, which need nothing from what stands before them and leave values of these types.
pub record IsClosed (context : Context) (operators : List (Operator × ℕ)) (start end : ℕ) (types : List PrimitiveTypeInfo) : Type 0 where
  pub some : start < end
  pub own : List Instruction
  pub stands : AreTheseInstructions (slice_range operators start end) own
  pub leaves : LeavesTypes context own types

-- The code may stand in their place: it leaves the same.
pub record CanReplace (context : Context) (operators : List (Operator × ℕ)) (start end : ℕ) (code : List Instruction) : Type 0 where
  pub types : List PrimitiveTypeInfo
  pub closed : IsClosed context operators start end types
  pub leaves : LeavesTypes context code types

-- each instruction as a piece of a body
abbrev pub new_pieces : List Instruction → List Piece
new_pieces code = map (λ (i : Instruction). New i) code

-- The sink has grown by the body with that code in their place: every byte outside stands as it stood, and it is read again as the operators before, the code
-- and the operators behind. It is valid wherever the old body was, whatever globals stand behind the module's.
pub record AppendsReplaced (context : Context) (input : List ℕ) (operators : List (Operator × ℕ)) (start end : ℕ) (code : List Instruction)
    (old new : List ℕ) : Type 0 where
  pub can : CanReplace context operators start end code
  pub spliced : AppendsSpliced input operators start end (new_pieces code) old new
  pub valid : (bytes : List ℕ) (more : List PrimitiveTypeInfo) →
      StaysValid context (wider bytes more context) (without_offsets operators) (without_offsets spliced.again)
